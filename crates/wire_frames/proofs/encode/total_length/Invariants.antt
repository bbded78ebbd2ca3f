use Rattle.std.proofs.Common.{◌≡◌, ◌+◌, length, drop, flat_map}
use Rattle.wire_frames.proofs.encode.total_length.Given as goal

abbrev pub invariant-loop-part : goal.invariant-loop-part
invariant-loop-part l = l.total + length (flat_map (λ part. part.now) (drop l.part-index l.parts)) ≡ length (flat_map (λ part. part.now) l.parts)
