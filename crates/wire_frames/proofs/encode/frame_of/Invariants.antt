use Rattle.std.proofs.Common.{◌≡◌, ◌∷◌, ◌++◌, drop, flat_map}
use Rattle.private_store.specs.rules.Frames.{frame}
use Rattle.wire_frames.proofs.encode.frame_of.Given as goal

abbrev pub invariant-loop-part : goal.invariant-loop-part
invariant-loop-part l = l.frame.items ++ flat_map (λ part. part.now) (drop l.part-index l.parts) ≡ frame (l.kind ∷ flat_map (λ part. part.now) l.parts)
