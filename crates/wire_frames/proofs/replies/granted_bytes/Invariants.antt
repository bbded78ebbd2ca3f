use Rattle.std.proofs.Common.{◌≡◌, ◌++◌, drop, flat_map}
use Rattle.private_store.specs.rules.Frames.{granted_bytes}
use Rattle.wire_frames.proofs.replies.granted_bytes.Given as goal

abbrev pub invariant-loop-item : goal.invariant-loop-item
invariant-loop-item l = l.bytes.items ++ flat_map granted_bytes (drop l.item-index l.granted) ≡ flat_map granted_bytes l.granted
