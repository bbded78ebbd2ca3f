use Rattle.std.proofs.Common.{◌≡◌, ◌++◌, drop, flat_map}
use Rattle.private_store.specs.rules.Frames.{own_bytes}
use Rattle.wire_frames.proofs.replies.own_bytes.Given as goal

abbrev pub invariant-loop-item : goal.invariant-loop-item
invariant-loop-item l = l.bytes.items ++ flat_map own_bytes (drop l.item-index l.own) ≡ flat_map own_bytes l.own
