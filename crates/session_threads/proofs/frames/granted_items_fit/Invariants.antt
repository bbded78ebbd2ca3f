use Rattle.std.proofs.Common.{◌≡◌, ◌+◌, ◌*◌, length, drop, flat_map}
use Rattle.private_store.specs.rules.Frames.{granted_bytes}
use Rattle.session_threads.proofs.frames.granted_items_fit.Given as goal

abbrev pub invariant-loop-item : goal.invariant-loop-item
invariant-loop-item l = length (flat_map granted_bytes l.items) ≡ 33 * l.item-index + length (flat_map granted_bytes (drop l.item-index l.items))
