use Rattle.std.proofs.Common.{◌≡◌, ◌+◌, ◌*◌, length, drop, flat_map}
use Rattle.private_store.specs.rules.Frames.{own_bytes}
use Rattle.session_threads.proofs.frames.own_items_fit.Given as goal

abbrev pub invariant-loop-item : goal.invariant-loop-item
invariant-loop-item l = length (flat_map own_bytes l.items) ≡ 34 * l.item-index + length (flat_map own_bytes (drop l.item-index l.items))
