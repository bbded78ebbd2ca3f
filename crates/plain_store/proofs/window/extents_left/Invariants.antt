use Rattle.std.proofs.Common.{◌≡◌, ◌++◌}
use Rattle.plain_store.specs.Fits.{extents_left}
use Rattle.plain_store.proofs.window.extents_left.Given as goal

abbrev pub invariant-loop-id : goal.invariant-loop-id
invariant-loop-id l = l.extents.items ++ extents_left l.out l.id-iterator ≡ extents_left l.out l.copies.entries
