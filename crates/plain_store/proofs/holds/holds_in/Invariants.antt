use Rattle.std.proofs.Common.{◌≡◌, drop}
use Rattle.std.specs.Ordering.{nat_cmp}
use Rattle.std.specs.FinMap.{find}
use Rattle.plain_store.proofs.holds.holds_in.Given as goal

abbrev pub invariant-loop-other : goal.invariant-loop-other
invariant-loop-other l = find nat_cmp l.session (drop l.other-index l.holds) ≡ find nat_cmp l.session l.holds
