use Rattle.std.proofs.Common.{◌≡◌, ◌≤◌, drop, length}
use Rattle.std.specs.Map.{values_of}
use Rattle.private_store.specs.rules.Grants.{grants_sorted}
use Rattle.grants.proofs.Ranked.{AreRanked}
use Rattle.grants.proofs.endings.sorted.Given as goal

abbrev pub invariant-loop-left : goal.invariant-loop-left
invariant-loop-left l = record {
  within : l.left ≤ length l.grants.items;
  on : values_of l.ranked.entries ≡ grants_sorted (drop l.left l.grants.items);
  ranked : AreRanked l.ranked.entries;
}

abbrev pub decreases-loop-left : goal.decreases-loop-left
decreases-loop-left l = l.left
