use Rattle.std.proofs.Common.{◌≡◌, ◌≤◌, ◌-◌, drop, take, ◌++◌, length}
use Rattle.grants.specs.Table.{with_seen}
use Rattle.grants.proofs.standing.put_seen.Given as goal

abbrev pub invariant-loop-at : goal.invariant-loop-at
invariant-loop-at l = record {
  within : l.at ≤ length l.seen.items;
  same : l.seen ≡ l.fn.seen;
  on : take l.at l.seen.items ++ with_seen l.grant (drop l.at l.seen.items) ≡ with_seen l.grant l.seen.items;
}

abbrev pub decreases-loop-at : goal.decreases-loop-at
decreases-loop-at l = length l.seen.items - l.at
