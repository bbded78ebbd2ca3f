use Rattle.std.proofs.Common.{◌≡◌, ◌≤◌, ◌-◌, drop, take, ◌++◌, length}
use Rattle.private_store.specs.rules.Directory.{entry_placed}
use Rattle.owner_directory.proofs.entries.put_entry.Given as goal

abbrev pub invariant-loop-at : goal.invariant-loop-at
invariant-loop-at l = record {
  within : l.at ≤ length l.entries.items;
  same : l.entries ≡ l.fn.entries;
  on : take l.at l.entries.items ++ entry_placed l.entry (drop l.at l.entries.items) ≡ entry_placed l.entry l.entries.items;
}

abbrev pub decreases-loop-at : goal.decreases-loop-at
decreases-loop-at l = length l.entries.items - l.at
