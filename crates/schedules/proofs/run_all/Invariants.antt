use Rattle.std.proofs.Common.{◌≡◌, ◌≤◌}
use Rattle.schedules.proofs.run_all.Given as goal

abbrev pub invariant-loop-name : goal.invariant-loop-name
invariant-loop-name l = record { all : l.tally.compared ≡ l.name-index; fewer : l.tally.differing ≤ l.tally.compared }
