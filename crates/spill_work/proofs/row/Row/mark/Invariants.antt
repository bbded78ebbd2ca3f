use Rattle.std.proofs.Common.{◌≡◌, ◌++◌, drop, take, map}
use Rattle.spill_work.specs.Turns.{with_mark}
use Rattle.spill_work.proofs.row.Row.mark.Given as goal

abbrev pub invariant-loop-timed : goal.invariant-loop-timed
invariant-loop-timed l = l.timed-items ≡ map (with_mark l.number) (take l.timed-index l.initial.timed-items) ++ drop l.timed-index l.initial.timed-items
