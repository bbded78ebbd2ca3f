use Rattle.std.proofs.Common.{◌≡◌, drop}
use Rattle.spill_work.specs.Turns.{front_from}
use Rattle.spill_work.proofs.row.Row.front.Given as goal

-- the walk over those that are left ends where the walk over all does
abbrev pub invariant-loop-timed : goal.invariant-loop-timed
invariant-loop-timed l = front_from l.first (drop l.timed-index l.timed-items) ≡ front_from l.fn.other l.timed-items
