use Rattle.std.proofs.Common.{◌≡◌, None}
use Rattle.spill_work.specs.Turns.{all_of, front_from}
use Rattle.spill_work.proofs.by_job.front.Given as goal

-- the walk over the rows that are left ends where the walk over all does
abbrev pub invariant-loop-row : goal.invariant-loop-row
invariant-loop-row l = front_from l.first (all_of l.row-iterator) ≡ front_from None (all_of l.rows.entries)
