use Rattle.std.proofs.Common.{◌≡◌, drop}
use Rattle.job_row.specs.Entries.{each_changed}
use Rattle.row_copy.specs.CopyViews.{spill_begun_if}
use Rattle.job_row.proofs.copies.Copies.begin_spills.Given as goal

-- once those that are left are changed they are what they are to be
abbrev pub invariant-loop-id : goal.invariant-loop-id
invariant-loop-id l = each_changed spill_begun_if l.self (drop l.id-index l.ids) ≡ each_changed spill_begun_if l.initial.self l.ids
