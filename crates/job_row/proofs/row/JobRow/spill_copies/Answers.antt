use Rattle.std.proofs.Common.{[], ap}
use Rattle.private_store.specs.rules.Copies.{extent_of}
use Rattle.row_copy.specs.CopyViews.{spill_begun_if}
use Rattle.job_row.proofs.Places.{each_placed}
use Rattle.job_row.proofs.FollowsCopies.{each_but, each_keep}
use Rattle.job_row.proofs.row.JobRow.spill_copies.Goals as goal
use Rattle.row_copy.proofs.ForCallers.{same_copy}

pub invariant_of-self : goal.invariant_of-self
invariant_of-self c = (
  each_placed c.self.inside.window.placed c.self.inside.copies c.self.invariant.0 spill_begun_if (λ z. ap extent_of (same_copy z)) c.args.ids.now c.begin_spills.new.self c.begin_spills.ensures,
  c.sync_each.ensures.infos [] c.self.inside.copies (each_but spill_begun_if c.args.ids.now c.self.inside.copies c.begin_spills.new.self c.begin_spills.ensures)
      (each_keep spill_begun_if (λ z. ap extent_of (same_copy z)) c.args.ids.now c.self.inside.copies c.begin_spills.new.self c.begin_spills.ensures) c.self.invariant.1,
)
