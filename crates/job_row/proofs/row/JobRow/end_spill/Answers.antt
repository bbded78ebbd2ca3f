use Rattle.std.proofs.Common.{◌≡◌, ◌||◌, Bool, sym, ap, ◌∙◌}
use Rattle.private_store.specs.rules.Tables.{at}
use Rattle.lru_evictor.specs.Orders.{order_ids}
use Rattle.job_row.specs.Answering.{written_row}
use Rattle.row_copy.specs.CopyViews.{after_write}
use Rattle.job_row.specs.Row.{Row}
use Rattle.job_row.specs.Scope.{with_copy}
use Rattle.job_row.proofs.row.JobRow.end_spill.Goals as goal
use Rattle.job_row.proofs.row.JobRow.end_spill.Goals.{then-failed, else-failed}

pub apply-requires-clause-can : goal.apply-requires-clause-can
apply-requires-clause-can c k found = c.requires k (ap (λ (r : Row). at r.copies c.args.id.now) (sym c.self.view_is) ∙ found)

pub returns : goal.returns
returns c =
    let failed : c.if-failed.self ≡ (c.args.failed || c.self.inside.spill_failed) = elim c.if-failed.branch [
      | then-failed w ↦ w.self-is ∙ w.if-failed.true ∙ sym (ap (λ b. b || c.self.inside.spill_failed) w.if-failed.true)
      | else-failed w ↦ w.self-is ∙ sym (ap (λ b. b || c.self.inside.spill_failed) w.if-failed.false)
    ] in
    c.apply.ensures.row ∙ ap row_with failed ∙ ap (λ r. written_row c.args.number c.args.failed r c.args.id.now) c.self.view_is
  where
    row_with : Bool → Row
    row_with b =
        with_copy (after_write c.args.number c.args.failed)
        (record { job = c.self.inside.job.0; window = c.self.inside.window; device = c.self.inside.device_quota; copies = c.self.inside.copies; order = order_ids c.self.inside.order; fetches_begun = c.self.inside.fetches_begun; spill_failed = b; ended_tasks = c.self.inside.ended_tasks.keys })
        c.args.id.now
