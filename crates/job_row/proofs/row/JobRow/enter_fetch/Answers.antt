use Rattle.std.proofs.Common.{◌≡◌, List, None, refl, sym, ap, subst, ◌∙◌}
use Rattle.obj_id.specs.declared.ids.ObjectId.{ObjectId}
use Rattle.private_store.specs.rules.Tables.{ById, at, with_entry, without_entry}
use Rattle.row_copy.specs.CopyViews.{CopyView, fetched_copy_view}
use Rattle.job_row.specs.Row.{Row, place_of, ArePlaced}
use Rattle.job_row.proofs.Changes.{put_back}
use Rattle.job_row.proofs.Places.{entered_placed}
use Rattle.store_facts.proofs.Rows.{at-put_here}
use Rattle.lru_evictor.specs.Facts.{nowhere}
use Rattle.lru_evictor.specs.Orders.{order_ids}
use Rattle.job_row.specs.InSync.{is_in_sync, InSync}
use Rattle.job_row.proofs.FollowsCopies.{put_but, others_followed, standing_found, is_followed-itself}
use Rattle.job_row.proofs.row.JobRow.enter_fetch.Goals as goal

pub invariant_of-self-in-Err : goal.invariant_of-self-in-Err
invariant_of-self-in-Err c =
    let none : at c.self.inside.copies c.args.id.now ≡ None = ap (λ r. at r.copies c.args.id.now) c.self.view_is ∙ c.requires in
    let back = c.remove.ensures ∙ ap (λ t. without_entry t c.args.id.now) c.in_ok-insert.ensures.ok ∙ put_back c.args.id.now c.self.inside.copies _ none in (
      subst (λ t. ArePlaced c.self.inside.window.placed (place_of t)) (sym back) c.self.invariant.0,
      subst (λ t. InSync t c.enter.new.self) (sym back)
          (subst (InSync c.self.inside.copies) (sym c.in-Err.ensures.err) c.self.invariant.1),
    )

pub invariant_of-self-2 : goal.invariant_of-self-2
invariant_of-self-2 c =
    let none : at c.self.inside.copies c.args.id.now ≡ None = ap (λ r. at r.copies c.args.id.now) c.self.view_is ∙ c.requires in
    let fetched = c.in_ok-insert.ensures.ok ∙ ap (with_entry c.self.inside.copies c.args.id.now) c.fetching.ensures in (
      entered_placed c.self.inside.window.placed c.self.inside.copies c.args.id.now (fetched_copy_view c.args.number) c.insert.new.self none refl fetched c.self.invariant.0,
      c.in_default.ensures.infos (is_in_sync c.insert.new.self)
          (others_followed c.args.id.now c.self.inside.copies c.insert.new.self (put_but c.self.inside.copies c.insert.new.self c.args.id.now _ c.in_ok-insert.ensures.ok) c.self.inside.order c.self.invariant.1)
          (is_followed-itself c.insert.new.self c.args.id.now nowhere (sym (standing_found c.insert.new.self c.args.id.now (fetched_copy_view c.args.number) (ap (λ t. at t c.args.id.now) fetched ∙ at-put_here c.self.inside.copies c.args.id.now (fetched_copy_view c.args.number))))),
    )

pub returns-in-Err-clause-err : goal.returns-in-Err-clause-err
returns-in-Err-clause-err c =
    let none : at c.self.inside.copies c.args.id.now ≡ None = ap (λ r. at r.copies c.args.id.now) c.self.view_is ∙ c.requires in
    let back = c.remove.ensures ∙ ap (λ t. without_entry t c.args.id.now) c.in_ok-insert.ensures.ok ∙ put_back c.args.id.now c.self.inside.copies _ none in
    ap (λ (t : ById CopyView). row_of t (order_ids c.enter.new.self)) back
    ∙ ap (λ o. row_of c.self.inside.copies (order_ids o)) c.in-Err.ensures.err ∙ c.self.view_is
  where
    row_of : ById CopyView → List ObjectId → Row
    row_of copies order = record { job = c.self.inside.job.0; window = c.self.inside.window; device = c.self.inside.device_quota; copies = copies; order = order; fetches_begun = c.self.inside.fetches_begun; spill_failed = c.self.inside.spill_failed; ended_tasks = c.self.inside.ended_tasks.keys }
