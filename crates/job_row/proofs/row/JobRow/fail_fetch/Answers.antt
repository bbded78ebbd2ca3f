use Rattle.std.proofs.Common.{List}
use Rattle.obj_id.specs.declared.ids.ObjectId.{ObjectId}
use Rattle.row_copy.specs.Arriving.{after_failed_fetch}
use Rattle.std.proofs.Common.{refl, sym, ap, subst, ◌∙◌}
use Rattle.std.specs.Prelude.{option_to_list}
use Rattle.private_store.specs.rules.Tables.{ById}
use Rattle.job_region.specs.Region.{Region, without}
use Rattle.job_row.specs.Arriving.{unfetched_row}
use Rattle.row_copy.specs.CopyViews.{CopyView}
use Rattle.job_row.specs.Row.{Row, place_of, ArePlaced}
use Rattle.job_row.proofs.FollowsCopies.{one_changed}
use Rattle.job_row.proofs.row.JobRow.fail_fetch.Goals as goal
use Rattle.job_row.proofs.FreedPlaces.{slice_is, unfetched_placed}

pub invariant_of-self : goal.invariant_of-self
invariant_of-self c =
    let gone = slice_is c.place-gone.result c.as_slice.result.now c.as_slice.ensures ∙ ap option_to_list (c.place-gone.ensures ∙ ap (λ (r : Row). place_of r.copies c.args.id.now) (sym c.self.view_is)) in
    let window = c.give_back_all.ensures ∙ ap (λ gs. record c.self.inside.window { placed = without gs c.self.inside.window.placed }) gone in (
      subst (λ (w : Region). ArePlaced w.placed (place_of c.apply-after.new.self)) (sym window)
          (subst (λ t. ArePlaced (without (option_to_list (place_of c.self.inside.copies c.args.id.now)) c.self.inside.window.placed) (place_of t)) (sym c.apply-after.ensures.copies)
          (unfetched_placed c.self.inside.window.placed c.self.inside.copies c.self.invariant.0 c.args.id.now c.args.fault)),
      one_changed (after_failed_fetch c.args.fault) c.args.id.now c.self.inside.copies c.apply-after.new.self c.apply-after.ensures.copies c.apply-after.result.eviction_info c.apply-after.ensures.eviction_info c.self.inside.order c.set_info.new.self c.set_info.ensures.infos (λ z. refl) c.self.invariant.1,
    )

pub returns-clause-row : goal.returns-clause-row
returns-clause-row c =
    let gone = slice_is c.place-gone.result c.as_slice.result.now c.as_slice.ensures ∙ ap option_to_list (c.place-gone.ensures ∙ ap (λ (r : Row). place_of r.copies c.args.id.now) (sym c.self.view_is)) in
    let window = c.give_back_all.ensures ∙ ap (λ gs. record c.self.inside.window { placed = without gs c.self.inside.window.placed }) gone in
    (λ i. row_of (window i) (c.apply-after.ensures.copies i) (c.set_info.ensures.ids i)) ∙ ap (λ r. unfetched_row c.args.fault r c.args.id.now) c.self.view_is
  where
    row_of : Region → ById CopyView → List ObjectId → Row
    row_of window copies order = record { job = c.self.inside.job.0; window = window; device = c.self.inside.device_quota; copies = copies; order = order; fetches_begun = c.self.inside.fetches_begun; spill_failed = c.self.inside.spill_failed; ended_tasks = c.self.inside.ended_tasks.keys }
