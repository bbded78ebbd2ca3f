use Rattle.std.proofs.Common.{List, sym, ap, subst, ◌∙◌}
use Rattle.std.specs.Prelude.{option_to_list}
use Rattle.std.specs.Option.{option_and_then}
use Rattle.obj_id.specs.declared.ids.ObjectId.{ObjectId}
use Rattle.private_store.specs.rules.Tables.{ById, at}
use Rattle.private_store.specs.rules.Copies.{extent_of}
use Rattle.job_region.specs.Region.{Region, without}
use Rattle.row_copy.specs.CopyViews.{CopyView}
use Rattle.job_row.specs.Row.{Row, place_of, ArePlaced}
use Rattle.job_row.specs.Dropping.{dropped}
use Rattle.job_row.specs.InSync.{is_in_sync}
use Rattle.job_row.proofs.FollowsCopies.{removed_but, others_followed}
use Rattle.job_row.proofs.row.JobRow.drop_copy.Goals as goal
use Rattle.job_row.proofs.FreedPlaces.{left_placed, slice_is}

pub invariant_of-self : goal.invariant_of-self
invariant_of-self c =
    let gone = slice_is c.extent_of_any-gone.result c.as_slice.result.now c.as_slice.ensures ∙ ap option_to_list (c.extent_of_any-gone.ensures ∙ ap (option_and_then (λ (k : CopyView). extent_of k.copy)) (c.as_ref.ensures.value ∙ c.take-copy.ensures.taken)) in
    let window = c.give_back_all.ensures ∙ ap (λ gs. record c.self.inside.window { placed = without gs c.self.inside.window.placed }) gone in (
      subst (λ (w : Region). ArePlaced w.placed (place_of c.take-copy.new.self)) (sym window)
          (subst (λ t. ArePlaced (without (option_to_list (place_of c.self.inside.copies c.args.id.now)) c.self.inside.window.placed) (place_of t)) (sym c.take-copy.ensures.copies)
          (left_placed c.self.inside.window.placed c.self.inside.copies c.self.invariant.0 c.args.id.now)),
      c.forget.ensures.infos (is_in_sync c.take-copy.new.self)
          (others_followed c.args.id.now c.self.inside.copies c.take-copy.new.self (removed_but c.self.inside.copies c.take-copy.new.self c.args.id.now c.take-copy.ensures.copies) c.self.inside.order c.self.invariant.1),
    )

pub returns-clause-copy : goal.returns-clause-copy
returns-clause-copy c = c.take-copy.ensures.taken ∙ ap (λ (r : Row). at r.copies c.args.id.now) c.self.view_is

pub returns-clause-row : goal.returns-clause-row
returns-clause-row c =
    let gone = slice_is c.extent_of_any-gone.result c.as_slice.result.now c.as_slice.ensures ∙ ap option_to_list (c.extent_of_any-gone.ensures ∙ ap (option_and_then (λ (k : CopyView). extent_of k.copy)) (c.as_ref.ensures.value ∙ c.take-copy.ensures.taken)) in
    let window = c.give_back_all.ensures ∙ ap (λ gs. record c.self.inside.window { placed = without gs c.self.inside.window.placed }) gone in
    (λ i. row_of (window i) (c.take-copy.ensures.copies i) (c.forget.ensures.ids i)) ∙ ap (λ r. dropped r c.args.id.now) c.self.view_is
  where
    row_of : Region → ById CopyView → List ObjectId → Row
    row_of window copies order = record { job = c.self.inside.job.0; window = window; device = c.self.inside.device_quota; copies = copies; order = order; fetches_begun = c.self.inside.fetches_begun; spill_failed = c.self.inside.spill_failed; ended_tasks = c.self.inside.ended_tasks.keys }
