use Rattle.row_copy.specs.CopyViews.{after_failed_restore}
use Rattle.std.proofs.Common.{refl, sym, ap, subst, ◌∙◌}
use Rattle.std.specs.Prelude.{option_to_list}
use Rattle.job_region.specs.Region.{Region, without}
use Rattle.job_row.specs.Row.{Row, place_of, ArePlaced}
use Rattle.job_row.proofs.FollowsCopies.{one_changed}
use Rattle.job_row.proofs.row.JobRow.lose.Goals as goal
use Rattle.job_row.proofs.FreedPlaces.{lost_placed, slice_is}

pub invariant_of-self : goal.invariant_of-self
invariant_of-self c =
    let gone = slice_is c.place-gone.result c.as_slice.result.now c.as_slice.ensures ∙ ap option_to_list (c.place-gone.ensures ∙ ap (λ (r : Row). place_of r.copies c.args.id.now) (sym c.self.view_is)) in
    let window = c.give_back_all.ensures ∙ ap (λ gs. record c.self.inside.window { placed = without gs c.self.inside.window.placed }) gone in (
      subst (λ (w : Region). ArePlaced w.placed (place_of c.apply-after.new.self)) (sym window)
          (subst (λ t. ArePlaced (without (option_to_list (place_of c.self.inside.copies c.args.id.now)) c.self.inside.window.placed) (place_of t)) (sym c.apply-after.ensures.copies)
          (lost_placed c.self.inside.window.placed c.self.inside.copies c.self.invariant.0 c.args.id.now c.args.fault)),
      one_changed (after_failed_restore c.args.fault) c.args.id.now c.self.inside.copies c.apply-after.new.self c.apply-after.ensures.copies c.apply-after.result.eviction_info c.apply-after.ensures.eviction_info c.self.inside.order c.set_info.new.self c.set_info.ensures.infos (λ z. refl) c.self.invariant.1,
    )
