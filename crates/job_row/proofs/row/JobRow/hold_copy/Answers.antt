use Rattle.std.proofs.Common.{refl, subst}
use Rattle.std.specs.Prelude.{IfSome}
use Rattle.job_row.specs.Holding.{IsHeldAt}
use Rattle.row_copy.specs.CopyViews.{after_hold}
use Rattle.job_row.proofs.Places.{now_placed}
use Rattle.job_row.proofs.FollowsCopies.{changed_but, lies_keeps, changed_keep, told_alone}
use Rattle.job_row.proofs.row.JobRow.hold_copy.Goals as goal

pub invariant_of-self-2 : goal.invariant_of-self-2
invariant_of-self-2 c =
    let h : IsHeldAt c.self.inside.copies c.args.session c.args.id.now c.in-Some.held c.hold.new.self =
    subst (λ o. IfSome o (λ response. IsHeldAt c.self.inside.copies c.args.session c.args.id.now response c.hold.new.self)) c.in-Some.is c.in_ok-held.ensures.some in (
      now_placed c.self.inside.window.placed c.self.inside.copies c.self.invariant.0 (after_hold c.args.session) (λ z. refl) c.args.id.now c.hold.new.self h.copies,
      told_alone c.args.id.now c.self.inside.copies c.hold.new.self c.in-Some.held.eviction_info c.self.inside.order c.touch.new.self h.eviction_info c.touch.ensures.infos
          (changed_but (after_hold c.args.session) c.self.inside.copies c.hold.new.self c.args.id.now h.copies)
          (changed_keep (after_hold c.args.session) (lies_keeps (after_hold c.args.session) (λ z. refl)) c.self.inside.copies c.hold.new.self c.args.id.now h.copies) c.self.invariant.1,
    )
