use Rattle.std.proofs.Common.{refl, ap, ◌∙◌}
use Rattle.private_store.specs.rules.Tables.{at}
use Rattle.row_copy.specs.CopyViews.{after_leave}
use Rattle.job_row.proofs.FollowsCopies.{none_gone, lies_keeps, all_keep}
use Rattle.job_row.proofs.row.JobRow.leave_copies.Goals as goal
use Rattle.job_row.proofs.AllChanged.{at-all, left_placed}

pub invariant_of-self : goal.invariant_of-self
invariant_of-self c = (
  left_placed c.self.inside.window.placed c.self.inside.copies c.self.invariant.0 c.args.session c.leave_all.new.self c.leave_all.ensures,
  c.sync_all.ensures.infos c.self.inside.copies
      (none_gone (λ x. after_leave c.args.session) c.self.inside.copies c.leave_all.new.self (λ x. ap (λ t. at t x) c.leave_all.ensures ∙ at-all (after_leave c.args.session) c.self.inside.copies x))
      (all_keep (λ x. after_leave c.args.session) (λ x. lies_keeps (after_leave c.args.session) (λ z. refl)) c.self.inside.copies c.leave_all.new.self (λ x. ap (λ t. at t x) c.leave_all.ensures ∙ at-all (after_leave c.args.session) c.self.inside.copies x)) c.self.invariant.1,
)
