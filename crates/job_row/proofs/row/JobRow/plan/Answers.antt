use Rattle.std.proofs.Common.{[], sym, ap, subst, ◌∙◌}
use Rattle.private_store.specs.rules.Room.{plan}
use Rattle.lru_evictor.specs.Facts.{fits_without}
use Rattle.lru_evictor.specs.Plans.{IsDescribed, plan_kind_of}
use Rattle.job_row.specs.InSync.{AreListed, facts_in}
use Rattle.job_row.proofs.row.JobRow.plan.Goals as goal

pub returns-clause-plan : goal.returns-clause-plan
returns-clause-plan c store listed described =
    c.plan.ensures.plan store (record { infos = c.self.invariant.1; listed = subst (λ r. AreListed r.copies r.order) (sym c.self.view_is) listed })
    (subst (λ r. IsDescribed store r.window c.args.device (facts_in r.copies)) (sym c.self.view_is) described)
    ∙ ap (λ r. plan_kind_of (plan r.order store c.args.len)) c.self.view_is

pub returns-clause-room : goal.returns-clause-room
returns-clause-room c fits = ap (λ r. fits_without r.window (facts_in r.copies) c.args.len []) (sym c.self.view_is) ∙ c.plan.ensures.room fits
