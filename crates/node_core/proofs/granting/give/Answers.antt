use Rattle.std.proofs.Common.{eq-eqb, sym, ap, subst, ◌∙◌}
use Rattle.obj_id.specs.declared.ids.JobNo.{JobNo}
use Rattle.row_steps.specs.Outcomes.{row_given_of}
use Rattle.node_core.specs.Granting.{TakesGrant}
use Rattle.node_core.proofs.GrantCommands.{foreign_is, own_given, handed_on}
use Rattle.node_core.proofs.granting.give.Goals as goal

pub returns-then-job-clause-step : goal.returns-then-job-clause-step
returns-then-job-clause-step c session =
    own_given c.args.row.now c.grant.new.row c.args.job session c.args.id.now c.args.target (row_given_of c.grant.result) (eq-eqb _ _ (ap (λ (j : JobNo). j.0) (sym c.job.ensures.value) ∙ c.if-job.true)) c.args.table c.requires (λ node. c.grant.ensures.step node session)

pub returns-clause-step : goal.returns-clause-step
returns-clause-step c session =
    subst (λ given. TakesGrant c.args.row.now c.args.job.0 session c.args.id.now c.args.target given c.args.row.now) (sym c.only.ensures)
    (handed_on c.args.row.now c.args.job session c.args.id.now c.args.target (foreign_is c.args.id.now c.args.job c.job.result c.job.ensures.value c.if-job.false))
