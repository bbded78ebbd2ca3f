use Rattle.std.proofs.Common.{eq-eqb, sym, ap, subst, ◌∙◌}
use Rattle.obj_id.specs.declared.ids.JobNo.{JobNo}
use Rattle.row_steps.specs.Outcomes.{row_given_of}
use Rattle.node_core.specs.Granting.{TakesWithdraw}
use Rattle.node_core.proofs.GrantCommands.{foreign_is, own_withdrawn, taken_back}
use Rattle.node_core.proofs.granting.let_go.Goals as goal

pub returns-then-job-clause-step : goal.returns-then-job-clause-step
returns-then-job-clause-step c session =
    own_withdrawn c.args.row.now c.withdraw.new.row c.args.job session c.args.id.now c.args.target (row_given_of c.withdraw.result) (eq-eqb _ _ (ap (λ (j : JobNo). j.0) (sym c.job.ensures.value) ∙ c.if-job.true)) c.args.granted (λ node. c.withdraw.ensures.step node session)

pub returns-clause-step : goal.returns-clause-step
returns-clause-step c session =
    subst (λ given. TakesWithdraw c.args.row.now c.args.job.0 session c.args.id.now c.args.target c.args.granted given c.args.row.now) (sym c.only.ensures)
    (taken_back c.args.row.now c.args.job session c.args.id.now c.args.target c.args.granted (foreign_is c.args.id.now c.args.job c.job.result c.job.ensures.value c.if-job.false))
