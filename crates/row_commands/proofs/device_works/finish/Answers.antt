use Rattle.std.proofs.Common.{[], sym, subst, ◌∙◌}
use Rattle.obj_id.specs.declared.commands.Reply.TheVariants as reply
use Rattle.private_store.specs.declared.inputs.Input.TheVariants as input
use Rattle.spill_work.specs.Line.{Finishes}
use Rattle.job_row.specs.Dropping.{keys_settled}
use Rattle.row_steps.specs.Shown.{RowStep}
use Rattle.row_commands.proofs.Answering.{finish_done, finish_judged}
use Rattle.row_commands.proofs.device_works.finish.Goals as goal
use Rattle.row_steps.specs.Beside.{beside_of}

pub returns-in-Ok-clause-step : goal.returns-in-Ok-clause-step
returns-in-Ok-clause-step c passed node grants bytes contents h =
    let before = beside_of c.args.works.now grants bytes c.args.row.now.job in
    let after = beside_of c.finish.new.self grants bytes c.args.row.now.job in
    subst (λ g. RowStep node c.args.row.now before contents (input.Answer c.args.number c.args.answer.now) g c.settle-erased.new.self after)
    (sym (c.done-outcome.ensures ∙ (λ i. record { reply = reply.Ok; posts = c.new.ensures i; erased = c.settle-erased.ensures.keys i })))
    (subst (λ r. RowStep node c.args.row.now before contents (input.Answer c.args.number c.args.answer.now) (record { reply = reply.Ok; posts = []; erased = keys_settled c.end_work-verdict.new.row c.in-Ok.asked.id }) r after)
    (sym c.settle-erased.ensures.row)
    (finish_done node c.args.row.now c.args.works.now c.finish.new.self grants bytes contents h c.args.number c.args.answer.now c.in-Ok.asked (subst (λ job. Finishes c.args.works.now job c.args.number c.in-Ok.asked c.finish.new.self) c.job.ensures c.in-Ok.ensures.ok)
    c.end_work-verdict.ensures.placed c.end_work-verdict.new.row c.end_work-verdict.ensures.row))

pub returns-in-Ok-clause-verdict : goal.returns-in-Ok-clause-verdict
returns-in-Ok-clause-verdict c passed grants bytes contents h =
    finish_judged 0 c.args.row.now c.args.works.now c.finish.new.self grants bytes contents h c.args.number c.args.answer.now c.in-Ok.asked (subst (λ job. Finishes c.args.works.now job c.args.number c.in-Ok.asked c.finish.new.self) c.job.ensures c.in-Ok.ensures.ok)
    c.end_work-verdict.result c.end_work-verdict.ensures.verdict
