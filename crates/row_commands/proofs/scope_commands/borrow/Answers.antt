use Rattle.std.proofs.Common.{Some, Err, cond, ◌||◌, refl, sym, ap, subst, ◌∙◌}
use Rattle.obj_id.specs.declared.ids.TaskNo.{TaskNo}
use Rattle.obj_id.specs.declared.commands.Command.TheVariants as command
use Rattle.obj_id.specs.declared.commands.Reply.TheVariants as reply
use Rattle.obj_id.specs.declared.refusals.Refusal.TheVariants.{Gone}
use Rattle.private_store.specs.declared.inputs.Input.TheVariants as input
use Rattle.private_store.specs.laws.Invariants.{is_remembered}
use Rattle.job_row.specs.Checks.{borrow_check}
use Rattle.row_steps.specs.Shown.{only, RowStep}
use Rattle.row_commands.proofs.Scoping.{borrow_refused, borrow_done_so}
use Rattle.row_commands.proofs.scope_commands.borrow.Goals as goal

pub returns-then-has_either_ended-clause-ok : goal.returns-then-has_either_ended-clause-ok
returns-then-has_either_ended-clause-ok c node session beside contents mine h =
    subst (λ response. RowStep node c.args.row.now beside contents (input.Call session (command.Borrow c.args.id.now c.args.task)) response c.args.row.now beside) (sym c.only.ensures)
    (borrow_refused node c.args.row.now beside contents session c.args.id.now mine h c.args.task Gone
    (ap (λ b. cond b (Some Gone) (borrow_check c.args.row.now.copies c.args.id.now c.args.task))
    (ap (λ (t : TaskNo). is_remembered c.args.row.now.ended_tasks t || is_remembered c.args.row.now.ended_tasks c.args.task) (sym c.task.ensures) ∙ sym c.has_either_ended.ensures ∙ c.if-has_either_ended.true)))

pub returns-in-Ok-clause-ok : goal.returns-in-Ok-clause-ok
returns-in-Ok-clause-ok c node session beside contents mine h =
    subst (λ response. RowStep node c.args.row.now beside contents (input.Call session (command.Borrow c.args.id.now c.args.task)) response c.borrow_copy.new.self beside) (sym c.only-in-Ok.ensures)
    (subst (λ r. RowStep node c.args.row.now beside contents (input.Call session (command.Borrow c.args.id.now c.args.task)) (only reply.Ok) r beside) (sym c.in-Ok.ensures.ok)
    (borrow_done_so node c.args.row.now beside contents session c.args.id.now mine h c.args.task
    (ap (λ b. cond b (Some Gone) (borrow_check c.args.row.now.copies c.args.id.now c.args.task))
    (ap (λ (t : TaskNo). is_remembered c.args.row.now.ended_tasks t || is_remembered c.args.row.now.ended_tasks c.args.task) (sym c.task.ensures) ∙ sym c.has_either_ended.ensures ∙ c.if-has_either_ended.false)
    ∙ c.in-Ok.ensures.passed refl)))

pub returns-in-Err-Refused-clause-ok : goal.returns-in-Err-Refused-clause-ok
returns-in-Err-Refused-clause-ok c node session beside contents mine h =
    subst (λ response. RowStep node c.args.row.now beside contents (input.Call session (command.Borrow c.args.id.now c.args.task)) response c.borrow_copy.new.self beside) (sym c.only-in-Err-Refused.ensures)
    (subst (λ r. RowStep node c.args.row.now beside contents (input.Call session (command.Borrow c.args.id.now c.args.task)) (only (reply.Refused c.in-Err-Refused.refusal)) r beside) (sym c.in-Err-Refused.ensures.err)
    (borrow_refused node c.args.row.now beside contents session c.args.id.now mine h c.args.task c.in-Err-Refused.refusal
    (ap (λ b. cond b (Some Gone) (borrow_check c.args.row.now.copies c.args.id.now c.args.task))
    (ap (λ (t : TaskNo). is_remembered c.args.row.now.ended_tasks t || is_remembered c.args.row.now.ended_tasks c.args.task) (sym c.task.ensures) ∙ sym c.has_either_ended.ensures ∙ c.if-has_either_ended.false)
    ∙ c.in-Err-Refused.ensures.refused c.in-Err-Refused.refusal (ap Err c.in-Err-Refused.field-0-is))))
