use Rattle.std.proofs.Common.{not, refl, sym, ap, subst, ◌∙◌}
use Rattle.obj_id.specs.declared.commands.Command.TheVariants as command
use Rattle.obj_id.specs.declared.commands.Reply.TheVariants as reply
use Rattle.private_store.specs.declared.inputs.Input.TheVariants as input
use Rattle.job_row.specs.Checks.{give_up_check}
use Rattle.job_row.specs.Dropping.{keys_settled}
use Rattle.job_row.specs.Scope.{removal_notice_at, notice_posts, with_copy}
use Rattle.job_row.specs.EndingTasks.{stays_at}
use Rattle.row_copy.specs.CopyViews.{after_give_up}
use Rattle.row_steps.specs.Shown.{RowStep}
use Rattle.row_commands.proofs.Scoping.{give_up_refused, give_up_done_so}
use Rattle.row_commands.proofs.scope_commands.give_up.Goals as goal

pub returns-in-Err-clause-ok : goal.returns-in-Err-clause-ok
returns-in-Err-clause-ok c session beside contents mine h =
    subst (λ response. RowStep c.args.node c.args.row.now beside contents (input.Call session (command.GiveUp c.args.id.now c.args.task)) response c.args.row.now beside) (sym c.only.ensures)
    (give_up_refused c.args.node c.args.row.now beside contents session c.args.id.now mine h c.args.task c.in-Err.refusal
    (ap (λ t. give_up_check t c.args.id.now c.args.task) (sym c.copies.ensures.copies) ∙ c.in-Err.ensures.refused))

pub returns-clause-ok : goal.returns-clause-ok
returns-clause-ok c session beside contents mine h =
    subst (λ g. RowStep c.args.node c.args.row.now beside contents (input.Call session (command.GiveUp c.args.id.now c.args.task)) g c.apply_and_settle-erased.new.self beside)
    (sym (c.done.ensures ∙ ap (λ keys. record { reply = reply.Ok; posts = c.in_ok-messages.messages; erased = keys }) c.apply_and_settle-erased.ensures.keys))
    (subst (λ r. RowStep c.args.node c.args.row.now beside contents (input.Call session (command.GiveUp c.args.id.now c.args.task)) (record { reply = reply.Ok; posts = c.in_ok-messages.messages; erased = keys_settled (with_copy (after_give_up c.args.task) c.args.row.now c.args.id.now) c.args.id.now }) r beside)
    (sym c.apply_and_settle-erased.ensures.row)
    (give_up_done_so c.args.node c.args.row.now beside contents session c.args.id.now mine h c.args.task
    (ap (λ t. give_up_check t c.args.id.now c.args.task) (sym c.copies.ensures.copies) ∙ c.in-Ok.ensures.passed refl)
    (stays_at c.args.task c.args.row.now.copies c.args.id.now) refl c.in_ok-messages.messages
    (c.in_ok-messages.ensures.ok ∙ ap notice_posts (c.in-Ok.ensures.ok ∙ ap (λ t. removal_notice_at c.args.node t c.args.id.now (not (stays_at c.args.task t c.args.id.now))) c.copies.ensures.copies))
    c.apply_and_settle-erased.ensures.placed))
