use Rattle.std.proofs.Common.{◌++◌, fold, map, sym, ap, subst, ◌∙◌}
use Rattle.obj_id.specs.declared.commands.Command.TheVariants as command
use Rattle.obj_id.specs.declared.commands.OwnItem.{OwnItem}
use Rattle.obj_id.specs.declared.commands.Reply.TheVariants as reply
use Rattle.private_store.specs.declared.inputs.Input.TheVariants as input
use Rattle.job_row.specs.EndingTasks.{doomed_row, doom_posts, given_up_row, give_up_posts, posts_of_each, keys_of_copies, gone_keys}
use Rattle.row_steps.specs.Shown.{RowStep}
use Rattle.row_copy.specs.Usages.{own_item_of}
use Rattle.row_commands.proofs.EndingTasks.{end_task_refused, end_task_done, given}
use Rattle.row_commands.proofs.LeavingEach.{ids-listed}
use Rattle.row_commands.proofs.task_end.end_task.Goals as goal
use Rattle.row_steps.specs.Beside.{beside_after}

pub returns-in-Some-clause-ok : goal.returns-in-Some-clause-ok
returns-in-Some-clause-ok c session beside contents h =
    subst (λ response. RowStep c.args.node c.args.row.now beside contents (input.Call session (command.EndTask c.args.task)) response c.args.row.now (beside_after c.args.row.now c.args.task beside)) (sym c.only.ensures)
    (end_task_refused c.args.node c.args.row.now beside contents session c.args.task h c.in-Some.refusal (sym c.end_task_check.ensures ∙ c.in-Some.is))

pub returns-clause-ok : goal.returns-clause-ok
returns-clause-ok c session beside contents h =
    let row = c.args.row.now in
    let task = c.args.task in
    let node = c.args.node in
    let items = c.in_ok-items.ensures.items ∙ ap (map own_item_of) c.copies.ensures.copies in
    let ids-1 = ap (map (λ (item : OwnItem). item.id)) (c.as_slice.ensures ∙ items) ∙ ids-listed row.copies in
    let ids-3 = ap (map (λ (item : OwnItem). item.id)) (c.as_slice-5.ensures ∙ items) ∙ ids-listed row.copies in
    let ids-4 = ap (map (λ (item : OwnItem). item.id)) (c.as_slice-6.ensures ∙ items) ∙ ids-listed row.copies in
    let keys = c.as_slice-7.ensures ∙ c.in_ok-keys.ensures ∙ ap (keys_of_copies row) ids-1 in
    let e0 = c.in_ok-remember_end.ensures.ok in
    let e1 = c.doom_each.ensures.row ∙ (λ i. fold (doomed_row task) (e0 i) (ids-3 i)) in
    let e2 = c.give_up_each.ensures.row ∙ (λ i. fold (given_up_row task) (e1 i) (ids-4 i)) in
    let first = c.doom_each.ensures.sent ∙ (λ i. c.in_ok-messages.ensures.items i ++ posts_of_each (doomed_row task) (doom_posts node task) (e0 i) (ids-3 i)) in
    let posts = c.from_vec.ensures ∙ c.give_up_each.ensures.sent ∙ (λ i. first i ++ posts_of_each (given_up_row task) (give_up_posts node task) (e1 i) (ids-4 i)) in
    let erased = c.from_vec-2.ensures ∙ c.push_gone.ensures ∙ (λ i. c.in_ok-erased.ensures.items i ++ gone_keys (e2 i) (keys i)) in
    subst (λ g. RowStep node row beside contents (input.Call session (command.EndTask task)) g c.give_up_each.new.row (beside_after row task beside)) (sym (λ i. record { reply = reply.Ok; posts = posts i; erased = erased i }))
    (subst (λ r. RowStep node row beside contents (input.Call session (command.EndTask task)) (given node row beside contents session task h) r (beside_after row task beside)) (sym e2)
    (end_task_done node row beside contents session task h c.copies.ensures.placed (sym c.end_task_check.ensures ∙ c.in_default.is)))
