use Rattle.std.proofs.Common.{◌≡◌, Bool, not, ◌&&◌, ◌++◌, cond, sym, ap, ◌∙◌}
use Rattle.std.proofs.lemmas.List.{append-nil}
use Rattle.obj_id.specs.declared.ids.TaskNo.{TaskNo}
use Rattle.obj_id.specs.Ids.{same_task}
use Rattle.pins_holds.proofs.ForCallers.{task_eq, task_eq-same}
use Rattle.job_row.specs.Dropping.{settled_row}
use Rattle.row_copy.specs.CopyViews.{after_doom}
use Rattle.job_row.specs.Scope.{removal_notice_at, notice_posts, with_copy}
use Rattle.job_row.specs.EndingTasks.{is_doomed_at}
use Rattle.row_commands.proofs.task_end.doom_one.Goals as goal

own : (task of : TaskNo) (b : Bool) → b ≡ task_eq task of → same_task task of ≡ b
own task of b is = sym (is ∙ task_eq-same task of)

pub returns-then-not-own-clause-row : goal.returns-then-not-own-clause-row
returns-then-not-own-clause-row c =
    let r = c.args.row.now in
    let id = c.args.id.now in
    sym (ap (λ b. cond b (settled_row (with_copy after_doom r id) id) r) (own c.args.task c.args.id.now.task c.eq-own.result (c.eq-own.ensures ∙ ap (λ t. task_eq c.args.task t) c.task.ensures) ∙ c.if-not-own.true))

pub returns-then-not-own-clause-sent : goal.returns-then-not-own-clause-sent
returns-then-not-own-clause-sent c =
    let r = c.args.row.now in
    let id = c.args.id.now in
    sym (ap (λ b. c.args.messages.now.items ++ notice_posts (removal_notice_at c.args.node r.copies id (b && not (is_doomed_at r.copies id)))) (own c.args.task c.args.id.now.task c.eq-own.result (c.eq-own.ensures ∙ ap (λ t. task_eq c.args.task t) c.task.ensures) ∙ c.if-not-own.true) ∙ append-nil c.args.messages.now.items)

pub returns-clause-row : goal.returns-clause-row
returns-clause-row c =
    let r = c.args.row.now in
    let id = c.args.id.now in
    c.apply_and_settle.ensures.row
    ∙ sym (ap (λ b. cond b (settled_row (with_copy after_doom r id) id) r) (own c.args.task c.args.id.now.task c.eq-own.result (c.eq-own.ensures ∙ ap (λ t. task_eq c.args.task t) c.task.ensures) ∙ c.if-not-own.false))

pub returns-clause-sent : goal.returns-clause-sent
returns-clause-sent c =
    let r = c.args.row.now in
    let id = c.args.id.now in
    c.push_message.ensures.items
    ∙ ap (λ o. c.args.messages.now.items ++ notice_posts o) (c.removal_notice.ensures ∙ ap (λ b. removal_notice_at c.args.node c.copies-copies.result.now id (not b)) c.is_doomed.ensures ∙ ap (λ t. removal_notice_at c.args.node t id (not (is_doomed_at t id))) c.copies-copies.ensures.copies)
    ∙ sym (ap (λ b. c.args.messages.now.items ++ notice_posts (removal_notice_at c.args.node r.copies id (b && not (is_doomed_at r.copies id)))) (own c.args.task c.args.id.now.task c.eq-own.result (c.eq-own.ensures ∙ ap (λ t. task_eq c.args.task t) c.task.ensures) ∙ c.if-not-own.false))
