use Rattle.std.proofs.Common.{◌≡◌, Bool, cond, sym, ap, ◌∙◌}
use Rattle.obj_id.specs.declared.ids.TaskNo.{TaskNo}
use Rattle.obj_id.specs.Ids.{same_task}
use Rattle.pins_holds.proofs.ForCallers.{task_eq, task_eq-same}
use Rattle.row_copy.specs.CopyViews.{after_grants_ended}
use Rattle.row_copy.proofs.RowCopy.end_grants.Goals as goal

own : (task of : TaskNo) (b : Bool) → b ≡ task_eq task of → same_task task of ≡ b
own task of b is = sym (is ∙ task_eq-same task of)

pub returns-then-own : goal.returns-then-own
returns-then-own c =
    ap after_grants_ended c.self.view_is
    ∙ sym (ap (λ b. cond b (after_grants_ended c.args.self.now) c.args.self.now) (own c.args.task c.args.id.now.task c.eq-own.result (c.eq-own.ensures ∙ ap (λ t. task_eq c.args.task t) c.task.ensures) ∙ c.if-own.true))

pub returns-else-own : goal.returns-else-own
returns-else-own c =
    sym (ap (λ b. cond b (after_grants_ended c.args.self.now) c.args.self.now) (own c.args.task c.args.id.now.task c.eq-own.result (c.eq-own.ensures ∙ ap (λ t. task_eq c.args.task t) c.task.ensures) ∙ c.if-own.false))
