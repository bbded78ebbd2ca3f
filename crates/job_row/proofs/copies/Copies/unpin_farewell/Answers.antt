use Rattle.std.proofs.Common.{Option, Some, None, ap, sym, ◌∙◌}
use Rattle.std.specs.Option.{option_copied}
use Rattle.obj_id.specs.declared.refusals.Refusal.{Refusal}
use Rattle.obj_id.specs.declared.refusals.Refusal.TheVariants.{Absent}
use Rattle.obj_id.specs.declared.ids.TaskNo.{TaskNo}
use Rattle.obj_id.specs.Ids.{same_task}
use Rattle.pins_holds.proofs.ForCallers.{task_eq, task_eq-same}
use Rattle.private_store.specs.rules.Commands.{unpin_checks}
use Rattle.private_store.specs.rules.Shared.{first_refusal}
use Rattle.row_copy.specs.Checks.{unless_doomed}
use Rattle.row_copy.specs.CopyViews.{CopyView}
use Rattle.job_row.proofs.copies.Copies.unpin_farewell.Goals as goal

abbrev check : TaskNo → TaskNo → Option CopyView → Option Refusal
check owner task o = elim o [ None ↦ Some Absent | Some k ↦ first_refusal (unless_doomed k (unpin_checks k.copy (same_task task owner))) ]

pub returns-in-Some-unpin_check-clause-refused : goal.returns-in-Some-unpin_check-clause-refused
returns-in-Some-unpin_check-clause-refused c =
    ap (check c.args.id.now.task c.args.task) (sym c.get.ensures ∙ ap option_copied c.in-Some.is)
    ∙ sym (ap (λ b. first_refusal (unless_doomed c.in-Some.copy.now (unpin_checks c.in-Some.copy.now.copy b))) (c.eq.ensures ∙ ap (λ t. task_eq c.args.task t) c.task.ensures ∙ task_eq-same c.args.task c.args.id.now.task))
    ∙ sym c.unpin_check.ensures ∙ c.in-Some-unpin_check.is

pub returns-clause-passed : goal.returns-clause-passed
returns-clause-passed c ok =
    ap (check c.args.id.now.task c.args.task) (sym c.get.ensures ∙ ap option_copied c.in-Some.is)
    ∙ sym (ap (λ b. first_refusal (unless_doomed c.in-Some.copy.now (unpin_checks c.in-Some.copy.now.copy b))) (c.eq.ensures ∙ ap (λ t. task_eq c.args.task t) c.task.ensures ∙ task_eq-same c.args.task c.args.id.now.task))
    ∙ sym c.unpin_check.ensures ∙ c.in_default-unpin_check.is
