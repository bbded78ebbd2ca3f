use Rattle.std.proofs.Common.{sym, ap, subst, ◌∙◌}
use Rattle.std.specs.Option.{option_copied}
use Rattle.obj_id.specs.declared.commands.Command.TheVariants as command
use Rattle.obj_id.specs.declared.commands.Reply.TheVariants as reply
use Rattle.obj_id.specs.declared.refusals.Refusal.TheVariants.{NotAdmitted}
use Rattle.private_store.specs.declared.schedules.Event.TheVariants as event
use Rattle.row_steps.specs.Shown.{only}
use Rattle.node_core.specs.Granted.{granted_here}
use Rattle.node_core.specs.OneJob.{NodeStepOne}
use Rattle.node_core.proofs.Calling.{always_err}
use Rattle.node_core.proofs.Listed.{list_late, list_steps}
use Rattle.node_core.proofs.Views.{refused_steps}
use Rattle.node_core.proofs.Node.list.Goals as goal

pub returns-in_default-clause-ok : goal.returns-in_default-clause-ok
returns-in_default-clause-ok c =
    subst (λ given. NodeStepOne c.args.self.now (event.Call c.args.job c.args.session command.List) given c.args.self.now) (sym c.only.ensures)
    (subst (λ node. NodeStepOne node (event.Call c.args.job c.args.session command.List) (only (reply.Refused NotAdmitted)) node) c.self.view_is
    (refused_steps c.self.inside.number c.self.inside.admission c.self.inside.works c.self.inside.grants c.args.job c.args.session command.List c.self.inside.rows.entries
    (sym c.get.ensures.value ∙ ap option_copied c.in_default.is)))

pub returns-in_err-granted-clause-memory_last : goal.returns-in_err-granted-clause-memory_last
returns-in_err-granted-clause-memory_last c =
    always_err c.from_residual.result (list_late c.self.inside.number c.self.inside.admission c.self.inside.works c.self.inside.grants c.self.inside.rows.entries c.args.job c.args.session c.in-Some.row.now
    (sym c.get.ensures.value ∙ ap option_copied c.in-Some.is) c.args.self.now c.self.view_is)

pub returns-in_err-reply-clause-memory_last : goal.returns-in_err-reply-clause-memory_last
returns-in_err-reply-clause-memory_last c =
    always_err c.from_residual-in_err-reply.result (list_late c.self.inside.number c.self.inside.admission c.self.inside.works c.self.inside.grants c.self.inside.rows.entries c.args.job c.args.session c.in-Some.row.now
    (sym c.get.ensures.value ∙ ap option_copied c.in-Some.is) c.args.self.now c.self.view_is)

pub returns-clause-ok : goal.returns-clause-ok
returns-clause-ok c =
    subst (λ given. NodeStepOne c.args.self.now (event.Call c.args.job c.args.session command.List) given c.args.self.now) (sym c.only-2.ensures)
    (subst (λ node. NodeStepOne node (event.Call c.args.job c.args.session command.List) (only c.in_ok-reply.reply) node) c.self.view_is
    (list_steps c.self.inside.number c.self.inside.admission c.self.inside.works c.self.inside.grants c.self.invariant.table c.args.job c.args.session c.self.inside.rows.entries
    c.in-Some.row.now (sym c.get.ensures.value ∙ ap option_copied c.in-Some.is) c.in_ok-granted.granted
    (c.in_ok-granted.ensures ∙ ap (λ node. granted_here node c.args.job.0) (sym c.self.view_is)) c.in_ok-reply.reply c.in_ok-reply.ensures))
