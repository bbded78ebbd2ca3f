use Rattle.std.proofs.Common.{sym, ap, subst, ◌∙◌}
use Rattle.std.specs.Option.{option_copied}
use Rattle.obj_id.specs.declared.commands.Command.TheVariants as command
use Rattle.obj_id.specs.declared.commands.Reply.TheVariants as reply
use Rattle.obj_id.specs.declared.refusals.Refusal.TheVariants.{NotAdmitted}
use Rattle.private_store.specs.declared.schedules.Event.TheVariants as event
use Rattle.row_steps.specs.Shown.{only}
use Rattle.node_core.specs.OneJob.{NodeStepOne}
use Rattle.node_core.proofs.Calling.{always_err}
use Rattle.node_core.proofs.Peeks.{peek_answers, peek_unrefused}
use Rattle.node_core.proofs.Views.{refused_steps}
use Rattle.node_core.proofs.Node.peek.Goals as goal

pub returns-in_default-clause-ok : goal.returns-in_default-clause-ok
returns-in_default-clause-ok c =
    let e = event.Call c.args.job c.args.session (command.Peek c.args.id.now c.args.offset c.args.len) in
    subst (λ given. NodeStepOne c.args.self.now e given c.args.self.now) (sym c.only.ensures)
    (subst (λ node. NodeStepOne node e (only (reply.Refused NotAdmitted)) node) c.self.view_is
    (refused_steps c.self.inside.number c.self.inside.admission c.self.inside.works c.self.inside.grants c.args.job c.args.session (command.Peek c.args.id.now c.args.offset c.args.len) c.self.inside.rows.entries
    (sym c.get.ensures.value ∙ ap option_copied c.in_default.is)))

pub returns-in-Some-peek_check-clause-ok : goal.returns-in-Some-peek_check-clause-ok
returns-in-Some-peek_check-clause-ok c =
    let e = event.Call c.args.job c.args.session (command.Peek c.args.id.now c.args.offset c.args.len) in
    subst (λ given. NodeStepOne c.args.self.now e given c.args.self.now) (sym c.only-in-Some-peek_check.ensures)
    (peek_answers c.args.self.now c.self.inside.number c.self.inside.admission c.self.inside.works c.self.inside.grants c.self.invariant.table c.self.inside.rows.entries c.self.view_is
    c.args.job c.args.session c.args.id.now c.args.offset c.args.len c.in-Some._row.now (sym c.get.ensures.value ∙ ap option_copied c.in-Some.is)
    c.granted_bytes-lent.result.bytes.now c.granted_bytes-lent.ensures.bytes _ (sym c.in-Some-peek_check.is ∙ c.peek_check.ensures))

pub returns-in_err-bytes-clause-memory_last : goal.returns-in_err-bytes-clause-memory_last
returns-in_err-bytes-clause-memory_last c =
    always_err c.from_residual.result
    (peek_unrefused c.args.self.now c.self.inside.number c.self.inside.admission c.self.inside.works c.self.inside.grants c.self.invariant.table c.self.inside.rows.entries c.self.view_is
    c.args.job c.args.session c.args.id.now c.args.offset c.args.len c.in-Some._row.now (sym c.get.ensures.value ∙ ap option_copied c.in-Some.is)
    c.granted_bytes-lent.result.bytes.now c.granted_bytes-lent.ensures.bytes c.peek_check.result c.peek_check.ensures c.in_default-peek_check.is)

pub returns-clause-ok : goal.returns-clause-ok
returns-clause-ok c =
    let e = event.Call c.args.job c.args.session (command.Peek c.args.id.now c.args.offset c.args.len) in
    let response = ap reply.Bytes c.in_ok-bytes.ensures in
    subst (λ given. NodeStepOne c.args.self.now e given c.args.self.now) (sym (c.only-2.ensures ∙ ap only response))
    (peek_answers c.args.self.now c.self.inside.number c.self.inside.admission c.self.inside.works c.self.inside.grants c.self.invariant.table c.self.inside.rows.entries c.self.view_is
    c.args.job c.args.session c.args.id.now c.args.offset c.args.len c.in-Some._row.now (sym c.get.ensures.value ∙ ap option_copied c.in-Some.is)
    c.granted_bytes-lent.result.bytes.now c.granted_bytes-lent.ensures.bytes _ (sym c.in_default-peek_check.is ∙ c.peek_check.ensures))
