use Rattle.std.proofs.Common.{[], refl, sym, subst, ◌∙◌}
use Rattle.obj_id.specs.declared.commands.Command.TheVariants as command
use Rattle.obj_id.specs.declared.commands.Reply.TheVariants as reply
use Rattle.private_store.specs.declared.inputs.Input.TheVariants as input
use Rattle.row_steps.specs.Shown.{RowStep}
use Rattle.row_commands.proofs.Sealing.{seal_refused, seal_done_so, seal_digest}
use Rattle.row_commands.proofs.bytes_commands.seal.Goals as goal

pub returns-in-Err-clause-ok : goal.returns-in-Err-clause-ok
returns-in-Err-clause-ok c session beside contents mine h =
    subst (λ response. RowStep c.args.node c.args.row.now beside contents (input.Call session (command.Seal c.args.id.now)) response c.args.row.now beside) (sym c.only.ensures)
    (seal_refused c.args.node c.args.row.now beside contents session c.args.id.now mine h c.in-Err.refusal c.in-Err.ensures.refused)

pub returns-clause-ok : goal.returns-clause-ok
returns-clause-ok c session beside contents mine h =
    let passed = c.in-Ok.ensures.passed refl in
    let entry = c.in-Ok.entry in
    let digest = seal_digest c.args.node c.args.row.now beside contents session c.args.id.now mine h passed entry.digest entry.digest refl c.in-Ok.ensures.digest in
    subst (λ r. RowStep c.args.node c.args.row.now beside contents (input.Call session (command.Seal c.args.id.now)) (record { reply = reply.Ok; posts = c.in_ok-messages.messages; erased = [] }) r beside) (sym (c.freeze_at.ensures ∙ c.apply-after.ensures.row))
    (seal_done_so c.args.node c.args.row.now beside contents session c.args.id.now mine h passed entry.digest digest c.in_ok-messages.messages entry c.in-Ok.ensures.node c.in-Ok.ensures.length refl c.in_ok-messages.ensures.ok)

pub freeze_at-requires : goal.freeze_at-requires
freeze_at-requires c e is = c.apply-after.ensures.placed.there c.args.id.now e (sym c.apply-after.ensures.place ∙ is)
