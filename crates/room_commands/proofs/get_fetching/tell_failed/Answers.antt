use Rattle.std.proofs.Common.{sym, ap, subst, ◌∙◌}
use Rattle.obj_id.specs.declared.commands.CopyState.TheVariants.{Fetching}
use Rattle.obj_id.specs.declared.commands.Command.TheVariants as command
use Rattle.obj_id.specs.declared.commands.Reply.TheVariants as reply
use Rattle.private_store.specs.declared.inputs.Input.TheVariants as input
use Rattle.private_store.specs.rules.Commands.{fetch_refusal}
use Rattle.row_steps.specs.Shown.{only, RowStep}
use Rattle.room_commands.proofs.Getting.{some_at}
use Rattle.room_commands.proofs.Fetching.{failed_told}
use Rattle.room_commands.proofs.get_fetching.tell_failed.Goals as goal

pub returns-clause-step : goal.returns-clause-step
returns-clause-step c node session beside contents mine h =
    let v = some_at c.args.row.now.copies c.args.id.now Fetching c.requires.visible in
    let f = c.requires.failed v.k v.found in
    subst (λ g. RowStep node c.args.row.now beside contents (input.Call session (command.Get c.args.id.now)) g c.drop_copy.new.self beside) (sym (c.only.ensures ∙ ap (λ r. only (reply.Refused r)) c.refusal.ensures))
    (subst (λ row. RowStep node c.args.row.now beside contents (input.Call session (command.Get c.args.id.now)) (only (reply.Refused (fetch_refusal c.args.fault))) row beside) (sym c.drop_copy.ensures.row)
    (failed_told node c.args.row.now beside contents session c.args.id.now mine c.requires.alive h v.k v.found v.stays v.is f.fetch f.found c.args.fault f.is c.drop_copy.ensures.placed))
