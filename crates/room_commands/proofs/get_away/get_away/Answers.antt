use Rattle.std.proofs.Common.{sym, ap, subst, ◌∙◌}
use Rattle.std.specs.Option.{option_and_then}
use Rattle.obj_id.specs.declared.commands.CopyState.TheVariants.{Away}
use Rattle.obj_id.specs.declared.commands.Command.TheVariants as command
use Rattle.obj_id.specs.declared.commands.Reply.TheVariants as reply
use Rattle.private_store.specs.declared.inputs.Input.TheVariants as input
use Rattle.private_store.specs.rules.Commands.{refusal_of}
use Rattle.job_row.specs.Checks.{fault_at}
use Rattle.row_copy.specs.CopyViews.{CopyView}
use Rattle.row_steps.specs.Shown.{only, RowStep}
use Rattle.room_commands.proofs.Getting.{each_ok, some_at}
use Rattle.room_commands.proofs.Faults.{told_once}
use Rattle.room_commands.proofs.Pulling.{own_job}
use Rattle.room_commands.proofs.get_away.get_away.Goals as goal
use Rattle.row_steps.specs.Beside.{beside_of}

pub returns-in-Some-clause-ok : goal.returns-in-Some-clause-ok
returns-in-Some-clause-ok c =
    let v = some_at c.args.row.now.copies c.args.id.now Away c.requires.visible in
    let faulty = sym (ap (option_and_then (λ (k : CopyView). k.copy.fault)) v.found) ∙ ap (λ t. fault_at t c.args.id.now) (sym c.copies.ensures.copies) ∙ sym c.fault.ensures ∙ c.in-Some.is in
    each_ok c.refuse.result (λ o said session grants bytes contents mine h.
    let beside = beside_of c.args.works.now grants bytes c.args.row.now.job in
    subst (λ g. RowStep c.args.node c.args.row.now beside contents (input.Call session (command.Get c.args.id.now)) g c.apply.new.self beside) (sym (said ∙ ap (λ r. only (reply.Refused r)) c.refusal.ensures))
    (subst (λ row. RowStep c.args.node c.args.row.now beside contents (input.Call session (command.Get c.args.id.now)) (only (reply.Refused (refusal_of c.in-Some.fault))) row beside) (sym c.apply.ensures.row)
    (told_once c.args.node c.args.row.now beside contents session c.args.id.now mine c.requires.alive h v.k v.found v.stays v.is c.in-Some.fault faulty))) c.refuse.ensures.ok

pub returns-in-None-clause-ok : goal.returns-in-None-clause-ok
returns-in-None-clause-ok c = each_ok c.restore.result (λ o response session grants bytes contents mine h.
    response session grants bytes contents (c.job.ensures.value ∙ own_job c.args.id.now.job c.args.row.now.job mine) mine c.requires.alive h) c.restore.ensures.ok
