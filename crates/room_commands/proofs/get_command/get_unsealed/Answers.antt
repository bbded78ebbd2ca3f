use Rattle.std.proofs.Common.{Ok, sym, ap, subst, ◌∙◌}
use Rattle.obj_id.specs.declared.commands.Command.TheVariants as command
use Rattle.private_store.specs.declared.inputs.Input.TheVariants as input
use Rattle.obj_id.specs.declared.commands.Reply.TheVariants as reply
use Rattle.private_store.specs.rules.Tables.{at}
use Rattle.job_row.specs.Checks.{visible_state}
use Rattle.row_steps.specs.Shown.{only, RowStep}
use Rattle.room_commands.proofs.Getting.{each_ok, each_err, some_at, doomed_at, created_told, restoring_told, doomed_told}
use Rattle.room_commands.proofs.get_command.get_unsealed.Goals as goal
use Rattle.row_steps.specs.Beside.{beside_of}

pub returns-in-Err-clause-ok : goal.returns-in-Err-clause-ok
returns-in-Err-clause-ok c =
    let k = doomed_at c.args.row.now.copies c.args.id.now c.in-Err.refusal (ap (λ t. visible_state (at t c.args.id.now)) (sym c.copies.ensures.copies) ∙ sym c.visible_state.ensures ∙ c.in-Err.is) in
    each_ok c.refuse.result (λ o said session grants bytes contents mine h.
    let beside = beside_of c.args.works.now grants bytes c.args.row.now.job in
    subst (λ t. RowStep c.args.node c.args.row.now beside contents (input.Call session (command.Get c.args.id.now)) t c.args.row.now beside) (sym (said ∙ ap (λ r. only (reply.Refused r)) k.3))
    (doomed_told c.args.node c.args.row.now beside contents session c.args.id.now mine c.requires.alive h k.0 k.1 k.2)) c.refuse.ensures.ok

pub returns-in-Ok-None-clause-ok : goal.returns-in-Ok-None-clause-ok
returns-in-Ok-None-clause-ok c =
    each_ok c.begin_fetch.result (λ o response session grants bytes. response session (beside_of c.args.works.now grants bytes c.args.row.now.job)) c.begin_fetch.ensures.ok

pub returns-in-Created-clause-ok : goal.returns-in-Created-clause-ok
returns-in-Created-clause-ok c =
    let v = some_at c.args.row.now.copies c.args.id.now c.in-Ok-Some.state (ap (λ t. visible_state (at t c.args.id.now)) (sym c.copies.ensures.copies) ∙ sym c.visible_state.ensures ∙ c.in-Ok-Some.is ∙ ap (λ o. Ok o) c.in-Ok-Some.field-0-is) in
    each_ok c.refuse-in-Created.result (λ o said session grants bytes contents mine h.
    let beside = beside_of c.args.works.now grants bytes c.args.row.now.job in
    subst (λ t. RowStep c.args.node c.args.row.now beside contents (input.Call session (command.Get c.args.id.now)) t c.args.row.now beside) (sym said)
    (created_told c.args.node c.args.row.now beside contents session c.args.id.now mine c.requires.alive h v.k v.found v.stays (v.is ∙ c.in-Created.is))) c.refuse-in-Created.ensures.ok

pub returns-in-Restoring-clause-ok : goal.returns-in-Restoring-clause-ok
returns-in-Restoring-clause-ok c =
    let v = some_at c.args.row.now.copies c.args.id.now c.in-Ok-Some.state (ap (λ t. visible_state (at t c.args.id.now)) (sym c.copies.ensures.copies) ∙ sym c.visible_state.ensures ∙ c.in-Ok-Some.is ∙ ap (λ o. Ok o) c.in-Ok-Some.field-0-is) in
    each_ok c.refuse-in-Restoring.result (λ o said session grants bytes contents mine h.
    let beside = beside_of c.args.works.now grants bytes c.args.row.now.job in
    subst (λ t. RowStep c.args.node c.args.row.now beside contents (input.Call session (command.Get c.args.id.now)) t c.args.row.now beside) (sym said)
    (restoring_told c.args.node c.args.row.now beside contents session c.args.id.now mine c.requires.alive h v.k v.found v.stays (v.is ∙ c.in-Restoring.is))) c.refuse-in-Restoring.ensures.ok

pub returns-in-Ok-None-clause-memory_last : goal.returns-in-Ok-None-clause-memory_last
returns-in-Ok-None-clause-memory_last c = each_err c.begin_fetch.result (λ due. due c.args.works.now) c.begin_fetch.ensures.memory_last
