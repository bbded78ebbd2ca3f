use Rattle.std.proofs.Common.{[], refl, sym, ap, subst, ◌∙◌}
use Rattle.obj_id.specs.declared.commands.Command.TheVariants as command
use Rattle.obj_id.specs.declared.commands.Reply.TheVariants as reply
use Rattle.private_store.specs.declared.inputs.Input.TheVariants as input
use Rattle.job_row.specs.Row.{place_of, ArePlaced}
use Rattle.row_steps.specs.Shown.{only, RowStep}
use Rattle.job_row.specs.Dropping.{settled_row, keys_settled}
use Rattle.row_commands.proofs.Releasing.{release_refused, release_done_so, row_released}
use Rattle.row_commands.proofs.hold_commands.release.Goals as goal

pub returns-in-Ok-clause-step : goal.returns-in-Ok-clause-step
returns-in-Ok-clause-step c node beside contents mine h =
    let was = c.in-Ok.ensures.ok in
    subst (λ g. RowStep node c.args.row.now beside contents (input.Call c.args.session (command.Release c.args.id.now)) g c.settle.new.self beside)
    (sym (c.done.ensures ∙ (λ i. record { reply = reply.Ok; posts = c.new.ensures i; erased = c.settle.ensures.keys i }) ∙ ap (λ r. record { reply = reply.Ok; posts = []; erased = keys_settled r c.args.id.now }) was))
    (subst (λ r. RowStep node c.args.row.now beside contents (input.Call c.args.session (command.Release c.args.id.now)) (record { reply = reply.Ok; posts = []; erased = keys_settled (row_released node c.args.row.now beside contents c.args.session c.args.id.now mine h) c.args.id.now }) r beside)
    (sym (c.settle.ensures.row ∙ ap (λ r. settled_row r c.args.id.now) was))
    (release_done_so node c.args.row.now beside contents c.args.session c.args.id.now mine h (c.in-Ok.ensures.passed refl)
    (subst (λ r. ArePlaced r.window.placed (place_of r.copies)) was c.settle.ensures.placed)))

pub returns-in-Err-clause-step : goal.returns-in-Err-clause-step
returns-in-Err-clause-step c node beside contents mine h =
    subst (λ t. RowStep node c.args.row.now beside contents (input.Call c.args.session (command.Release c.args.id.now)) t c.release_copy.new.self beside) (sym c.only.ensures)
    (subst (λ r. RowStep node c.args.row.now beside contents (input.Call c.args.session (command.Release c.args.id.now)) (only (reply.Refused c.in-Err.refusal)) r beside)
    (sym c.in-Err.ensures.err)
    (release_refused node c.args.row.now beside contents c.args.session c.args.id.now mine h c.in-Err.refusal (c.in-Err.ensures.refused c.in-Err.refusal refl)))
