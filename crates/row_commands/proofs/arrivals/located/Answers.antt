use Rattle.std.proofs.Common.{sym, subst}
use Rattle.obj_id.specs.declared.messages.Arrival.TheVariants as arrival
use Rattle.obj_id.specs.declared.commands.Reply.TheVariants as reply
use Rattle.private_store.specs.declared.inputs.Input.TheVariants as input
use Rattle.row_steps.specs.Shown.{only, RowStep}
use Rattle.row_steps.proofs.ForCallers.{located_done}
use Rattle.row_commands.proofs.arrivals.located.Goals as goal

pub returns : goal.returns
returns c beside contents h =
    subst (λ r. RowStep c.args.node c.args.row.now beside contents (input.Arrive (arrival.Located c.args.id.now c.args.number c.args.entries.now)) (only reply.Ok) r beside) (sym c.locate_copy.ensures)
    (located_done c.args.node c.args.row.now beside contents h c.args.id.now c.args.number c.args.entries.now)
