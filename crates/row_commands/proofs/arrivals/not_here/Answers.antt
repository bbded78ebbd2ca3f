use Rattle.std.proofs.Common.{false, [], sym, ap, subst, ◌∙◌}
use Rattle.std.specs.Option.{option_map_or}
use Rattle.obj_id.specs.declared.messages.Arrival.TheVariants as arrival
use Rattle.obj_id.specs.declared.messages.DirectoryMessage.TheVariants.{RemoveLocation}
use Rattle.obj_id.specs.declared.messages.PeerMessage.TheVariants as peer
use Rattle.obj_id.specs.declared.commands.Reply.TheVariants as reply
use Rattle.private_store.specs.declared.inputs.Input.TheVariants as input
use Rattle.private_store.specs.rules.Private.{to_directory}
use Rattle.private_store.specs.rules.Tables.{at}
use Rattle.row_copy.specs.Arriving.{asks}
use Rattle.row_steps.specs.Shown.{RowStep}
use Rattle.row_commands.proofs.Unfetching.{not_asked, not_here_at}
use Rattle.row_commands.proofs.arrivals.not_here.Goals as goal

pub returns-then-not-asks-clause-ok : goal.returns-then-not-asks-clause-ok
returns-then-not-asks-clause-ok c node beside contents h =
    subst (λ g. RowStep node c.args.row.now beside contents (input.Arrive (arrival.FromPeer c.args.from (peer.NotHere c.args.id.now c.args.number))) g c.args.row.now beside) (sym c.only.ensures)
    (not_asked node c.args.row.now beside contents h c.args.id.now c.args.number c.args.from
    (ap (λ t. option_map_or (asks c.args.number c.args.from) (at t c.args.id.now) false) (sym c.copies.ensures.copies) ∙ sym c.asks.ensures ∙ c.if-not-asks.true))

pub returns-clause-ok : goal.returns-clause-ok
returns-clause-ok c node beside contents h =
    subst (λ r. RowStep node c.args.row.now beside contents (input.Arrive (arrival.FromPeer c.args.from (peer.NotHere c.args.id.now c.args.number))) (record { reply = reply.Ok; posts = c.in_ok-messages.messages; erased = [] }) r beside) (sym c.fail_fetch.ensures.row)
    (not_here_at node c.args.row.now beside contents h c.args.id.now c.args.number c.args.from c.fail_fetch.ensures.placed
    (ap (λ t. option_map_or (asks c.args.number c.args.from) (at t c.args.id.now) false) (sym c.copies.ensures.copies) ∙ sym c.asks.ensures ∙ c.if-not-asks.false)
    c.in_ok-messages.messages (c.in_ok-messages.ensures.ok ∙ ap (λ n. to_directory (RemoveLocation c.args.id.now n)) c.from.view_is))
