use Rattle.std.proofs.Common.{false, length, sym, ap, subst, ◌∙◌, refl, ◌*◌}
use Rattle.std.specs.Option.{option_map_or}
use Rattle.obj_id.specs.declared.commands.Reply.TheVariants as reply
use Rattle.obj_id.specs.declared.messages.Arrival.TheVariants as arrival
use Rattle.obj_id.specs.declared.messages.PeerMessage.TheVariants as peer
use Rattle.private_store.specs.declared.inputs.Input.TheVariants as input
use Rattle.private_store.specs.rules.Tables.{at}
use Rattle.store_facts.proofs.Tests.{not_true}
use Rattle.row_copy.specs.Arriving.{fills, lacks_only, after_chunk}
use Rattle.job_row.specs.Arriving.{row_written}
use Rattle.row_steps.specs.Shown.{only, RowStep}
use Rattle.row_steps.proofs.ForCallers.{not_not}
use Rattle.row_commands.proofs.Gaps.{not_filled_is, not_filled, filled_at, e, in_place, small, in_extent, part_is, part_done}
use Rattle.row_commands.proofs.chunks.chunk.Goals as goal
use Rattle.row_copy.specs.CopyViews.{CopyView}
use Rattle.job_row.specs.Row.{Row, place_of}
use Rattle.job_row.proofs.ForCallers.{places_changed}

pub returns-then-not-fit-clause-ok : goal.returns-then-not-fit-clause-ok
returns-then-not-fit-clause-ok c beside contents h =
    subst (λ g. RowStep c.args.node c.args.row.now beside contents (input.Arrive (arrival.FromPeer c.args.from (peer.Chunk c.args.id.now c.args.number c.args.index c.args.bytes.now))) g c.args.row.now beside) (sym c.only.ensures)
    (not_filled c.args.node c.args.row.now beside contents h c.args.id.now c.args.number c.args.from c.args.index c.args.bytes.now
    (ap (λ t. option_map_or (fills c.args.number c.args.from c.args.index (length c.args.bytes.now)) (at t c.args.id.now) false) (sym c.copies.ensures.copies) ∙ sym c.chunk_fit-fit.ensures.fills ∙ not_true c.chunk_fit-fit.result.fills c.if-not-fit.true))

pub returns-clause-ok : goal.returns-clause-ok
returns-clause-ok c beside contents h =
    let a = filled_at c.args.row.now c.args.id.now c.args.number c.args.from c.args.index (length c.args.bytes.now)
    (ap (λ t. option_map_or (fills c.args.number c.args.from c.args.index (length c.args.bytes.now)) (at t c.args.id.now) false) (sym c.copies.ensures.copies) ∙ sym c.chunk_fit-fit.ensures.fills ∙ not_not c.chunk_fit-fit.result.fills c.if-not-fit.false) in
    let changed : CopyView → CopyView = after_chunk c.args.number c.args.from c.args.index (length c.args.bytes.now) in
    let put = c.put_chunk.ensures.row (e c.args.node c.args.row.now beside contents h c.args.id.now c.args.number c.args.from c.args.index c.args.bytes.now a)
    (c.apply-after.ensures.place ∙ ap (λ (r : Row). place_of r.copies c.args.id.now) c.apply-after.ensures.row ∙ places_changed changed (λ z. refl) c.args.row.now.copies c.args.id.now c.args.id.now
    ∙ in_place c.args.node c.args.row.now beside contents h c.args.id.now c.args.number c.args.from c.args.index c.args.bytes.now a)
    (small c.args.node c.args.row.now beside contents h c.args.id.now c.args.number c.args.from c.args.index c.args.bytes.now a)
    (in_extent c.args.node c.args.row.now beside contents h c.args.id.now c.args.number c.args.from c.args.index c.args.bytes.now a) in
    subst (λ g. RowStep c.args.node c.args.row.now beside contents (input.Arrive (arrival.FromPeer c.args.from (peer.Chunk c.args.id.now c.args.number c.args.index c.args.bytes.now))) g c.put_chunk.new.row beside) (sym c.only-2.ensures)
    (subst (λ r. RowStep c.args.node c.args.row.now beside contents (input.Arrive (arrival.FromPeer c.args.from (peer.Chunk c.args.id.now c.args.number c.args.index c.args.bytes.now))) (only reply.Ok) r beside)
    (sym (put ∙ ap (λ r. row_written r (e c.args.node c.args.row.now beside contents h c.args.id.now c.args.number c.args.from c.args.index c.args.bytes.now a) (65536 * c.args.index) c.args.bytes.now) c.apply-after.ensures.row))
    (part_done c.args.node c.args.row.now beside contents h c.args.id.now c.args.number c.args.from c.args.index c.args.bytes.now a c.copies.ensures.placed
    (ap (λ t. option_map_or (lacks_only c.args.index) (at t c.args.id.now) false) (sym c.copies.ensures.copies) ∙ sym c.chunk_fit-fit.ensures.last ∙ c.if-fit.false)))

pub returns-then-not-fit-clause-verdict : goal.returns-then-not-fit-clause-verdict
returns-then-not-fit-clause-verdict c beside contents h =
    sym (not_filled_is c.args.node c.args.row.now beside contents h c.args.id.now c.args.number c.args.from c.args.index c.args.bytes.now
    (ap (λ t. option_map_or (fills c.args.number c.args.from c.args.index (length c.args.bytes.now)) (at t c.args.id.now) false) (sym c.copies.ensures.copies) ∙ sym c.chunk_fit-fit.ensures.fills ∙ not_true c.chunk_fit-fit.result.fills c.if-not-fit.true))

pub returns-clause-verdict : goal.returns-clause-verdict
returns-clause-verdict c beside contents h =
    let a = filled_at c.args.row.now c.args.id.now c.args.number c.args.from c.args.index (length c.args.bytes.now)
    (ap (λ t. option_map_or (fills c.args.number c.args.from c.args.index (length c.args.bytes.now)) (at t c.args.id.now) false) (sym c.copies.ensures.copies) ∙ sym c.chunk_fit-fit.ensures.fills ∙ not_not c.chunk_fit-fit.result.fills c.if-not-fit.false) in
    sym (part_is c.args.node c.args.row.now beside contents h c.args.id.now c.args.number c.args.from c.args.index c.args.bytes.now a
    (ap (λ t. option_map_or (lacks_only c.args.index) (at t c.args.id.now) false) (sym c.copies.ensures.copies) ∙ sym c.chunk_fit-fit.ensures.last ∙ c.if-fit.false))

pub put_chunk-requires : goal.put_chunk-requires
put_chunk-requires c e is = c.apply-after.ensures.placed.there c.args.id.now e (sym c.apply-after.ensures.place ∙ is)
