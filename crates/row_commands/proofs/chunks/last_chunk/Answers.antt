use Rattle.std.proofs.Common.{true, false, [], length, sym, ap, subst, ◌∙◌}
use Rattle.std.specs.Option.{option_copied, option_and_then}
use Rattle.obj_id.specs.declared.commands.Reply.TheVariants as reply
use Rattle.obj_id.specs.declared.messages.Arrival.TheVariants as arrival
use Rattle.obj_id.specs.declared.messages.PeerMessage.TheVariants as peer
use Rattle.private_store.specs.declared.faults.FetchFault.TheVariants.{Damaged}
use Rattle.private_store.specs.declared.inputs.Input.TheVariants as input
use Rattle.private_store.specs.rules.Tables.{at}
use Rattle.row_copy.specs.Arriving.{after_last_chunk}
use Rattle.job_row.specs.Arriving.{unfetched_row}
use Rattle.row_copy.specs.CopyViews.{CopyView}
use Rattle.job_row.specs.Row.{Row, place_of, ArePlaced}
use Rattle.job_row.specs.Scope.{with_copy}
use Rattle.row_steps.specs.Shown.{only, RowStep}
use Rattle.row_commands.proofs.Gaps.{filled_at, put_so, last_is, damaged_done, whole_done}
use Rattle.row_commands.proofs.chunks.last_chunk.Goals as goal
use Rattle.private_store.specs.rules.Copies.{extent_of}

pub returns-then-not-has_digest-clause-ok : goal.returns-then-not-has_digest-clause-ok
returns-then-not-has_digest-clause-ok c beside contents h =
    let a = filled_at c.args.row.now c.args.id.now c.args.number c.args.from c.args.index (length c.args.bytes.now) c.requires.fills in
    let put = put_so c.args.node c.args.row.now beside contents h c.args.id.now c.args.number c.args.from c.args.index c.args.bytes.now a c.in-Some.copy.now
    (ap (λ t. at t c.args.id.now) (sym c.copies.ensures.copies) ∙ sym c.get.ensures ∙ ap option_copied c.in-Some.is) c.in-Some-digest.digest (sym c.digest.ensures.digest ∙ c.in-Some-digest.is)
    c.extent-place.result c.extent-place.ensures c.put_chunk.new.row c.put_chunk.ensures.copies c.put_chunk.ensures.row c.has_digest.result c.has_digest.ensures in
    subst (λ g. RowStep c.args.node c.args.row.now beside contents (input.Arrive (arrival.FromPeer c.args.from (peer.Chunk c.args.id.now c.args.number c.args.index c.args.bytes.now))) g c.fail_fetch.new.self beside) (sym c.only.ensures)
    (subst (λ r. RowStep c.args.node c.args.row.now beside contents (input.Arrive (arrival.FromPeer c.args.from (peer.Chunk c.args.id.now c.args.number c.args.index c.args.bytes.now))) (only reply.Ok) r beside)
    (sym (c.fail_fetch.ensures.row ∙ ap (λ r. unfetched_row Damaged r c.args.id.now) put.written))
    (damaged_done c.args.node c.args.row.now beside contents h c.args.id.now c.args.number c.args.from c.args.index c.args.bytes.now a c.copies.ensures.placed
    c.requires.last c.in-Some-digest.digest put.known (put.test ∙ c.if-not-has_digest.true) (subst (λ (r : Row). ArePlaced r.window.placed (place_of r.copies)) put.written c.fail_fetch.ensures.placed)))

pub returns-clause-ok : goal.returns-clause-ok
returns-clause-ok c beside contents h =
    let a = filled_at c.args.row.now c.args.id.now c.args.number c.args.from c.args.index (length c.args.bytes.now) c.requires.fills in
    let put = put_so c.args.node c.args.row.now beside contents h c.args.id.now c.args.number c.args.from c.args.index c.args.bytes.now a c.in-Some.copy.now
    (ap (λ t. at t c.args.id.now) (sym c.copies.ensures.copies) ∙ sym c.get.ensures ∙ ap option_copied c.in-Some.is) c.in-Some-digest.digest (sym c.digest.ensures.digest ∙ c.in-Some-digest.is)
    c.extent-place.result c.extent-place.ensures c.put_chunk.new.row c.put_chunk.ensures.copies c.put_chunk.ensures.row c.has_digest.result c.has_digest.ensures in
    subst (λ r. RowStep c.args.node c.args.row.now beside contents (input.Arrive (arrival.FromPeer c.args.from (peer.Chunk c.args.id.now c.args.number c.args.index c.args.bytes.now))) (record { reply = reply.Ok; posts = c.in_ok-messages.messages; erased = [] }) r beside)
    (sym (c.freeze_at.ensures ∙ c.apply-after.ensures.row ∙ ap (λ r. with_copy after_last_chunk r c.args.id.now) put.written))
    (whole_done c.args.node c.args.row.now beside contents h c.args.id.now c.args.number c.args.from c.args.index c.args.bytes.now a c.copies.ensures.placed
    c.requires.last c.in-Some-digest.digest put.known (put.test ∙ c.if-not-has_digest.false) (record { node = c.node.inside.0; length = c.length.result; digest = c.in-Some-digest.digest }) c.in_ok-messages.messages
    (λ i. record { node = c.node.view_is i; length = (c.length.ensures ∙ ap (λ (z : CopyView). z.copy.length) (sym put.same)) i; digest = c.in-Some-digest.digest }) c.in_ok-messages.ensures.ok)

pub returns-then-not-has_digest-clause-verdict : goal.returns-then-not-has_digest-clause-verdict
returns-then-not-has_digest-clause-verdict c beside contents h =
    let a = filled_at c.args.row.now c.args.id.now c.args.number c.args.from c.args.index (length c.args.bytes.now) c.requires.fills in
    let put = put_so c.args.node c.args.row.now beside contents h c.args.id.now c.args.number c.args.from c.args.index c.args.bytes.now a c.in-Some.copy.now
    (ap (λ t. at t c.args.id.now) (sym c.copies.ensures.copies) ∙ sym c.get.ensures ∙ ap option_copied c.in-Some.is) c.in-Some-digest.digest (sym c.digest.ensures.digest ∙ c.in-Some-digest.is)
    c.extent-place.result c.extent-place.ensures c.put_chunk.new.row c.put_chunk.ensures.copies c.put_chunk.ensures.row c.has_digest.result c.has_digest.ensures in
    sym (last_is c.args.node c.args.row.now beside contents h c.args.id.now c.args.number c.args.from c.args.index c.args.bytes.now a c.copies.ensures.placed c.requires.last c.in-Some-digest.digest put.known false (put.test ∙ c.if-not-has_digest.true))

pub returns-clause-verdict : goal.returns-clause-verdict
returns-clause-verdict c beside contents h =
    let a = filled_at c.args.row.now c.args.id.now c.args.number c.args.from c.args.index (length c.args.bytes.now) c.requires.fills in
    let put = put_so c.args.node c.args.row.now beside contents h c.args.id.now c.args.number c.args.from c.args.index c.args.bytes.now a c.in-Some.copy.now
    (ap (λ t. at t c.args.id.now) (sym c.copies.ensures.copies) ∙ sym c.get.ensures ∙ ap option_copied c.in-Some.is) c.in-Some-digest.digest (sym c.digest.ensures.digest ∙ c.in-Some-digest.is)
    c.extent-place.result c.extent-place.ensures c.put_chunk.new.row c.put_chunk.ensures.copies c.put_chunk.ensures.row c.has_digest.result c.has_digest.ensures in
    sym (last_is c.args.node c.args.row.now beside contents h c.args.id.now c.args.number c.args.from c.args.index c.args.bytes.now a c.copies.ensures.placed c.requires.last c.in-Some-digest.digest put.known true (put.test ∙ c.if-not-has_digest.false))

pub put_chunk-requires : goal.put_chunk-requires
put_chunk-requires c e is =
    c.copies.ensures.placed.there c.args.id.now e
    (ap (option_and_then (λ (z : CopyView). extent_of z.copy)) (ap (λ t. at t c.args.id.now) (sym c.copies.ensures.copies) ∙ sym c.get.ensures ∙ ap option_copied c.in-Some.is)
    ∙ sym c.extent-place.ensures ∙ is)

pub freeze_at-requires : goal.freeze_at-requires
freeze_at-requires c e is = c.apply-after.ensures.placed.there c.args.id.now e (sym c.apply-after.ensures.place ∙ is)
