use Rattle.std.proofs.Common.{[], sym, ap, subst, ◌∙◌}
use Rattle.obj_id.specs.declared.messages.Arrival.TheVariants as arrival
use Rattle.obj_id.specs.declared.messages.PeerMessage.TheVariants as peer
use Rattle.obj_id.specs.declared.commands.Reply.TheVariants as reply
use Rattle.private_store.specs.declared.inputs.Input.TheVariants as input
use Rattle.private_store.specs.rules.Tables.{at}
use Rattle.room_commands.specs.Serving.{row_pull_answer}
use Rattle.row_steps.specs.Shown.{RowStep}
use Rattle.room_commands.proofs.Getting.{each_ok}
use Rattle.room_commands.proofs.Serving.{not_here_done, nothing_done, chunks_done}
use Rattle.room_commands.proofs.pulls.serve_pull.Goals as goal
use Rattle.row_steps.specs.Beside.{beside_of}

pub returns-in_ok-tell_not_here-in-NotHere-clause-ok : goal.returns-in_ok-tell_not_here-in-NotHere-clause-ok
returns-in_ok-tell_not_here-in-NotHere-clause-ok c grants bytes contents h =
    let row = c.args.row.now in
    let beside = beside_of c.args.works.now grants bytes row.job in
    let x = input.Arrive (arrival.FromPeer c.args.from (peer.Pull c.args.id.now c.args.number c.args.len c.args.digest.now c.args.indexes.now)) in
    subst (λ g. RowStep c.args.node row beside contents x g row beside) (sym (c.answered.ensures ∙ ap (λ posts. record { reply = reply.Ok; posts = posts; erased = [] }) c.in_ok-tell_not_here-in-NotHere.ensures.ok))
    (not_here_done c.args.node row beside contents h c.args.from c.args.id.now c.args.number c.args.len c.args.digest.now c.args.indexes.now
    (ap (λ t. row_pull_answer c.args.len c.args.digest.now (at t c.args.id.now)) (sym c.copies.ensures.copies) ∙ sym c.pull_answer.ensures ∙ c.in-NotHere.is))

pub returns-in_ok-chunk_messages-in-Chunks-clause-ok : goal.returns-in_ok-chunk_messages-in-Chunks-clause-ok
returns-in_ok-chunk_messages-in-Chunks-clause-ok c grants bytes contents h =
    let row = c.args.row.now in
    let beside = beside_of c.args.works.now grants bytes row.job in
    let x = input.Arrive (arrival.FromPeer c.args.from (peer.Pull c.args.id.now c.args.number c.args.len c.args.digest.now c.args.indexes.now)) in
    subst (λ g. RowStep c.args.node row beside contents x g row beside) (sym c.answered-in-Chunks.ensures)
    (chunks_done c.args.node row beside contents h c.args.from c.args.id.now c.args.number c.args.len c.args.digest.now c.args.indexes.now
    c.in_ok-chunk_messages-in-Chunks.field-0 c.in_ok-chunk_messages-in-Chunks.ensures.ok
    (ap (λ t. row_pull_answer c.args.len c.args.digest.now (at t c.args.id.now)) (sym c.copies.ensures.copies) ∙ sym c.pull_answer.ensures ∙ c.in-Chunks.is))

pub returns-in-Nothing-clause-ok : goal.returns-in-Nothing-clause-ok
returns-in-Nothing-clause-ok c grants bytes contents h =
    let row = c.args.row.now in
    let beside = beside_of c.args.works.now grants bytes row.job in
    let x = input.Arrive (arrival.FromPeer c.args.from (peer.Pull c.args.id.now c.args.number c.args.len c.args.digest.now c.args.indexes.now)) in
    subst (λ g. RowStep c.args.node row beside contents x g row beside) (sym c.only.ensures)
    (nothing_done c.args.node row beside contents h c.args.from c.args.id.now c.args.number c.args.len c.args.digest.now c.args.indexes.now
    (ap (λ t. row_pull_answer c.args.len c.args.digest.now (at t c.args.id.now)) (sym c.copies.ensures.copies) ∙ sym c.pull_answer.ensures ∙ c.in-Nothing.is))

pub returns-in-Restore-clause-ok : goal.returns-in-Restore-clause-ok
returns-in-Restore-clause-ok c =
    each_ok c.restore_quietly.result (λ o done grants bytes contents h.
    done c.args.from c.args.number c.args.len c.args.digest.now c.args.indexes.now grants bytes contents
    (ap (λ t. row_pull_answer c.args.len c.args.digest.now (at t c.args.id.now)) (sym c.copies.ensures.copies) ∙ sym c.pull_answer.ensures ∙ c.in-Restore.is) h) c.restore_quietly.ensures.ok
