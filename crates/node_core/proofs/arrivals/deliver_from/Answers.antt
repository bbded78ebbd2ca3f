use Rattle.std.proofs.Common.{sym, ap, subst, ◌∙◌}
use Rattle.obj_id.specs.declared.messages.Arrival.TheVariants as arrival
use Rattle.obj_id.specs.declared.messages.PeerMessage.TheVariants as peer
use Rattle.private_store.specs.rules.Contents.{chunk_verdict, judge}
use Rattle.private_store.specs.declared.inputs.Input.TheVariants as input
use Rattle.private_store.specs.declared.inputs.Judged.TheVariants as judged
use Rattle.row_steps.specs.Outcomes.{row_given_of}
use Rattle.row_steps.specs.Shown.{seen, RowStep}
use Rattle.node_core.proofs.arrivals.deliver_from.Goals as goal
use Rattle.row_steps.specs.Beside.{beside_of}

pub returns-in_ok-outcome-in-Pull-clause-ok : goal.returns-in_ok-outcome-in-Pull-clause-ok
returns-in_ok-outcome-in-Pull-clause-ok c grants bytes contents shown =
    let beside = beside_of c.args.works.now grants bytes c.args.row.now.job in
    let after = beside_of c.serve_pull.new.works grants bytes c.args.row.now.job in
    subst (λ m. RowStep c.args.node c.args.row.now beside contents (input.Arrive (arrival.FromPeer c.args.from m)) (row_given_of c.in_ok-outcome-in-Pull.outcome) c.serve_pull.new.row after)
    (ap (peer.Pull c.in-Pull.id c.in-Pull.number c.in-Pull.length c.in-Pull.digest) c.as_slice.ensures ∙ sym c.in-Pull.is) (c.in_ok-outcome-in-Pull.ensures.ok grants bytes contents shown)

pub returns-in_ok-outcome-in-Pull-clause-judged : goal.returns-in_ok-outcome-in-Pull-clause-judged
returns-in_ok-outcome-in-Pull-clause-judged c grants bytes contents shown =
    let beside = beside_of c.args.works.now grants bytes c.args.row.now.job in
    ap (judged.Pull c.in-Pull.id c.in-Pull.number) (c.pull_matches-matches.ensures beside contents shown)
    ∙ ap (λ m. judge c.args.node (seen c.args.row.now beside contents) (input.Arrive (arrival.FromPeer c.args.from m))) (sym c.in-Pull.is)

pub returns-in_ok-taken-in-Chunk-clause-ok : goal.returns-in_ok-taken-in-Chunk-clause-ok
returns-in_ok-taken-in-Chunk-clause-ok c grants bytes contents shown =
    let beside = beside_of c.args.works.now grants bytes c.args.row.now.job in
    subst (λ m. RowStep c.args.node c.args.row.now beside contents (input.Arrive (arrival.FromPeer c.args.from m)) (row_given_of c.in_ok-taken-in-Chunk.taken.outcome) c.chunk.new.row beside)
    (ap (peer.Chunk c.in-Chunk.id c.in-Chunk.number c.in-Chunk.index) c.deref.ensures ∙ sym c.in-Chunk.is) (c.in_ok-taken-in-Chunk.ensures.ok beside contents shown)

pub returns-in_ok-taken-in-Chunk-clause-judged : goal.returns-in_ok-taken-in-Chunk-clause-judged
returns-in_ok-taken-in-Chunk-clause-judged c grants bytes contents shown =
    let beside = beside_of c.args.works.now grants bytes c.args.row.now.job in
    ap (judged.Chunk c.in-Chunk.id c.in-Chunk.number c.in-Chunk.index c.args.from)
    (c.in_ok-taken-in-Chunk.ensures.verdict beside contents shown
    ∙ ap (λ bs. chunk_verdict (seen c.args.row.now beside contents) c.in-Chunk.id c.in-Chunk.number c.in-Chunk.index bs c.args.from) c.deref.ensures)
    ∙ ap (λ m. judge c.args.node (seen c.args.row.now beside contents) (input.Arrive (arrival.FromPeer c.args.from m))) (sym c.in-Chunk.is)

pub returns-in_ok-outcome-in-NotHere-clause-ok : goal.returns-in_ok-outcome-in-NotHere-clause-ok
returns-in_ok-outcome-in-NotHere-clause-ok c grants bytes contents shown =
    let beside = beside_of c.args.works.now grants bytes c.args.row.now.job in
    subst (λ m. RowStep c.args.node c.args.row.now beside contents (input.Arrive (arrival.FromPeer c.args.from m)) (row_given_of c.in_ok-outcome-in-NotHere.outcome) c.not_here.new.row beside)
    (sym c.in-NotHere.is) (c.in_ok-outcome-in-NotHere.ensures.ok c.args.node beside contents shown)

pub returns-in_ok-outcome-in-NotHere-clause-judged : goal.returns-in_ok-outcome-in-NotHere-clause-judged
returns-in_ok-outcome-in-NotHere-clause-judged c grants bytes contents shown =
    let beside = beside_of c.args.works.now grants bytes c.args.row.now.job in
    ap (λ m. judge c.args.node (seen c.args.row.now beside contents) (input.Arrive (arrival.FromPeer c.args.from m))) (sym c.in-NotHere.is)
