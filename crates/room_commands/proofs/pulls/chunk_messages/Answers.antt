use Rattle.std.proofs.Common.{length, map, ◌≤◌, sym, ap, subst, ◌∙◌}
use Rattle.private_store.specs.rules.Private.{to_peer, chunk_of}
use Rattle.room_commands.specs.Serving.{chunks_to}
use Rattle.room_commands.proofs.Serving.{few_chunks}
use Rattle.room_commands.proofs.pulls.chunk_messages.Goals as goal

pub returns-clause-ok : goal.returns-clause-ok
returns-clause-ok c k e found lies =
    c.in_ok-all_to_peer.ensures ∙ ap (map (to_peer c.args.from)) c.in_ok-chunks.ensures.ok
    ∙ ap (λ bs. chunks_to bs c.args.from c.args.id.now c.args.number c.args.indexes.now) (c.in_ok-bytes.ensures ∙ c.lent.ensures.bytes k e found lies)

pub returns-clause-bounded : goal.returns-clause-bounded
returns-clause-bounded c =
    subst (λ posts. length posts ≤ length c.args.indexes.now) (sym (c.in_ok-all_to_peer.ensures ∙ ap (map (to_peer c.args.from)) c.in_ok-chunks.ensures.ok))
    (few_chunks _ (chunk_of c.in_ok-bytes.bytes c.args.id.now c.args.number (length c.in_ok-bytes.bytes)) (to_peer c.args.from) c.args.indexes.now)
