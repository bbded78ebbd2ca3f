use Rattle.std.proofs.Common.{sym, ap, ◌∙◌, ◌++◌, ◌∷◌, []}
use Rattle.fetch_core.proofs.Indexes.{counted-next}
use Rattle.fetch_core.proofs.all_chunks.Goals as goal

pub loop-index-preserved : goal.loop-index-preserved
loop-index-preserved c =
    c.in_ok-push.ensures.items ∙ ap (λ is. is ++ c.loop-index.index ∷ []) c.loop-index.invariant ∙ sym (counted-next c.loop-index.index)
