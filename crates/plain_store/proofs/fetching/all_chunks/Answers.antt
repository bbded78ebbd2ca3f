use Rattle.plain_store.proofs.Pulls.{counted-more}
use Rattle.plain_store.proofs.fetching.all_chunks.Goals as goal

pub loop-index-preserved : goal.loop-index-preserved
loop-index-preserved c = counted-more c.loop-index.chunks.items _ c.loop-index.index c.chunk_count-count.result _ c.loop-index-test.true c.in_ok-push.ensures.items c.loop-index.invariant
