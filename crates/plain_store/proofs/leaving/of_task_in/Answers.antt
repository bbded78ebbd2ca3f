use Rattle.std.proofs.Common.{rules}
use Rattle.std.proofs.lemmas.Iterator.{items_from_collect, YieldsList-from_slice}
use Rattle.std.proofs.lemmas.Iterator.Consumers.{YieldsList-at, YieldsList-from_copied, YieldsList-from_filter}
use Rattle.plain_store.proofs.leaving.of_task_in.Goals as goal

pub returns : goal.returns
returns c =
    items_from_collect c.collected.result c.collected.ensures.ran
    (YieldsList-from_filter _ _ (YieldsList-at c.filter-own.ensures.source (YieldsList-from_copied (YieldsList-at c.copied.ensures.source (YieldsList-from_slice c.args.ids.now c.iter.ensures.rest)))) c.filter-own.ensures.closure (λ x r q k. search rules))
