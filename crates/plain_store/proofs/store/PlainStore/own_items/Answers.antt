use Rattle.std.proofs.Common.{rules}
use Rattle.std.proofs.lemmas.Iterator.{items_from_collect, YieldsList-from_map}
use Rattle.std.proofs.lemmas.Iterator.Consumers.{YieldsList-at, YieldsList-from_rest}
use Rattle.plain_store.proofs.store.PlainStore.own_items.Goals as goal

pub returns : goal.returns
returns c =
    rw (← c.self.view_is)
    (items_from_collect c.collected.result c.collected.ensures.ran
    (YieldsList-from_map _ _ (YieldsList-at c.map-items.ensures.source (YieldsList-from_rest _ c.iter.ensures.rest)) c.map-items.ensures.closure (λ x r q k. search rules)))
