use Rattle.std.proofs.lemmas.Iterator.{items_from_collect}
use Rattle.std.proofs.lemmas.Iterator.Consumers.{YieldsList-at, YieldsList-from_copied, YieldsList-from_rest}
use Rattle.plain_store.proofs.store.PlainStore.ids.Goals as goal

pub returns : goal.returns
returns c = rw (← c.self.view_is) (items_from_collect c.collected.result c.collected.ensures.ran (YieldsList-from_copied (YieldsList-at c.copied.ensures.source (YieldsList-from_rest _ c.keys.ensures.rest))))
