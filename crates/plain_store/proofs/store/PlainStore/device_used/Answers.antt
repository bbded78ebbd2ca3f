use Rattle.std.proofs.Common.{arith, rules}
use Rattle.std.proofs.lemmas.Iterator.Adapters.{fits_from_length, at_most_from_Filter, at_most_from_yields_List}
use Rattle.std.proofs.lemmas.Iterator.Consumers.{YieldsList-from_rest}
use Rattle.plain_store.proofs.store.PlainStore.device_used.Goals as goal

pub sum-requires-clause-fits : goal.sum-requires-clause-fits
sum-requires-clause-fits c = fits_from_length _ _ 1024 _ (at_most_from_Filter _ (at_most_from_yields_List (YieldsList-from_rest c.iter.result cc) (grind arith))) c.map.ensures.closure (omega arith) (λ x r q k. search (rules, arith))
