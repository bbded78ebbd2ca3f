use Rattle.std.proofs.Common.{◌∙◌, ap, arith, rules, is_some, sum, map, filter}
use Rattle.std.proofs.lemmas.Iterator.{YieldsList-from_map}
use Rattle.std.proofs.lemmas.Iterator.Adapters.{fits_from_length, at_most_from_Filter, at_most_from_yields_List}
use Rattle.std.proofs.lemmas.Iterator.Consumers.{YieldsList-from_filter, YieldsList-from_rest, sum_from_yields_List}
use Rattle.private_store.specs.rules.Extents.{rounded}
use Rattle.plain_store.proofs.store.PlainStore.resident_bytes.Goals as goal

pub sum-requires-clause-fits : goal.sum-requires-clause-fits
sum-requires-clause-fits c = fits_from_length _ _ 1024 _ (at_most_from_Filter _ (at_most_from_yields_List (YieldsList-from_rest c.iter.result cc) (grind arith))) c.map.ensures.closure (omega arith) (λ x r q k. search (rules, arith))

pub returns : goal.returns
returns c =
    sum_from_yields_List c.map.result c.sum.result c.sum.ensures.ran
    (YieldsList-from_map _ (λ e. rounded e.1.length) (YieldsList-from_filter _ (λ e. is_some e.1.offset) (YieldsList-from_rest c.self.inside.copies.entries (cc)) (cc) (λ x b q k. search rules)) (cc) (λ x r q k. search rules))
    ∙ ap (λ replay_state. sum (map (λ e. rounded e.1.length) (filter (λ e. is_some e.1.offset) replay_state.shape.copies))) c.self.view_is
