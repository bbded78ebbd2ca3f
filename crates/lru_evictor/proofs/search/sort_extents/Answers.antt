use Rattle.std.proofs.Common.{rules}
use Rattle.std.proofs.lemmas.List.Sorted.{IsNonDecreasingBy-from_sort_by_key}
use Rattle.obj_id.specs.declared.works.Extent.{Extent}
use Rattle.lru_evictor.proofs.search.sort_extents.Goals as goal

pub returns-clause-rising : goal.returns-clause-rising
returns-clause-rising c = IsNonDecreasingBy-from_sort_by_key (λ (e : Extent). e.offset) _ c.sort_unstable_by_key.ensures.sorted (λ a r q k. search rules)
