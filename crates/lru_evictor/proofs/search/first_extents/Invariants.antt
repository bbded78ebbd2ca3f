use Rattle.std.proofs.Common.{◌≡◌, ◌++◌, drop}
use Rattle.lru_evictor.specs.Leavings.{firsts}
use Rattle.lru_evictor.proofs.search.first_extents.Given as goal

-- those so far and those of what is left are all
abbrev pub invariant-loop-l : goal.invariant-loop-l
invariant-loop-l l = l.extents.items ++ firsts l.count (drop l.l-index l.leaving) ≡ firsts l.count l.leaving
