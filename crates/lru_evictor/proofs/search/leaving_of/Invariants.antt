use Rattle.std.proofs.Common.{◌≡◌, ◌++◌, drop}
use Rattle.lru_evictor.specs.Leavings.{leaving_of}
use Rattle.lru_evictor.proofs.search.leaving_of.Given as goal

-- those so far and those of what is left are all
abbrev pub invariant-loop-id : goal.invariant-loop-id
invariant-loop-id g l = record {
  place : l.place ≡ l.id-index;
  all : l.leaving.items ++ leaving_of (g.C.CopyLookup.facts l.copies) l.id-index (drop l.id-index l.ids) ≡ leaving_of (g.C.CopyLookup.facts l.copies) 0 l.ids;
}
