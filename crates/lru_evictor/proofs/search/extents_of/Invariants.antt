use Rattle.std.proofs.Common.{◌≡◌, ◌++◌, drop}
use Rattle.lru_evictor.specs.Facts.{gone_of}
use Rattle.lru_evictor.proofs.search.extents_of.Given as goal

-- those so far and those of what is left are all
abbrev pub invariant-loop-id : goal.invariant-loop-id
invariant-loop-id g l =
    l.extents.items ++ gone_of (g.C.CopyLookup.facts l.copies) (drop l.id-index l.ids) ≡ gone_of (g.C.CopyLookup.facts l.copies) l.ids
