use Rattle.std.proofs.Common.{◌≡◌, ◌++◌, ◌<◌, ◌≤◌, false, take, length}
use Rattle.lru_evictor.specs.Facts.{chosen}
use Rattle.lru_evictor.specs.Facts.{fits_without}
use Rattle.use_tree.specs.declared.classes.VictimClass.TheVariants.{Evictable}
use Rattle.lru_evictor.proofs.search.shortest.Given as goal

abbrev pub invariant-loop-id : goal.invariant-loop-id
invariant-loop-id g l = record {
  within : l.few ≤ length l.ids.items;
  few : fits_without l.window (g.C.CopyLookup.facts l.copies) l.len (take l.few l.ids.items) ≡ false;
  left : 0 < l.left;
  whole : l.ids.items ++ chosen (g.C.CopyLookup.facts l.copies) Evictable l.id-iterator ≡ chosen (g.C.CopyLookup.facts l.copies) Evictable l.fn.candidates;
}
