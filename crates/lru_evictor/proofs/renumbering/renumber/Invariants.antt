use Rattle.std.proofs.Common.{◌≡◌}
use Rattle.lru_evictor.proofs.Turning.{Turning}
use Rattle.lru_evictor.proofs.renumbering.renumber.Given as goal

-- the last have turns anew
abbrev pub invariant-loop-more : goal.invariant-loop-more
invariant-loop-more l = record {
  turning : Turning l.fn.slots.entries l.slots.entries l.index l.old l.more;
  residents : l.index.2 ≡ l.fn.index.2;
  cap : l.slots.cap ≡ l.fn.slots.cap;
}

abbrev pub decreases-loop-more : goal.decreases-loop-more
decreases-loop-more l = l.more
