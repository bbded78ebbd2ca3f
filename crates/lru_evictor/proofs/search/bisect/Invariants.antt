use Rattle.std.proofs.Common.{◌≡◌, ◌-◌, ◌≤◌, true, false}
use Rattle.lru_evictor.specs.Leavings.{fits_first}
use Rattle.lru_evictor.proofs.search.bisect.Given as goal

abbrev pub invariant-loop-enough : goal.invariant-loop-enough
invariant-loop-enough l = record {
  rising : l.few ≤ l.enough;
  within : l.enough ≤ l.fn.enough;
  few : fits_first l.window l.len l.leaving l.few ≡ false;
  enough : fits_first l.window l.len l.leaving l.enough ≡ true;
}

abbrev pub decreases-loop-enough : goal.decreases-loop-enough
decreases-loop-enough l = l.enough - l.few
