use Rattle.std.proofs.Common.{◌≡◌, ℕ, ◌-◌, ◌<◌, ◌≤◌, false, take, length}
use Rattle.plain_store.specs.Fits.{is_room_without}
use Rattle.plain_store.proofs.store.PlainStore.bracket.Given as goal

abbrev pub invariant-loop-most : goal.invariant-loop-most
invariant-loop-most l = record {
  rising : l.least ≤ l.most;
  within : l.most ≤ length l.ids;
  few : (j : ℕ) → j < l.least → is_room_without l.self.shape l.length l.out (take j l.ids) ≡ false;
}

abbrev pub decreases-loop-most : goal.decreases-loop-most
decreases-loop-most l = length l.ids - l.most
