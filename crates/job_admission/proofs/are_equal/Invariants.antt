use Rattle.std.proofs.Common.{◌≡◌, ◌<◌, ℕ, get_or}
use Rattle.job_admission.proofs.are_equal.Given as goal

abbrev pub invariant-loop-i : goal.invariant-loop-i
invariant-loop-i l = record {
  none : l.differences ≡ 0 → (k : ℕ) → k < l.i → get_or l.key k 0 ≡ get_or l.shown k 0;
  same : l.key ≡ l.shown → l.differences ≡ 0;
}
