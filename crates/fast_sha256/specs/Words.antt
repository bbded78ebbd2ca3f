-- Where words of a block's schedule lie: four of them in the lanes of a vector, and their sums with the round constants_from in a list.
use Rattle.std.specs.Prelude.{◌≡◌, ℕ, ◌+◌, ◌<◌, List, slice_index}
use Rattle.sha2.specs.Sha256.{add32, round_constants}

-- the four lanes are these words from t on
abbrev pub AreWords : List ℕ → ℕ → List ℕ → Type 0
AreWords lanes t words = (j : ℕ) → j < 4 → slice_index lanes j ≡ slice_index words (t + j)

-- the first n are the sums of the round constants_from and these words
abbrev pub AreSums : List ℕ → ℕ → List ℕ → Type 0
AreSums sums n words = (k : ℕ) → k < n → slice_index sums k ≡ add32 (slice_index round_constants k) (slice_index words k)
