-- How many copies have to go.
use Rattle.std.specs.Prelude.{◌≡◌, ℕ, ◌-◌, ◌≤◌, Bool, true, false, List, ◌++◌, length, take}
use Rattle.obj_id.specs.declared.ids.ObjectId.{ObjectId}
use Rattle.job_region.specs.Region.{Region}
use Rattle.lru_evictor.specs.Facts.{Looked, fits_without}

-- the first k of these copies are enough, and the first k - 1 are not
pub record AreEnough (window : Region) (facts : Looked) (n : ℕ) (ids : List ObjectId) (k : ℕ) : Type 0 where
  pub within : k ≤ length ids
  pub enough : fits_without window facts n (take k ids) ≡ true
  pub fewer : fits_without window facts n (take (k - 1) ids) ≡ false

-- what is enough with some is enough with more of them
abbrev pub AreMore : (List ObjectId → Bool) → Type 0
AreMore test = (some more : List ObjectId) → test some ≡ true → test (some ++ more) ≡ true
