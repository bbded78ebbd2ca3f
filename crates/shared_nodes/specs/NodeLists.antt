-- Lists of nodes, by number.
use Rattle.std.specs.Prelude.{◌≡◌, ℕ, List, Some, slice_get}

-- what stands at a place has its number
abbrev pub AreNumbered : {A : Type 0} → List A → (A → ℕ) → Type 0
AreNumbered {A} items number = (place : ℕ) (a : A) → slice_get items place ≡ Some a → number a ≡ place
