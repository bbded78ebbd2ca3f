-- Nodes that are taken out of a list one after another, each with the number of its place.
use Rattle.std.proofs.Common.{◌≡◌, ℕ, suc, ◌+◌, List, ◌∷◌, Some, refl, subst, ◌∙◌, arith}
use Rattle.std.specs.Prelude.{slice_get}

-- the first of them has this number
abbrev pub AreNumberedFrom : {A : Type 0} → (A → ℕ) → ℕ → List A → Type 0
AreNumberedFrom {A} number first items = (place : ℕ) (a : A) → slice_get items place ≡ Some a → number a ≡ first + place

module _ {A : Type 0} (number : A → ℕ) (first : ℕ) (a : A) (before after : List A) (taken : before ≡ a ∷ after) (are : AreNumberedFrom number first before) where
  here : AreNumberedFrom number first (a ∷ after)
  here = subst (AreNumberedFrom number first) taken are

  pub is_first : number a ≡ first
  is_first = here 0 a refl ∙ grind arith

  pub rest : (next : ℕ) → next ≡ first + 1 → AreNumberedFrom number next after
  rest next more place b there = here (suc place) b there ∙ grind (arith, more)
