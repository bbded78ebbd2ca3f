-- One thing for each field.
use Rattle.std.specs.Prelude.{ℕ, List, [], ◌∷◌, ⊤}

-- each field spells the thing that stands at its place
abbrev pub IsEach : {X : Type 0} → (List ℕ → X → Type 0) → List (List ℕ) → List X → Type 0
IsEach IsSpelled [] [] = ⊤
IsEach IsSpelled [] (x ∷ xs) = ⊥
IsEach IsSpelled (field ∷ fields) [] = ⊥
IsEach IsSpelled (field ∷ fields) (x ∷ xs) = IsSpelled field x × IsEach IsSpelled fields xs
