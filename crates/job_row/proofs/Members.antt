-- What is in a list.
use Rattle.std.proofs.Common.{◌≡◌, ◌⊎◌, inl, inr, List, [], ◌∷◌, Contains, arith}
use Rattle.std.proofs.lemmas.List.Elements.{Contains-append_left, Contains-append_right, Contains-append_cases, Contains-push, Contains-push_cases}

pub first_in : {X : Type 0} (x : X) (xs : List X) → Contains (x ∷ xs) x
first_in x xs = Contains-append_left (x ∷ []) xs x (Contains-push [] x)

pub later_in : {X : Type 0} (x y : X) (xs : List X) → Contains xs y → Contains (x ∷ xs) y
later_in x y xs h = Contains-append_right (x ∷ []) xs y h

pub nothing_in : {X : Type 0} (x : X) → Contains [] x → ⊥
nothing_in x h = let lt = h.1 in omega (arith, lt)

pub one_of : {X : Type 0} (x y : X) (xs : List X) → Contains (x ∷ xs) y → (x ≡ y) ⊎ Contains xs y
one_of x y xs h = elim (Contains-append_cases (x ∷ []) xs y h) [
  | inl c ↦ elim (Contains-push_cases [] x y c) [ inl n ↦ absurd (nothing_in y n) | inr e ↦ inl e ]
  | inr c ↦ inr c
]
