-- Lists of items by rising key.
use Rattle.std.specs.Prelude.{ℕ, ◌<◌, Bool, false, ◌||◌, nat_lt, nat_eq, if◌then◌else◌, List, [], ◌∷◌, Option, Some, None}

-- each item has P
abbrev pub AllOf : {A : Type 0} → (A → Type 0) → List A → Type 0
AllOf P [] = Unit {0}
AllOf P (x ∷ xs) = P x × AllOf P xs

-- each key is below all later ones
abbrev pub IsRisingBy : {A : Type 0} → (A → ℕ) → List A → Type 0
IsRisingBy key [] = Unit {0}
IsRisingBy key (x ∷ xs) = AllOf (λ y. key x < key y) xs × IsRisingBy key xs

-- with an item in its place, in place of the one of its key
abbrev pub put_item : {A : Type 0} → (A → ℕ) → A → List A → List A
put_item key x [] = x ∷ []
put_item key x (y ∷ ys) = if nat_lt (key x) (key y) then x ∷ y ∷ ys else (if nat_lt (key y) (key x) then y ∷ put_item key x ys else x ∷ ys)

-- without the item of a key
abbrev pub take_item : {A : Type 0} → (A → ℕ) → ℕ → List A → List A
take_item key k [] = []
take_item key k (y ∷ ys) = if nat_eq k (key y) then ys else y ∷ take_item key k ys

-- whether there is an item of a key
abbrev pub has_item : {A : Type 0} → (A → ℕ) → ℕ → List A → Bool
has_item key k [] = false
has_item key k (y ∷ ys) = nat_eq k (key y) || has_item key k ys

-- the item of a key, if there is one
abbrev pub find_item : {A : Type 0} → (A → ℕ) → ℕ → List A → Option A
find_item key k [] = None
find_item key k (y ∷ ys) = if nat_eq k (key y) then Some y else find_item key k ys

-- with the item of a key changed
abbrev pub change_item : {A : Type 0} → (A → ℕ) → (A → A) → ℕ → List A → List A
change_item key f k [] = []
change_item key f k (y ∷ ys) = if nat_eq k (key y) then f y ∷ ys else y ∷ change_item key f k ys
