-- Lists of holes by rising offset.
use Rattle.std.specs.Prelude.{◌≡◌, ℕ, Bool, max, nat_le, if◌then◌else◌, List, [], ◌∷◌, Option, Some, None}
use Rattle.augmented_tree.specs.Lists.{IsRisingBy, put_item, take_item, has_item, find_item}
use Rattle.hole_tree.specs.declared.Hole.{Hole}

abbrev pub hole_offset : Hole → ℕ
hole_offset h = h.offset

-- nothing is asked of a hole
abbrev pub IsAnyHole : Hole → Type 0
IsAnyHole h = Unit {0}

-- each offset is below all later ones
abbrev pub AreHolesRising : List Hole → Type 0
AreHolesRising = IsRisingBy hole_offset

-- with a hole in its place, in place of the one at its offset
abbrev pub put_hole : Hole → List Hole → List Hole
put_hole = put_item hole_offset

-- without the hole at an offset
abbrev pub take_hole : ℕ → List Hole → List Hole
take_hole = take_item hole_offset

-- whether there is a hole at an offset
abbrev pub has_hole : ℕ → List Hole → Bool
has_hole = has_item hole_offset

-- the hole at an offset, if there is one
abbrev pub hole_at : ℕ → List Hole → Option Hole
hole_at = find_item hole_offset

-- the length of the greatest hole
abbrev pub greatest : List Hole → ℕ
greatest [] = 0
greatest (x ∷ xs) = max x.length (greatest xs)

abbrev pub IsGreatest : ℕ → List Hole → Type 0
IsGreatest n xs = n ≡ greatest xs

-- the first hole of at least n bytes
abbrev pub first_fitting : ℕ → List Hole → Option Hole
first_fitting n [] = None
first_fitting n (x ∷ xs) = if nat_le n x.length then Some x else first_fitting n xs
