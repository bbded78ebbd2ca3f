-- A refusal is found by its number and by its name.
use Rattle.std.proofs.Common.{◌≡◌, ℕ, ◌+◌, ◌-◌, Bool, true, ◌&&◌, nat_eq, List, [], ◌∷◌, Option, Some, None, IfSome, zero, suc, refl, sym, ap, ◌∙◌, arith, Bor}
use Rattle.std.proofs.lemmas.Option.{slice_get-get_or, slice_get_past}
use Rattle.std.specs.Option.{option_copied}
use Rattle.std.specs.Slice.{IsItemAt}
use Rattle.std.proofs.lemmas.Bool.{and_parts, eqb-true}
use Rattle.std.specs.Prelude.{find, slice_get}
use Rattle.std.specs.Cmp.Lexicographic.{pointwise}
use Rattle.obj_id.specs.Refusals.{all_refusals, name_of, number_of}
use Rattle.obj_id.specs.declared.refusals.Refusal.{Refusal}
use Rattle.obj_id.specs.declared.refusals.Refusal.TheVariants.{NotAdmitted, BadId, Exists, Absent, NotSealed, AlreadySealed, BadSize, OutOfBounds, Full, Pending, NotHeld, Granted, NotGranted, DeviceFailed, Damaged, Busy, TooMany, Gone, NoMemory, Malformed, NoRoom, NotOwner, NotResident, Stale}

-- a refusal stands at the place before its number
pub refusal_at : (r : Refusal) → slice_get all_refusals (number_of r - 1) ≡ Some r
refusal_at NotAdmitted = refl
refusal_at BadId = refl
refusal_at Exists = refl
refusal_at Absent = refl
refusal_at NotSealed = refl
refusal_at AlreadySealed = refl
refusal_at BadSize = refl
refusal_at OutOfBounds = refl
refusal_at Full = refl
refusal_at Pending = refl
refusal_at NotHeld = refl
refusal_at Granted = refl
refusal_at NotGranted = refl
refusal_at DeviceFailed = refl
refusal_at Damaged = refl
refusal_at Busy = refl
refusal_at TooMany = refl
refusal_at Gone = refl
refusal_at NoMemory = refl
refusal_at Malformed = refl
refusal_at NoRoom = refl
refusal_at NotOwner = refl
refusal_at NotResident = refl
refusal_at Stale = refl

-- the numbers of the list rise by one from n on
are_numbered : ℕ → List Refusal → Bool
are_numbered n [] = true
are_numbered n (r ∷ rs) = nat_eq (number_of r) n && are_numbered (n + 1) rs

number_from : (n : ℕ) (rs : List Refusal) (i : ℕ) → are_numbered n rs ≡ true → IfSome (slice_get rs i) (λ r. number_of r ≡ n + i)
unfolding are_numbered
number_from n [] i h = tt
number_from n (r ∷ rs) zero h = let same = eqb-true (number_of r) n (and_parts _ _ h).0 in omega (arith, same)
number_from n (r ∷ rs) (suc i) h =
    let sum : n + 1 + i ≡ n + suc i = omega arith in
    rw (← sum) (number_from (n + 1) rs i (and_parts _ _ h).1)

-- and only there
pub number_at : (i : ℕ) → IfSome (slice_get all_refusals i) (λ r. number_of r ≡ 1 + i)
unfolding are_numbered
number_at i = number_from 1 all_refusals i refl

-- what `get` finds is the element at the place
pub option_copied-item : {X : Type 0} (xs : List X) (i : ℕ) (r : Option (Bor X)) → IsItemAt xs i r → option_copied r ≡ slice_get xs i
option_copied-item xs i None h = sym (slice_get_past xs i h.3)
option_copied-item xs i (Some x) h = ap Some (h.4 (omega arith) x.now) ∙ sym (slice_get-get_or xs i x.now h.3.0)

-- the first refusal of a refusal's name is that refusal
pub find-name_of : (r : Refusal) → find (λ x. pointwise nat_eq (name_of x) (name_of r)) all_refusals ≡ Some r
find-name_of NotAdmitted = refl
find-name_of BadId = refl
find-name_of Exists = refl
find-name_of Absent = refl
find-name_of NotSealed = refl
find-name_of AlreadySealed = refl
find-name_of BadSize = refl
find-name_of OutOfBounds = refl
find-name_of Full = refl
find-name_of Pending = refl
find-name_of NotHeld = refl
find-name_of Granted = refl
find-name_of NotGranted = refl
find-name_of DeviceFailed = refl
find-name_of Damaged = refl
find-name_of Busy = refl
find-name_of TooMany = refl
find-name_of Gone = refl
find-name_of NoMemory = refl
find-name_of Malformed = refl
find-name_of NoRoom = refl
find-name_of NotOwner = refl
find-name_of NotResident = refl
find-name_of Stale = refl
