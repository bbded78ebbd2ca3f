-- The first hole of some length, in two lists and in a tree.
use Rattle.std.proofs.Common.{◌≡◌, ℕ, ◌<◌, ◌≤◌, true, false, List, [], ◌∷◌, ◌++◌, Option, None, Some, refl, sym, ap, subst, ◌∙◌, arith, ⊎_elim}
use Rattle.std.specs.Prelude.{max, nat_eq, nat_le, if◌then◌else◌, unwrap_or}
use Rattle.std.proofs.lemmas.Option.{none-some}
use Rattle.std.proofs.lemmas.Bool.{cases_lt}
use Rattle.std.proofs.lemmas.Bool.Decides.{nat_tests}
use Rattle.augmented_tree.specs.Lists.{AllOf}
use Rattle.augmented_tree.specs.declared.Node.{Node}
use Rattle.augmented_tree.specs.Shape.{items}
use Rattle.augmented_tree.proofs.ForCallers.{ToldAt}
use Rattle.hole_tree.specs.declared.Hole.{Hole}
use Rattle.hole_tree.specs.Holes.{hole_offset, IsAnyHole, IsGreatest, AreHolesRising, greatest, hole_at, first_fitting}

pub greatest_both : (xs ys : List Hole) → greatest (xs ++ ys) ≡ max (greatest xs) (greatest ys)
greatest_both [] ys = omega arith
greatest_both (x ∷ xs) ys = let on = greatest_both xs ys in omega (arith, on)

-- where no hole is great enough
pub fitting_none : (n : ℕ) (xs ys : List Hole) → greatest xs < n → first_fitting n (xs ++ ys) ≡ first_fitting n ys
fitting_none n [] ys lt = refl
fitting_none n (x ∷ xs) ys lt =
    let t : nat_le n x.length ≡ false = grind (arith, nat_tests, lt) in
    rw t (fitting_none n xs ys (omega (arith, lt)))

pub fitting_nowhere : (n : ℕ) (xs : List Hole) → greatest xs < n → first_fitting n xs ≡ None
fitting_nowhere n [] lt = refl
fitting_nowhere n (x ∷ xs) lt =
    let t : nat_le n x.length ≡ false = grind (arith, nat_tests, lt) in
    rw t (fitting_nowhere n xs (omega (arith, lt)))

-- where one is
pub fitting_front : (n : ℕ) (xs ys : List Hole) → 0 < n → n ≤ greatest xs → first_fitting n (xs ++ ys) ≡ first_fitting n xs
fitting_front n [] ys some le = absurd (omega (arith, some, le))
fitting_front n (x ∷ xs) ys some le = ⊎_elim
    (λ (lt : x.length < n).
    let t : nat_le n x.length ≡ false = grind (arith, nat_tests, lt) in
    rw t (fitting_front n xs ys some (omega (arith, lt, le))))
    (λ (ge : n ≤ x.length).
    let t : nat_le n x.length ≡ true = grind (arith, nat_tests, ge) in
    rw t refl)
    (cases_lt x.length n)

pub joined : (m n : ℕ) (xs ys : List Hole) → IsGreatest m xs → IsGreatest n ys → IsGreatest (max m n) (xs ++ ys)
joined m n xs ys a b = let both = greatest_both xs ys in omega (arith, both, a, b)

-- where the descent goes
module _ (need : ℕ) (n : Node Hole ℕ) (h : ToldAt hole_offset IsAnyHole IsGreatest n) where
  abbrev here : List Hole
  here = n.here ∷ (items n.left ++ items n.right)

  pub goes_nowhere : n.summary < need → first_fitting need here ≡ None
  goes_nowhere lt = fitting_nowhere need here (omega (arith, lt, h.1))

  module _ (short : n.here.length < need) where
    not_here : nat_le need n.here.length ≡ false
    not_here = grind (arith, nat_tests, short)

    pub goes_left : (g : ℕ) → IsGreatest g (items n.left) → need ≤ g → first_fitting need here ≡ first_fitting need (items n.left)
    goes_left g is le = rw not_here (fitting_front need (items n.left) (items n.right) (omega (arith, short)) (omega (arith, le, is)))

    pub goes_right : (g : ℕ) → IsGreatest g (items n.left) → g < need → first_fitting need here ≡ first_fitting need (items n.right)
    goes_right g is lt = rw not_here (fitting_none need (items n.left) (items n.right) (omega (arith, lt, is)))

-- where all begin after an offset, so does the first of some length
fits_above : (n o : ℕ) (h : Hole) (xs : List Hole) → AllOf (λ x. o < x.offset) xs → first_fitting n xs ≡ Some h → o < h.offset
fits_above n o h [] above found = absurd (none-some h found)
fits_above n o h (x ∷ xs) above found = ⊎_elim
    (λ (lt : x.length < n).
    let t : nat_le n x.length ≡ false = grind (arith, nat_tests, lt) in
    fits_above n o h xs above.1 (sym (ap (λ b. if b then Some x else first_fitting n xs) t) ∙ found))
    (λ (ge : n ≤ x.length).
    let t : nat_le n x.length ≡ true = grind (arith, nat_tests, ge) in
    let is = ap (λ (o : Option Hole). unwrap_or o x) (sym (ap (λ b. if b then Some x else first_fitting n xs) t) ∙ found) in
    subst (λ (y : Hole). o < y.offset) is above.0)
    (cases_lt x.length n)

-- the first hole of some length is the one at its offset
pub fitting_at : (n : ℕ) (h : Hole) (xs : List Hole) → AreHolesRising xs → first_fitting n xs ≡ Some h → hole_at h.offset xs ≡ Some h
fitting_at n h [] rising found = absurd (none-some h found)
fitting_at n h (x ∷ xs) rising found = ⊎_elim
    (λ (lt : x.length < n).
    let t : nat_le n x.length ≡ false = grind (arith, nat_tests, lt) in
    let on = sym (ap (λ b. if b then Some x else first_fitting n xs) t) ∙ found in
    let above = fits_above n x.offset h xs rising.0 on in
    let e : nat_eq h.offset x.offset ≡ false = grind (arith, nat_tests, above) in
    rw e (fitting_at n h xs rising.1 on))
    (λ (ge : n ≤ x.length).
    let t : nat_le n x.length ≡ true = grind (arith, nat_tests, ge) in
    let is = ap (λ (o : Option Hole). unwrap_or o x) (sym (ap (λ b. if b then Some x else first_fitting n xs) t) ∙ found) in
    let e : nat_eq h.offset x.offset ≡ true = grind (arith, nat_tests, ap (λ (y : Hole). y.offset) is) in
    rw e (ap Some is))
    (cases_lt x.length n)
