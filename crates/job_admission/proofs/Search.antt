-- The search for the place of a window: after what is in the way.
use Rattle.std.proofs.Common.{◌≡◌, ℕ, ◌+◌, ◌*◌, ◌/◌, ◌%◌, ◌<◌, ◌≤◌, Bool, true, false, not, ◌&&◌, cond, List, [], ◌∷◌, Option, Some, None, refl, sym, ap, subst, ◌∙◌, arith, ⊎_elim}
use Rattle.std.specs.Prelude.{nat_le, find}
use Rattle.std.specs.List.{list_all}
use Rattle.std.proofs.lemmas.Bool.{cases_lt, leb-true}
use Rattle.std.proofs.lemmas.Bool.Decides.{nat_tests}
use Rattle.obj_id.specs.declared.works.Extent.{Extent}
use Rattle.private_store.specs.rules.Extents.{rounded, end_of, is_apart, is_free, first}
use Rattle.store_facts.proofs.FirstFit.{first-free, first-least}
use Rattle.store_facts.proofs.Tests.{both, both_left, both_right, none_some, some_value, true_false}

-- what is found passes
module _ (test : Extent → Bool) where
  pub found_passes : (ws : List Extent) (w : Extent) → find test ws ≡ Some w → test w ≡ true
  found_passes [] w h = none_some w h
  found_passes (x ∷ xs) w h = by (test x) refl h (found_passes xs w)
    where
      by : (b : Bool) → test x ≡ b → cond b (Some x) (find test xs) ≡ Some w → (find test xs ≡ Some w → test w ≡ true) → test w ≡ true
      by true e h later = subst (λ y. test y ≡ true) (some_value x w h) e
      by false e h later = later h

  -- and has what all have
  pub found_has : (p : Extent → Bool) (ws : List Extent) (w : Extent) → list_all p ws ≡ true → find test ws ≡ Some w → p w ≡ true
  found_has p [] w all h = none_some w h
  found_has p (x ∷ xs) w all h = by (test x) h (found_has p xs w (both_right (p x) _ all))
    where
      by : (b : Bool) → cond b (Some x) (find test xs) ≡ Some w → (find test xs ≡ Some w → p w ≡ true) → p w ≡ true
      by true h later = subst (λ y. p y ≡ true) (some_value x w h) (both_left (p x) _ all)
      by false h later = later h

abbrev pub is_in_the_way : Extent → Extent → Bool
is_in_the_way bytes w = not (is_apart bytes w)

-- nothing in the way: all are apart
pub all_apart : (bytes : Extent) (ws : List Extent) → find (is_in_the_way bytes) ws ≡ None → list_all (is_apart bytes) ws ≡ true
all_apart bytes [] h = refl
all_apart bytes (x ∷ xs) h = by (is_apart bytes x) h (all_apart bytes xs)
  where
    by : (b : Bool) → cond (not b) (Some x) (find (is_in_the_way bytes) xs) ≡ None → (find (is_in_the_way bytes) xs ≡ None → list_all (is_apart bytes) xs ≡ true) → b && list_all (is_apart bytes) xs ≡ true
    by true h later = later h
    by false h later = none_some x (sym h)

not_true : (b : Bool) → not b ≡ true → b ≡ false
not_true true h = true_false h
not_true false h = refl

-- what isn't apart begins before the bytes end, and ends after their begin
pub meets : (a b : Extent) → is_apart a b ≡ false → (b.offset < end_of a) × (a.offset < end_of b)
meets a b h = ⊎_elim
    (λ (lt : b.offset < end_of a). ⊎_elim (λ (gt : a.offset < end_of b). (lt, gt)) (λ (ge : end_of b ≤ a.offset). absurd (grind (arith, nat_tests, lt, ge, h))) (cases_lt a.offset (end_of b)))
    (λ (ge : end_of a ≤ b.offset). absurd (grind (arith, nat_tests, ge, h)))
    (cases_lt b.offset (end_of a))

meeting : (a b : Extent) → b.offset < end_of a → a.offset < end_of b → is_apart a b ≡ false
meeting a b lt gt = grind (arith, nat_tests, lt, gt)

abbrev pub at : ℕ → ℕ → Extent
at o n = record { offset = o; length = n }

-- what is in the way at an offset is so at each offset before its end
pub taken_before : (ws : List Extent) (w : Extent) (n from o : ℕ) → find (is_in_the_way (at from n)) ws ≡ Some w → from ≤ o → o < end_of w → list_all (is_apart (at o n)) ws ≡ false
taken_before ws w n from o h low high = by (list_all (is_apart (at o n)) ws) refl
  where
    sides : (w.offset < end_of (at from n)) × (from < end_of w)
    sides = meets (at from n) w (not_true _ (found_passes (is_in_the_way (at from n)) ws w h))

    by : (b : Bool) → list_all (is_apart (at o n)) ws ≡ b → b ≡ false
    by false e = refl
    by true e =
        let here = found_has (is_in_the_way (at from n)) (is_apart (at o n)) ws w e h in
        let not_here = meeting (at o n) w (omega (arith, sides.0)) high in
        sym here ∙ not_here

-- what is in the way ends after where the search is
pub ends_after : (ws : List Extent) (w : Extent) (n from : ℕ) → find (is_in_the_way (at from n)) ws ≡ Some w → from < end_of w
ends_after ws w n from h = (meets (at from n) w (not_true _ (found_passes (is_in_the_way (at from n)) ws w h))).1

module _ (ws : List Extent) (memory n : ℕ) (units : rounded n ≡ n) where
  pub free_is : (o : ℕ) → is_free ws memory n o ≡ (nat_le (o + n) memory && list_all (is_apart (at o n)) ws)
  free_is o = ap (λ k. nat_le (o + k) memory && list_all (is_apart (at o k)) ws) units

  and_false : (a b : Bool) → b ≡ false → (a && b) ≡ false
  and_false true b e = e
  and_false false b e = refl

  -- no place before the end of what is in the way
  pub passed_over : (from : ℕ) (w : Extent) → find (is_in_the_way (at from n)) ws ≡ Some w → ((o : ℕ) → o < from → is_free ws memory n o ≡ false) → (o : ℕ) → o < end_of w → is_free ws memory n o ≡ false
  passed_over from w h before o lt = ⊎_elim
      (λ (low : o < from). before o low)
      (λ (high : from ≤ o). free_is o ∙ and_false _ _ (taken_before ws w n from o h high lt))
      (cases_lt o from)

  -- the first place that is free
  pub place_found : (o : ℕ) → o % 16 ≡ 0 → o + n ≤ memory → find (is_in_the_way (at o n)) ws ≡ None → ((i : ℕ) → i < o → is_free ws memory n i ≡ false) → first ws memory n ≡ Some o
  place_found o unit within none before =
      let fits : nat_le (o + n) memory ≡ true = grind (arith, nat_tests, within) in
      let free : is_free ws memory n o ≡ true = free_is o ∙ both _ _ fits (all_apart (at o n) ws none) in
      let whole : o ≡ 16 * (o / 16) = omega (arith, unit) in
      let found = first-least ws memory n (o / 16) (subst (λ i. is_free ws memory n i ≡ true) whole free) in
      let p = found.0 in
      let stands : is_free ws memory n p ≡ true = first-free ws memory n p found.1 in
      ⊎_elim
      (λ (lt : p < o). true_false (sym (before p lt) ∙ stands))
      (λ (ge : o ≤ p). let same : p ≡ o = omega (arith, ge, found.2, whole) in found.1 ∙ ap Some same)
      (cases_lt p o)

  -- no place at all
  pub place_none : (o : ℕ) → memory < o + n → ((i : ℕ) → i < o → is_free ws memory n i ≡ false) → first ws memory n ≡ None
  place_none o past before = by (first ws memory n) refl
    where
      by : (r : Option ℕ) → first ws memory n ≡ r → r ≡ None
      by None e = refl
      by (Some p) e =
          let stands : is_free ws memory n p ≡ true = first-free ws memory n p e in
          let within : p + n ≤ memory = leb-true (p + n) memory (both_left _ _ (sym (free_is p) ∙ stands)) in
          true_false (sym (before p (omega (arith, within, past))) ∙ stands)
