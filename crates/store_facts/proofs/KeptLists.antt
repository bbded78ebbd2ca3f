-- Lists under tests: what adding an element, or filtering, leaves of a count, and of what some or all elements are.
use Rattle.std.proofs.Common.{◌≡◌, ℕ, zero, suc, ◌+◌, ◌≤◌, Bool, true, false, not, cond, ◌||◌, List, [], ◌∷◌, ◌++◌, length, filter, Some, refl, sym, ap, subst, ◌∙◌, arith}
use Rattle.std.specs.Prelude.{count_by, take}
use Rattle.std.specs.List.{list_any, list_all, find}
use Rattle.std.proofs.lemmas.List.Sums.{sum_by-cons, sum_by-append}
use Rattle.store_facts.proofs.Tests.{both, both_left, both_right, none_some, or_false_left, or_false_right, some_value, true_false}

one_at_most : (n : ℕ) → 1 + n ≤ 1 → n ≡ 0
one_at_most n h = omega (arith, h)

module _ {X : Type 0} where
  pub count-cons : (p : X → Bool) (x : X) (xs : List X) → count_by p (x ∷ xs) ≡ cond (p x) 1 0 + count_by p xs
  count-cons p x xs = sum_by-cons (λ y. cond (p y) 1 0) x xs

  pub count-append : (p : X → Bool) (xs ys : List X) → count_by p (xs ++ ys) ≡ count_by p xs + count_by p ys
  count-append p xs ys = sum_by-append (λ y. cond (p y) 1 0) xs ys

  pub count-yes : (p : X → Bool) (x : X) (xs : List X) → p x ≡ true → count_by p (x ∷ xs) ≡ 1 + count_by p xs
  count-yes p x xs e = count-cons p x xs ∙ ap (λ b. cond b 1 0 + count_by p xs) e

  pub count-no : (p : X → Bool) (x : X) (xs : List X) → p x ≡ false → count_by p (x ∷ xs) ≡ count_by p xs
  count-no p x xs e = let k : count_by p (x ∷ xs) ≡ 0 + count_by p xs = count-cons p x xs ∙ ap (λ b. cond b 1 0 + count_by p xs) e in omega (arith, k)

  -- what no element is
  pub count_none : (p : X → Bool) (xs : List X) → list_any p xs ≡ false → count_by p xs ≡ 0
  count_none p [] h = refl
  count_none p (x ∷ xs) h = count-no p x xs (or_false_left _ _ h) ∙ count_none p xs (or_false_right _ _ h)

  pub none_counted : (p : X → Bool) (xs : List X) → count_by p xs ≡ 0 → list_any p xs ≡ false
  none_counted p [] h = refl
  none_counted p (x ∷ xs) h =
      elim (p x) as (λ b. p x ≡ b → b || list_any p xs ≡ false) [
        | true ↦ λ e. let k : 1 + count_by p xs ≡ 0 = sym (count-yes p x xs e) ∙ h in absurd (omega (arith, k))
        | false ↦ λ e. none_counted p xs (sym (count-no p x xs e) ∙ h)
      ] refl

  pub some_counted : (p : X → Bool) (xs : List X) → list_any p xs ≡ true → 1 ≤ count_by p xs
  some_counted p [] h = true_false h
  some_counted p (x ∷ xs) h =
      elim (p x) as (λ b. p x ≡ b → b || list_any p xs ≡ true → 1 ≤ count_by p (x ∷ xs)) [
        | true ↦ λ e _. let k = count-yes p x xs e in omega (arith, k)
        | false ↦ λ e t. let k = count-no p x xs e in let i = some_counted p xs t in omega (arith, k, i)
      ] refl h

  pub count-filter : (p q : X → Bool) (xs : List X) → count_by p (filter q xs) ≤ count_by p xs
  count-filter p q [] = omega arith
  count-filter p q (x ∷ xs) =
      let i = count-filter p q xs in
      let k = count-cons p x xs in
      elim (q x) as (λ b. count_by p (cond b (x ∷ filter q xs) (filter q xs)) ≤ count_by p (x ∷ xs)) [
        | true ↦ let l = count-cons p x (filter q xs) in omega (arith, i, k, l)
        | false ↦ omega (arith, i, k)
      ]

  pub count-take : (p : X → Bool) (n : ℕ) (xs : List X) → count_by p (take n xs) ≤ count_by p xs
  count-take p zero xs = omega arith
  count-take p (suc n) [] = omega arith
  count-take p (suc n) (x ∷ xs) =
      let i = count-take p n xs in
      let k = count-cons p x xs in
      let l = count-cons p x (take n xs) in
      omega (arith, i, k, l)

  pub length-filter-le : (q : X → Bool) (xs : List X) → length (filter q xs) ≤ length xs
  length-filter-le q [] = omega arith
  length-filter-le q (x ∷ xs) =
      let i = length-filter-le q xs in
      elim (q x) as (λ b. length (cond b (x ∷ filter q xs) (filter q xs)) ≤ length (x ∷ xs)) [ true ↦ omega (arith, i) | false ↦ omega (arith, i) ]

  pub any-filter-le : (p q : X → Bool) (xs : List X) → list_any p xs ≡ false → list_any p (filter q xs) ≡ false
  any-filter-le p q [] h = refl
  any-filter-le p q (x ∷ xs) h =
      let i = any-filter-le p q xs (or_false_right _ _ h) in
      elim (q x) as (λ b. list_any p (cond b (x ∷ filter q xs) (filter q xs)) ≡ false) [ true ↦ ap (λ b. b || list_any p (filter q xs)) (or_false_left _ _ h) ∙ i | false ↦ i ]

  pub any-filter-only : (p q : X → Bool) (xs : List X) → list_any p (filter q xs) ≡ true → list_any p xs ≡ true
  any-filter-only p q xs e = elim (list_any p xs) as (λ b. list_any p xs ≡ b → b ≡ true) [ true ↦ λ t. refl | false ↦ λ t. sym (any-filter-le p q xs t) ∙ e ] refl

  -- a filter that keeps all that the test means
  pub any-filter : (p q : X → Bool) (xs : List X) → ((x : X) → p x ≡ true → q x ≡ true) → list_any p (filter q xs) ≡ list_any p xs
  any-filter p q [] h = refl
  any-filter p q (x ∷ xs) h =
      elim (q x) as (λ b. q x ≡ b → list_any p (cond b (x ∷ filter q xs) (filter q xs)) ≡ (p x || list_any p xs)) [
        | true ↦ λ _. ap (λ b. p x || b) (any-filter p q xs h)
        | false ↦ λ e. any-filter p q xs h ∙ sym (ap (λ b. b || list_any p xs) (passed (p x) refl e))
      ] refl
    where
      passed : (b : Bool) → p x ≡ b → q x ≡ false → p x ≡ false
      passed true t e = true_false (sym e ∙ h x t)
      passed false t e = t

  -- the same, of the list's elements alone
  pub any-filter-all : (p q : X → Bool) (xs : List X) → list_all (λ x. not (p x) || q x) xs ≡ true → list_any p (filter q xs) ≡ list_any p xs
  any-filter-all p q [] h = refl
  any-filter-all p q (x ∷ xs) h =
      let i = any-filter-all p q xs (both_right (not (p x) || q x) (list_all (λ x. not (p x) || q x) xs) h) in
      elim (q x) as (λ b. not (p x) || b ≡ true → list_any p (cond b (x ∷ filter q xs) (filter q xs)) ≡ (p x || list_any p xs)) [
        | true ↦ λ _. ap (λ b. p x || b) i
        | false ↦ λ t. i ∙ sym (ap (λ b. b || list_any p xs) (unmet (p x) t))
      ] (both_left (not (p x) || q x) (list_all (λ x. not (p x) || q x) xs) h)
    where
      unmet : (b : Bool) → not b || false ≡ true → b ≡ false
      unmet true t = true_false t
      unmet false t = refl

  pub all-filter : (p q : X → Bool) (xs : List X) → list_all p xs ≡ true → list_all p (filter q xs) ≡ true
  all-filter p q [] h = refl
  all-filter p q (x ∷ xs) h =
      let i = all-filter p q xs (both_right (p x) (list_all p xs) h) in
      elim (q x) as (λ b. list_all p (cond b (x ∷ filter q xs) (filter q xs)) ≡ true) [ true ↦ both _ _ (both_left (p x) (list_all p xs) h) i | false ↦ i ]

  pub all_weaker : (p q : X → Bool) (xs : List X) → ((x : X) → p x ≡ true → q x ≡ true) → list_all p xs ≡ true → list_all q xs ≡ true
  all_weaker p q [] h k = refl
  all_weaker p q (x ∷ xs) h k = both _ _ (h x (both_left (p x) (list_all p xs) k)) (all_weaker p q xs h (both_right (p x) (list_all p xs) k))

  pub find-passes : (q : X → Bool) (xs : List X) (w : X) → find q xs ≡ Some w → q w ≡ true
  find-passes q [] w e = none_some w e
  find-passes q (x ∷ xs) w e =
      elim (q x) as (λ b. q x ≡ b → cond b (Some x) (find q xs) ≡ Some w → q w ≡ true) [
        | true ↦ λ t f. ap q (sym (some_value x w f)) ∙ t
        | false ↦ λ t f. find-passes q xs w f
      ] refl e

  -- what is found is one of the list
  pub find-any : (q p : X → Bool) (xs : List X) (w : X) → find q xs ≡ Some w → p w ≡ true → list_any p xs ≡ true
  find-any q p [] w e t = none_some w e
  find-any q p (x ∷ xs) w e t =
      elim (q x) as (λ b. cond b (Some x) (find q xs) ≡ Some w → p x || list_any p xs ≡ true) [
        | true ↦ λ f. ap (λ b. b || list_any p xs) (ap p (some_value x w f) ∙ t)
        | false ↦ λ f. later (p x) (find-any q p xs w f t)
      ] e
    where
      later : (b : Bool) → list_any p xs ≡ true → b || list_any p xs ≡ true
      later true k = refl
      later false k = k

  pub filter_none : (q : X → Bool) (xs : List X) → list_any q xs ≡ false → filter (λ x. not (q x)) xs ≡ xs
  filter_none q [] h = refl
  filter_none q (x ∷ xs) h =
      ap (λ b. cond (not b) (x ∷ filter (λ x. not (q x)) xs) (filter (λ x. not (q x)) xs)) (or_false_left (q x) (list_any q xs) h)
      ∙ ap (λ ys. x ∷ ys) (filter_none q xs (or_false_right (q x) (list_any q xs) h))

  -- taking out the one element that is found leaves all that it isn't
  pub any-taken : (q p : X → Bool) (xs : List X) (w : X) → find q xs ≡ Some w → count_by q xs ≤ 1 → p w ≡ false → list_any p (filter (λ x. not (q x)) xs) ≡ list_any p xs
  any-taken q p [] w e n t = refl
  any-taken q p (x ∷ xs) w e n t =
      elim (q x) as (λ b. q x ≡ b → cond b (Some x) (find q xs) ≡ Some w → list_any p (cond (not b) (x ∷ filter (λ x. not (q x)) xs) (filter (λ x. not (q x)) xs)) ≡ (p x || list_any p xs)) [
        | true ↦ λ i f. ap (list_any p) (filter_none q xs (none_counted q xs (one_at_most _ (subst (λ m. m ≤ 1) (count-yes q x xs i) n))))
            ∙ sym (ap (λ b. b || list_any p xs) (ap p (some_value x w f) ∙ t))
        | false ↦ λ i f. ap (λ b. p x || b) (any-taken q p xs w f (subst (λ m. m ≤ 1) (count-no q x xs i) n) t)
      ] refl e

  -- and nothing of what it alone is
  pub none-taken : (q p : X → Bool) (xs : List X) (w : X) → find q xs ≡ Some w → count_by p xs ≤ 1 → p w ≡ true → list_any p (filter (λ x. not (q x)) xs) ≡ false
  none-taken q p [] w e n t = refl
  none-taken q p (x ∷ xs) w e n t =
      elim (q x) as (λ b. q x ≡ b → cond b (Some x) (find q xs) ≡ Some w → list_any p (cond (not b) (x ∷ filter (λ x. not (q x)) xs) (filter (λ x. not (q x)) xs)) ≡ false) [
        | true ↦ λ i f. any-filter-le p (λ x. not (q x)) xs (none_counted p xs (one_at_most _ (subst (λ m. m ≤ 1) (count-yes p x xs (ap p (some_value x w f) ∙ t)) n)))
        | false ↦ λ i f. by_test (p x) refl f (λ m. none-taken q p xs w f m t)
      ] refl e
    where
      by_test : (b : Bool) → p x ≡ b → find q xs ≡ Some w → (count_by p xs ≤ 1 → list_any p (filter (λ x. not (q x)) xs) ≡ false) → p x || list_any p (filter (λ x. not (q x)) xs) ≡ false
      by_test true i f rest = let k : 1 + count_by p xs ≤ 1 = subst (λ m. m ≤ 1) (count-yes p x xs i) n in let l = some_counted p xs (find-any q p xs w f t) in absurd (omega (arith, k, l))
      by_test false i f rest = ap (λ b. b || list_any p (filter (λ x. not (q x)) xs)) i ∙ rest (subst (λ m. m ≤ 1) (count-no p x xs i) n)
