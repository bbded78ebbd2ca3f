-- Filters of lists.
use Rattle.std.proofs.Common.{◌≡◌, ◌≤◌, Bool, true, false, not, cond, List, [], ◌∷◌, ◌++◌, map, filter, length, refl, ap, ◌∙◌, arith}
use Rattle.std.specs.List.{list_all}
use Rattle.std.specs.Prelude.{◌&&◌}
use Rattle.store_facts.proofs.Tests.{both, both_left, both_right, true_false}

module _ {X : Type 0} where
  pub filter_append : (p : X → Bool) (xs ys : List X) → filter p (xs ++ ys) ≡ filter p xs ++ filter p ys
  filter_append p [] ys = refl
  filter_append p (x ∷ xs) ys =
      elim (p x) as (λ b. cond b (x ∷ filter p (xs ++ ys)) (filter p (xs ++ ys)) ≡ cond b (x ∷ filter p xs) (filter p xs) ++ filter p ys) [
        | true ↦ ap (λ r. x ∷ r) (filter_append p xs ys)
        | false ↦ filter_append p xs ys
      ]

  pub filter_swap : (p q : X → Bool) (xs : List X) → filter p (filter q xs) ≡ filter q (filter p xs)
  filter_swap p q [] = refl
  filter_swap p q (x ∷ xs) =
      let rest = filter_swap p q xs in
      (elim (p x) as (λ b. p x ≡ b → filter p (cond (q x) (x ∷ filter q xs) (filter q xs)) ≡ filter q (cond b (x ∷ filter p xs) (filter p xs))) [
        | true ↦ λ e. elim (q x) as (λ c. filter p (cond c (x ∷ filter q xs) (filter q xs)) ≡ cond c (x ∷ filter q (filter p xs)) (filter q (filter p xs))) [
          | true ↦ ap (λ b. cond b (x ∷ filter p (filter q xs)) (filter p (filter q xs))) e ∙ ap (λ r. x ∷ r) rest
          | false ↦ rest
        ]
        | false ↦ λ e. elim (q x) as (λ c. filter p (cond c (x ∷ filter q xs) (filter q xs)) ≡ filter q (filter p xs)) [
          | true ↦ ap (λ b. cond b (x ∷ filter p (filter q xs)) (filter p (filter q xs))) e ∙ rest
          | false ↦ rest
        ]
      ]) refl

  -- what passes the one test passes the other
  pub filter_within : (p q : X → Bool) → ((x : X) → p x ≡ true → q x ≡ true) → (xs : List X) → filter q (filter p xs) ≡ filter p xs
  filter_within p q h [] = refl
  filter_within p q h (x ∷ xs) =
      let rest = filter_within p q h xs in
      (elim (p x) as (λ b. p x ≡ b → filter q (cond b (x ∷ filter p xs) (filter p xs)) ≡ cond b (x ∷ filter p xs) (filter p xs)) [
        | true ↦ λ e. ap (λ b. cond b (x ∷ filter q (filter p xs)) (filter q (filter p xs))) (h x e) ∙ ap (λ r. x ∷ r) rest
        | false ↦ λ e. rest
      ]) refl

  pub filter_of_all : (p : X → Bool) (xs : List X) → list_all p xs ≡ true → filter p xs ≡ xs
  filter_of_all p [] h = refl
  filter_of_all p (x ∷ xs) h =
      ap (λ b. cond b (x ∷ filter p xs) (filter p xs)) (both_left (p x) (list_all p xs) h) ∙ ap (λ r. x ∷ r) (filter_of_all p xs (both_right (p x) (list_all p xs) h))

  pub filter_of_none : (p : X → Bool) (xs : List X) → list_all (λ x. not (p x)) xs ≡ true → filter p xs ≡ []
  filter_of_none p [] h = refl
  filter_of_none p (x ∷ xs) h =
      (elim (p x) as (λ b. not b && list_all (λ x. not (p x)) xs ≡ true → cond b (x ∷ filter p xs) (filter p xs) ≡ []) [
        | true ↦ λ e. true_false e
        | false ↦ λ e. filter_of_none p xs e
      ]) h

  -- none passes, so all stay
  pub all_stay : (p : X → Bool) (xs : List X) → length (filter p xs) ≤ 0 → filter (λ x. not (p x)) xs ≡ xs
  all_stay p [] h = refl
  all_stay p (x ∷ xs) h =
      (elim (p x) as (λ b. length (cond b (x ∷ filter p xs) (filter p xs)) ≤ 0 → cond (not b) (x ∷ filter (λ x. not (p x)) xs) (filter (λ x. not (p x)) xs) ≡ x ∷ xs) [
        | true ↦ λ e. absurd (omega arith)
        | false ↦ λ e. ap (λ r. x ∷ r) (all_stay p xs e)
      ]) h

  pub all_append : (p : X → Bool) (xs ys : List X) → list_all p (xs ++ ys) ≡ (list_all p xs && list_all p ys)
  all_append p [] ys = refl
  all_append p (x ∷ xs) ys = elim (p x) as (λ b. b && list_all p (xs ++ ys) ≡ ((b && list_all p xs) && list_all p ys)) [ true ↦ all_append p xs ys | false ↦ refl ]

  pub all_filter : (p q : X → Bool) (xs : List X) → list_all p xs ≡ true → list_all p (filter q xs) ≡ true
  all_filter p q [] h = refl
  all_filter p q (x ∷ xs) h =
      let rest = all_filter p q xs (both_right (p x) (list_all p xs) h) in
      elim (q x) as (λ b. list_all p (cond b (x ∷ filter q xs) (filter q xs)) ≡ true) [
        | true ↦ both (p x) (list_all p (filter q xs)) (both_left (p x) (list_all p xs) h) rest
        | false ↦ rest
      ]

  pub all_weaker : (p q : X → Bool) → ((x : X) → p x ≡ true → q x ≡ true) → (xs : List X) → list_all p xs ≡ true → list_all q xs ≡ true
  all_weaker p q h [] a = refl
  all_weaker p q h (x ∷ xs) a = both (q x) (list_all q xs) (h x (both_left (p x) (list_all p xs) a)) (all_weaker p q h xs (both_right (p x) (list_all p xs) a))

  pub all_passing : (p : X → Bool) (xs : List X) → list_all p (filter p xs) ≡ true
  all_passing p [] = refl
  all_passing p (x ∷ xs) =
      (elim (p x) as (λ b. p x ≡ b → list_all p (cond b (x ∷ filter p xs) (filter p xs)) ≡ true) [
        | true ↦ λ e. both (p x) (list_all p (filter p xs)) e (all_passing p xs)
        | false ↦ λ e. all_passing p xs
      ]) refl

  pub append_nothing : (xs : List X) → xs ++ [] ≡ xs
  append_nothing [] = refl
  append_nothing (x ∷ xs) = ap (λ r. x ∷ r) (append_nothing xs)

  -- a change that a test doesn't see
  pub filter_changed : (p : X → Bool) (f : X → X) → ((x : X) → p (f x) ≡ p x) → (xs : List X) → filter p (map f xs) ≡ map f (filter p xs)
  filter_changed p f h [] = refl
  filter_changed p f h (x ∷ xs) =
      ap (λ b. cond b (f x ∷ filter p (map f xs)) (filter p (map f xs))) (h x)
      ∙ elim (p x) as (λ b. cond b (f x ∷ filter p (map f xs)) (filter p (map f xs)) ≡ map f (cond b (x ∷ filter p xs) (filter p xs))) [
        | true ↦ ap (λ r. f x ∷ r) (filter_changed p f h xs)
        | false ↦ filter_changed p f h xs
      ]

  -- a change of those that pass a test, if none does
  pub unchanged : (p : X → Bool) (f : X → X) → ((x : X) → p x ≡ false → f x ≡ x) → (xs : List X) → list_all (λ x. not (p x)) xs ≡ true → map f xs ≡ xs
  unchanged p f h [] n = refl
  unchanged p f h (x ∷ xs) n =
      (elim (p x) as (λ b. p x ≡ b → (not b && list_all (λ x. not (p x)) xs) ≡ true → f x ∷ map f xs ≡ x ∷ xs) [
        | true ↦ λ e m. true_false m
        | false ↦ λ e m. (λ i. h x e i ∷ unchanged p f h xs m i)
      ]) refl n

module _ {X Y : Type 0} (g : X → Y) where
  pub filter_map : (p : Y → Bool) (xs : List X) → filter p (map g xs) ≡ map g (filter (λ x. p (g x)) xs)
  filter_map p [] = refl
  filter_map p (x ∷ xs) =
      elim (p (g x)) as (λ b. cond b (g x ∷ filter p (map g xs)) (filter p (map g xs)) ≡ map g (cond b (x ∷ filter (λ x. p (g x)) xs) (filter (λ x. p (g x)) xs))) [
        | true ↦ ap (λ r. g x ∷ r) (filter_map p xs)
        | false ↦ filter_map p xs
      ]

  pub all_map : (p : Y → Bool) (xs : List X) → list_all p (map g xs) ≡ list_all (λ x. p (g x)) xs
  all_map p [] = refl
  all_map p (x ∷ xs) = ap (λ b. p (g x) && b) (all_map p xs)
