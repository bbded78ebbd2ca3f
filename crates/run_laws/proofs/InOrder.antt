-- Ends are announced in order of depth, object, grantor and grantee.
use Rattle.std.proofs.Common.{◌≡◌, true, false, not, cond, ◌&&◌, Bool, List, [], ◌∷◌, filter, refl, sym, ap, ◌∙◌}
use Rattle.std.specs.Cmp.{IsTotalOrder}
use Rattle.std.specs.Ordering.{is_lt, ordering_reverse}
use Rattle.std.specs.declared.cmp.Ordering.{Ordering}
use Rattle.std.specs.declared.cmp.Ordering.TheVariants.{Less, Equal, Greater}
use Rattle.std.proofs.lemmas.Cmp.{nat_cmp_total, on_total, then_total, alike_right}
use Rattle.store_facts.proofs.Ids.{id_cmp-IsTotalOrder}
use Rattle.private_store.specs.rules.Grants.{StandingGrant, grant_cmp, grant_placed, grants_sorted}
use Rattle.store_facts.proofs.Tests.{true_false, both, both_left, both_right}
use Rattle.run_laws.specs.Ending.{rises_from, rises}

grant_cmp_total : IsTotalOrder grant_cmp
grant_cmp_total =
    then_total (on_total (λ (a : StandingGrant). a.depth) nat_cmp_total)
    (then_total (on_total (λ (a : StandingGrant). a.id) id_cmp-IsTotalOrder) (then_total (on_total (λ (a : StandingGrant). a.grantor) nat_cmp_total) (on_total (λ (a : StandingGrant). a.grantee) nat_cmp_total)))

turned : (r : Ordering) → is_lt r ≡ true → not (is_lt (ordering_reverse r)) ≡ true
turned Less e = refl
turned Equal e = refl
turned Greater e = true_false e

not_back : (a b : StandingGrant) → is_lt (grant_cmp a b) ≡ true → not (is_lt (grant_cmp b a)) ≡ true
not_back a b e = ap (λ r. not (is_lt r)) (grant_cmp_total.antisymm b a) ∙ turned (grant_cmp a b) e

placed_from : (h x : StandingGrant) (xs : List StandingGrant) → not (is_lt (grant_cmp x h)) ≡ true → rises_from h xs ≡ true → rises_from h (grant_placed x xs) ≡ true
placed_from h x [] e r = both (not (is_lt (grant_cmp x h))) true e refl
placed_from h x (y ∷ ys) e r =
    elim (is_lt (grant_cmp x y)) as (λ t. is_lt (grant_cmp x y) ≡ t → rises_from h (cond t (x ∷ y ∷ ys) (y ∷ grant_placed x ys)) ≡ true) [
      | true ↦ λ t. both (not (is_lt (grant_cmp x h))) (not (is_lt (grant_cmp y x)) && rises_from y ys) e
          (both (not (is_lt (grant_cmp y x))) (rises_from y ys) (not_back x y t) (both_right (not (is_lt (grant_cmp y h))) (rises_from y ys) r))
      | false ↦ λ t. both (not (is_lt (grant_cmp y h))) (rises_from y (grant_placed x ys)) (both_left (not (is_lt (grant_cmp y h))) (rises_from y ys) r)
          (placed_from y x ys (ap not t) (both_right (not (is_lt (grant_cmp y h))) (rises_from y ys) r))
    ] refl

placed_rises : (x : StandingGrant) (xs : List StandingGrant) → rises xs ≡ true → rises (grant_placed x xs) ≡ true
placed_rises x [] r = refl
placed_rises x (y ∷ ys) r =
    elim (is_lt (grant_cmp x y)) as (λ t. is_lt (grant_cmp x y) ≡ t → rises (cond t (x ∷ y ∷ ys) (y ∷ grant_placed x ys)) ≡ true) [
      | true ↦ λ t. both (not (is_lt (grant_cmp y x))) (rises_from y ys) (not_back x y t) r
      | false ↦ λ t. placed_from y x ys (ap not t) r
    ] refl

pub sorted_rises : (grants : List StandingGrant) → rises (grants_sorted grants) ≡ true
sorted_rises [] = refl
sorted_rises (x ∷ xs) = placed_rises x (grants_sorted xs) (sorted_rises xs)

-- ---- the order of some of them

less : (r : Ordering) → is_lt r ≡ true → r ≡ Less
less Less e = refl
less Equal e = true_false e
less Greater e = true_false e

-- what comes before one grant comes before all that don't come before that
less_through : (x y z : StandingGrant) → is_lt (grant_cmp x y) ≡ true → not (is_lt (grant_cmp z y)) ≡ true → is_lt (grant_cmp x z) ≡ true
less_through x y z e f = by (grant_cmp y z) refl
  where
    back : (r : Ordering) → not (is_lt (ordering_reverse r)) ≡ true → r ≡ Greater → is_lt (grant_cmp x z) ≡ true
    back r n is = true_false (sym (ap (λ r. not (is_lt (ordering_reverse r))) is) ∙ n)

    by : (r : Ordering) → grant_cmp y z ≡ r → is_lt (grant_cmp x z) ≡ true
    by Less is = ap is_lt (grant_cmp_total.trans x y z (less (grant_cmp x y) e) is)
    by Equal is = ap is_lt (sym (alike_right grant_cmp_total y z x is)) ∙ e
    by Greater is = back (grant_cmp y z) (ap (λ r. not (is_lt r)) (sym (grant_cmp_total.antisymm z y)) ∙ f) is

module _ (q : StandingGrant → Bool) where
  first_stays : (x y : StandingGrant) (ys : List StandingGrant) → is_lt (grant_cmp x y) ≡ true → rises_from y ys ≡ true → grant_placed x (filter q (y ∷ ys)) ≡ x ∷ filter q (y ∷ ys)
  first_stays x y [] e r =
      elim (q y) as (λ t. grant_placed x (cond t (y ∷ []) []) ≡ x ∷ cond t (y ∷ []) []) [
        | true ↦ ap (λ t. cond t (x ∷ y ∷ []) (y ∷ x ∷ [])) e
        | false ↦ refl
      ]
  first_stays x y (z ∷ zs) e r =
      let some = filter q (z ∷ zs) in
      elim (q y) as (λ t. grant_placed x (cond t (y ∷ some) some) ≡ x ∷ cond t (y ∷ some) some) [
        | true ↦ ap (λ t. cond t (x ∷ y ∷ some) (y ∷ grant_placed x some)) e
        | false ↦ first_stays x z zs (less_through x y z e (both_left (not (is_lt (grant_cmp z y))) (rises_from z zs) r)) (both_right (not (is_lt (grant_cmp z y))) (rises_from z zs) r)
      ]

  rises_later : (y : StandingGrant) (ys : List StandingGrant) → rises_from y ys ≡ true → rises ys ≡ true
  rises_later y [] r = refl
  rises_later y (z ∷ zs) r = both_right (not (is_lt (grant_cmp z y))) (rises_from z zs) r

  filter_placed : (x : StandingGrant) (ys : List StandingGrant) → rises ys ≡ true → filter q (grant_placed x ys) ≡ cond (q x) (grant_placed x (filter q ys)) (filter q ys)
  filter_placed x [] r = refl
  filter_placed x (y ∷ ys) r =
      let some = filter q (y ∷ ys) in
      elim (is_lt (grant_cmp x y)) as (λ t. is_lt (grant_cmp x y) ≡ t → filter q (cond t (x ∷ y ∷ ys) (y ∷ grant_placed x ys)) ≡ cond (q x) (grant_placed x some) some) [
        | true ↦ λ t. ap (λ l. cond (q x) l some) (sym (first_stays x y ys t r))
        | false ↦ λ t.
            ap (λ l. cond (q y) (y ∷ l) l) (filter_placed x ys (rises_later y ys r))
            ∙ elim (q y) as (λ u. cond u (y ∷ cond (q x) (grant_placed x (filter q ys)) (filter q ys)) (cond (q x) (grant_placed x (filter q ys)) (filter q ys)) ≡ cond (q x) (grant_placed x (cond u (y ∷ filter q ys) (filter q ys))) (cond u (y ∷ filter q ys) (filter q ys))) [
              | true ↦ elim (q x) as (λ v. y ∷ cond v (grant_placed x (filter q ys)) (filter q ys) ≡ cond v (grant_placed x (y ∷ filter q ys)) (y ∷ filter q ys)) [
                | true ↦ sym (ap (λ b. cond b (x ∷ y ∷ filter q ys) (y ∷ grant_placed x (filter q ys))) t)
                | false ↦ refl
              ]
              | false ↦ refl
            ]
      ] refl

  -- some of the grants in order are in order as if they were all
  pub filter_sorted : (grants : List StandingGrant) → filter q (grants_sorted grants) ≡ grants_sorted (filter q grants)
  filter_sorted [] = refl
  filter_sorted (x ∷ xs) =
      filter_placed x (grants_sorted xs) (sorted_rises xs)
      ∙ ap (λ l. cond (q x) (grant_placed x l) l) (filter_sorted xs)
      ∙ elim (q x) as (λ t. cond t (grant_placed x (grants_sorted (filter q xs))) (grants_sorted (filter q xs)) ≡ grants_sorted (cond t (x ∷ filter q xs) (filter q xs))) [ true ↦ refl | false ↦ refl ]
