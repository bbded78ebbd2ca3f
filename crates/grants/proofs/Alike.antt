-- Grants that are the same, and tests of a list of grants.
use Rattle.std.proofs.Common.{◌≡◌, ℕ, Bool, true, false, ◌&&◌, ◌==◌, ◌⊎◌, inl, inr, List, [], ◌∷◌, ◌++◌, filter, Some, cond, refl, sym, ap, ◌∙◌, arith, eq-eqb}
use Rattle.std.specs.Prelude.{find, unwrap_or}
use Rattle.std.specs.List.{list_any}
use Rattle.std.specs.Option.{option_map_or}
use Rattle.std.proofs.lemmas.Bool.Decides.{nat_tests}
use Rattle.std.proofs.lemmas.List.Folds.{list_any-append}
use Rattle.obj_id.specs.declared.ids.ObjectId.{ObjectId}
use Rattle.obj_id.specs.Ids.{same_id}
use Rattle.store_facts.proofs.Ids.{same_id-equal, same_id-itself}
use Rattle.private_store.specs.rules.Grants.{StandingGrant, same_grant, is_child_of}
use Rattle.store_facts.proofs.Tests.{both, both_left, both_right, or_cases, or_left, or_right}

pub numbers_equal : (a b : ℕ) → (a == b) ≡ true → a ≡ b
numbers_equal a b e = grind (arith, nat_tests)

pub alike : (a b : StandingGrant) → same_grant a b ≡ true → (a.id ≡ b.id) × (a.grantor ≡ b.grantor) × (a.grantee ≡ b.grantee)
alike a b e =
    let first = both_left (same_id a.id b.id && a.grantor == b.grantor) (a.grantee == b.grantee) e in (
      same_id-equal a.id b.id (both_left (same_id a.id b.id) (a.grantor == b.grantor) first),
      numbers_equal a.grantor b.grantor (both_right (same_id a.id b.id) (a.grantor == b.grantor) first),
      numbers_equal a.grantee b.grantee (both_right (same_id a.id b.id && a.grantor == b.grantor) (a.grantee == b.grantee) e),
    )

-- equal ids are the same
pub ids_same : (a b : ObjectId) → a ≡ b → same_id a b ≡ true
ids_same a b e = ap (λ x. same_id a x) (sym e) ∙ same_id-itself a

pub same_alike : (a b : StandingGrant) → a.id ≡ b.id → a.grantor ≡ b.grantor → a.grantee ≡ b.grantee → same_grant a b ≡ true
same_alike a b i g t =
    both (same_id a.id b.id && a.grantor == b.grantor) (a.grantee == b.grantee)
    (both (same_id a.id b.id) (a.grantor == b.grantor) (ids_same a.id b.id i) (eq-eqb a.grantor b.grantor g)) (eq-eqb a.grantee b.grantee t)

pub same_itself : (a : StandingGrant) → same_grant a a ≡ true
same_itself a = same_alike a a refl refl refl

pub same_through : (b x y : StandingGrant) → same_grant b x ≡ true → same_grant b y ≡ true → same_grant x y ≡ true
same_through b x y e f =
    let p = alike b x e in
    let q = alike b y f in
    same_alike x y (sym p.0 ∙ q.0) (sym p.1 ∙ q.1) (sym p.2 ∙ q.2)

-- what hangs on a grant hangs on every one that is the same
pub hangs_alike : (h a b : StandingGrant) → same_grant a b ≡ true → is_child_of h a ≡ true → is_child_of h b ≡ true
hangs_alike h a b e t =
    let p = alike a b e in
    let hung : ObjectId → ℕ → ℕ → Bool = λ id grantor grantee. same_id h.id id && h.grantor == grantee && option_map_or (λ g. g == grantor) h.parent false in
    let same : is_child_of h a ≡ is_child_of h b = λ i. hung (p.0 i) (p.1 i) (p.2 i) in
    sym same ∙ t

-- ---- tests of a list

pub any_more : (p q : StandingGrant → Bool) (xs : List StandingGrant) → ((x : StandingGrant) → p x ≡ true → q x ≡ true) → list_any p xs ≡ true → list_any q xs ≡ true
any_more p q [] f e = e
any_more p q (x ∷ xs) f e =
    elim (or_cases (p x) (list_any p xs) e) [
      | inl h ↦ or_left (q x) (list_any q xs) (f x h)
      | inr r ↦ or_right (q x) (list_any q xs) (any_more p q xs f r)
    ]

pub any_before : (p : StandingGrant → Bool) (xs ys : List StandingGrant) → list_any p xs ≡ true → list_any p (xs ++ ys) ≡ true
any_before p xs ys e = list_any-append p xs ys ∙ or_left (list_any p xs) (list_any p ys) e

pub any_after : (p : StandingGrant → Bool) (xs ys : List StandingGrant) → list_any p ys ≡ true → list_any p (xs ++ ys) ≡ true
any_after p xs ys e = list_any-append p xs ys ∙ or_right (list_any p xs) (list_any p ys) e

pub any_either : (p : StandingGrant → Bool) (xs ys : List StandingGrant) → list_any p (xs ++ ys) ≡ true → (list_any p xs ≡ true) ⊎ (list_any p ys ≡ true)
any_either p xs ys e = or_cases (list_any p xs) (list_any p ys) (sym (list_any-append p xs ys) ∙ e)

-- what a filter keeps was there
pub any_filtered : (p q : StandingGrant → Bool) (xs : List StandingGrant) → list_any p (filter q xs) ≡ true → list_any p xs ≡ true
any_filtered p q [] e = e
any_filtered p q (x ∷ xs) e =
    let rest = any_filtered p q xs in
    (elim (q x) as (λ t. list_any p (cond t (x ∷ filter q xs) (filter q xs)) ≡ true → list_any p (x ∷ xs) ≡ true) [
      | true ↦ λ f. elim (or_cases (p x) (list_any p (filter q xs)) f) [
        | inl h ↦ or_left (p x) (list_any p xs) h
        | inr r ↦ or_right (p x) (list_any p xs) (rest r)
      ]
      | false ↦ λ f. or_right (p x) (list_any p xs) (rest f)
    ]) e

-- what a filter keeps of those that are sought
pub any_kept : (p q : StandingGrant → Bool) (all xs : List StandingGrant) → ((x : StandingGrant) → list_any (same_grant x) all ≡ true → p x ≡ true → q x ≡ true)
    → ((x : StandingGrant) → list_any (same_grant x) xs ≡ true → list_any (same_grant x) all ≡ true) → list_any p xs ≡ true → list_any p (filter q xs) ≡ true
any_kept p q all [] keeps among e = e
any_kept p q all (x ∷ xs) keeps among e =
    let rest : list_any p xs ≡ true → list_any p (filter q xs) ≡ true =
    any_kept p q all xs keeps (λ y m. among y (or_right (same_grant y x) (list_any (same_grant y) xs) m)) in
    elim (or_cases (p x) (list_any p xs) e) [
      | inl h ↦
          let kept : q x ≡ true = keeps x (among x (or_left (same_grant x x) (list_any (same_grant x) xs) (same_itself x))) h in
          ap (λ t. list_any p (cond t (x ∷ filter q xs) (filter q xs))) kept ∙ or_left (p x) (list_any p (filter q xs)) h
      | inr r ↦
          elim (q x) as (λ t. list_any p (cond t (x ∷ filter q xs) (filter q xs)) ≡ true) [
            | true ↦ or_right (p x) (list_any p (filter q xs)) (rest r)
            | false ↦ rest r
          ]
    ]

-- what is found passes the test
pub found : (p : StandingGrant → Bool) (xs : List StandingGrant) (y : StandingGrant) → find p xs ≡ Some y → (p y ≡ true) × ((q : StandingGrant → Bool) → q y ≡ true → list_any q xs ≡ true)
found p [] y e = cc
found p (x ∷ xs) y e =
    (elim (p x) as (λ t. p x ≡ t → cond t (Some x) (find p xs) ≡ Some y → (p y ≡ true) × ((q : StandingGrant → Bool) → q y ≡ true → list_any q (x ∷ xs) ≡ true)) [
      | true ↦ λ t is.
          let same : x ≡ y = ap (λ o. unwrap_or o x) is in
          (ap p (sym same) ∙ t, λ q h. or_left (q x) (list_any q xs) (ap q same ∙ h))
      | false ↦ λ t is.
          let rest = found p xs y is in
          (rest.0, λ q h. or_right (q x) (list_any q xs) (rest.1 q h))
    ]) refl e
