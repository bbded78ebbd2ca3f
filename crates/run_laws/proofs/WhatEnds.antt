-- A grant ends exactly if it passes the test or hangs, directly or over others, on one that does: the order in which the
-- table is gone through doesn't matter.
use Rattle.std.proofs.Common.{◌≡◌, ℕ, zero, suc, ◌+◌, ◌≤◌, ◌==◌, Bool, true, false, not, cond, ◌&&◌, ◌||◌, inl, inr, List, [], ◌∷◌, ◌++◌, filter, Option, Some, None, refl, sym, ap, subst, ◌∙◌, arith}
use Rattle.std.specs.Prelude.{if◌then◌else◌, nat_le}
use Rattle.std.specs.List.{list_any}
use Rattle.std.specs.Option.{option_map_or}
use Rattle.std.proofs.lemmas.Bool.Decides.{nat_tests}
use Rattle.std.proofs.lemmas.List.Folds.{list_any-append}
use Rattle.obj_id.specs.Ids.{same_id}
use Rattle.store_facts.proofs.Ids.{same_id-equal}
use Rattle.private_store.specs.rules.Limits.{greatest_depth}
use Rattle.private_store.specs.rules.Grants.{StandingGrant, same_grant, is_child_of, ended_from, grants_sorted}
use Rattle.store_facts.proofs.Tests.{true_false, both, both_left, both_right, or_cases, or_left, or_right, or_false, refuted}
use Rattle.grants.specs.Table.{AreGrants, is_no_grantee, hangs_right, is_hung, grant_may_stand, all_stand}
use Rattle.grants.proofs.ForCallers.{same_alike, same_itself, same_through, numbers_equal, apart, filter_both, append_nothing, any_filter}
use Rattle.run_laws.proofs.InOrder.{sorted_rises}
use Rattle.run_laws.specs.Ending.{ends_within, ends_with, stands, EndsAlong}

-- ---- grants in lists

pub stands_before : (h : StandingGrant) (xs ys : List StandingGrant) → stands h xs → stands h (xs ++ ys)
stands_before h [] ys a = absurd a
stands_before h (x ∷ xs) ys a = elim a [ inl e ↦ inl e | inr r ↦ inr (stands_before h xs ys r) ]

pub stands_after : (h : StandingGrant) (xs ys : List StandingGrant) → stands h ys → stands h (xs ++ ys)
stands_after h [] ys a = a
stands_after h (x ∷ xs) ys a = inr (stands_after h xs ys a)

pub any_of : (p : StandingGrant → Bool) (h : StandingGrant) (xs : List StandingGrant) → stands h xs → p h ≡ true → list_any p xs ≡ true
any_of p h [] a e = absurd a
any_of p h (x ∷ xs) a e =
    elim a [
      | inl is ↦ or_left (p x) (list_any p xs) (ap p is ∙ e)
      | inr r ↦ or_right (p x) (list_any p xs) (any_of p h xs r e)
    ]

pub one_of : (p : StandingGrant → Bool) (xs : List StandingGrant) → list_any p xs ≡ true → (h : StandingGrant) × stands h xs × (p h ≡ true)
one_of p [] e = true_false e
one_of p (x ∷ xs) e =
    elim (or_cases (p x) (list_any p xs) e) [
      | inl t ↦ (x, inl refl, t)
      | inr r ↦ let o = one_of p xs r in (o.0, inr o.1, o.2)
    ]

pub any_same : (p q : StandingGrant → Bool) (xs : List StandingGrant) → ((h : StandingGrant) → stands h xs → p h ≡ q h) → list_any p xs ≡ list_any q xs
any_same p q [] f = refl
any_same p q (x ∷ xs) f = λ i. f x (inl refl) i || any_same p q xs (λ h a. f h (inr a)) i

pub any_none : (p : StandingGrant → Bool) (xs : List StandingGrant) → ((h : StandingGrant) → stands h xs → p h ≡ false) → list_any p xs ≡ false
any_none p [] f = refl
any_none p (x ∷ xs) f = (λ i. f x (inl refl) i || any_none p xs (λ h a. f h (inr a)) i)

pub filter_same : (p q : StandingGrant → Bool) (xs : List StandingGrant) → ((h : StandingGrant) → stands h xs → p h ≡ q h) → filter p xs ≡ filter q xs
filter_same p q [] f = refl
filter_same p q (x ∷ xs) f = λ i. cond (f x (inl refl) i) (x ∷ filter_same p q xs (λ h a. f h (inr a)) i) (filter_same p q xs (λ h a. f h (inr a)) i)

pub stands_filtered : (h : StandingGrant) (p : StandingGrant → Bool) (xs : List StandingGrant) → stands h (filter p xs) → stands h xs × (p h ≡ true)
stands_filtered h p [] a = absurd a
stands_filtered h p (x ∷ xs) a =
    elim (p x) as (λ t. p x ≡ t → stands h (cond t (x ∷ filter p xs) (filter p xs)) → stands h (x ∷ xs) × (p h ≡ true)) [
      | true ↦ λ t b. elim b [
        | inl is ↦ (inl is, ap p (sym is) ∙ t)
        | inr r ↦ (let k = stands_filtered h p xs r in (inr k.0, k.1))
      ]
      | false ↦ λ t b. (let k = stands_filtered h p xs b in (inr k.0, k.1))
    ] refl a

-- tests that imply one another are equal
pub same_test : (a b : Bool) → (a ≡ true → b ≡ true) → (b ≡ true → a ≡ true) → a ≡ b
same_test true true f g = refl
same_test true false f g = true_false (f refl)
same_test false true f g = true_false (g refl)
same_test false false f g = refl

append_in : (xs ys zs : List StandingGrant) → (xs ++ ys) ++ zs ≡ xs ++ (ys ++ zs)
append_in [] ys zs = refl
append_in (x ∷ xs) ys zs = ap (λ r. x ∷ r) (append_in xs ys zs)

-- ---- grants in tables

-- two standing grants with the same object, grantor and grantee are one
only_one : (before hs : List StandingGrant) → all_stand before hs ≡ true → (a b : StandingGrant) → stands a hs → stands b hs → same_grant a b ≡ true → a ≡ b
only_one before [] s a b x y e = absurd x
only_one before (h ∷ hs) s a b x y e =
    let rest = both_right (grant_may_stand before h) (all_stand (before ++ h ∷ []) hs) s in
    let young : (c d : StandingGrant) → h ≡ c → stands d hs → same_grant c d ≡ true → ⊥ =
    λ c d is at t. apart (before ++ h ∷ []) hs c rest
    (any_of (same_grant c) c (before ++ h ∷ []) (stands_after c before (h ∷ []) (inl is)) (same_itself c)) (any_of (same_grant c) d hs at t) in
    elim x [
      | inl p ↦ elim y [ inl q ↦ sym p ∙ q | inr q ↦ absurd (young a b p q e) ]
      | inr p ↦ elim y [ inl q ↦ absurd (young b a q p (same_through a b a e (same_itself a))) | inr q ↦ only_one (before ++ h ∷ []) hs rest a b p q e ]
    ]

-- a grant hangs on one grant alone
same_below : (h a b : StandingGrant) → is_child_of h a ≡ true → is_child_of h b ≡ true → same_grant a b ≡ true
same_below h a b p q =
    let p1 = both_left (same_id h.id a.id && h.grantor == a.grantee) (option_map_or (λ g. g == a.grantor) h.parent false) p in
    let q1 = both_left (same_id h.id b.id && h.grantor == b.grantee) (option_map_or (λ g. g == b.grantor) h.parent false) q in
    let p2 = both_right (same_id h.id a.id && h.grantor == a.grantee) (option_map_or (λ g. g == a.grantor) h.parent false) p in
    let q2 = both_right (same_id h.id b.id && h.grantor == b.grantee) (option_map_or (λ g. g == b.grantor) h.parent false) q in
    same_alike a b
    (sym (same_id-equal h.id a.id (both_left (same_id h.id a.id) (h.grantor == a.grantee) p1)) ∙ same_id-equal h.id b.id (both_left (same_id h.id b.id) (h.grantor == b.grantee) q1))
    (grantors h.parent p2 q2)
    (sym (numbers_equal h.grantor a.grantee (both_right (same_id h.id a.id) (h.grantor == a.grantee) p1)) ∙ numbers_equal h.grantor b.grantee (both_right (same_id h.id b.id) (h.grantor == b.grantee) q1))
  where
    grantors : (o : Option ℕ) → option_map_or (λ g. g == a.grantor) o false ≡ true → option_map_or (λ g. g == b.grantor) o false ≡ true → a.grantor ≡ b.grantor
    grantors None e f = true_false e
    grantors (Some g) e f = sym (numbers_equal g a.grantor e) ∙ numbers_equal g b.grantor f

-- a grant hangs on nothing, or on a standing grant that is one less deep
pub data Hung (all : List StandingGrant) (h : StandingGrant) : Type 0 where
  on_nothing : h.grantor ≡ h.id.job.0 → h.depth ≡ 1 → ((b : StandingGrant) → is_child_of h b ≡ false) → Hung all h
  on : (b : StandingGrant) → stands b all → is_child_of h b ≡ true → h.depth ≡ suc b.depth → nat_le h.depth greatest_depth ≡ true → Hung all h

pub and_no : (b : Bool) → (b && false) ≡ false
and_no true = refl
and_no false = refl

one_deeper : (d n : ℕ) → d ≡ n + 1 → d ≡ suc n
one_deeper d n e = omega (arith, e)

hung_by : (all before : List StandingGrant) (h : StandingGrant) → ((b : StandingGrant) → stands b before → stands b all) → (o : Option ℕ) → h.parent ≡ o → hangs_right before h o ≡ true → Hung all h
hung_by all before h up None is e =
    on_nothing (numbers_equal h.grantor h.id.job.0 (both_left (h.grantor == h.id.job.0) (h.depth == 1) e)) (numbers_equal h.depth 1 (both_right (h.grantor == h.id.job.0) (h.depth == 1) e))
    (λ b. ap (λ o. (same_id h.id b.id && h.grantor == b.grantee) && option_map_or (λ g. g == b.grantor) o false) is ∙ and_no (same_id h.id b.id && h.grantor == b.grantee))
hung_by all before h up (Some g) is e =
    let over : StandingGrant → Bool = λ b. is_child_of h b && h.depth == b.depth + 1 in
    let front : Bool = not (h.grantor == h.id.job.0) && nat_le h.depth greatest_depth in
    let b = one_of over before (both_right front (list_any over before) e) in
    on b.0 (up b.0 b.1) (both_left (is_child_of h b.0) (h.depth == b.0.depth + 1) b.2)
    (one_deeper h.depth b.0.depth (numbers_equal h.depth (b.0.depth + 1) (both_right (is_child_of h b.0) (h.depth == b.0.depth + 1) b.2)))
    (both_right (not (h.grantor == h.id.job.0)) (nat_le h.depth greatest_depth) (both_left front (list_any over before) e))

hung_from : (all before hs : List StandingGrant) → before ++ hs ≡ all → all_stand before hs ≡ true → (h : StandingGrant) → stands h hs → Hung all h
hung_from all before [] is s h a = absurd a
hung_from all before (x ∷ hs) is s h a =
    elim a [
      | inl e ↦ subst (Hung all) e
          (hung_by all before x (λ b at. subst (stands b) is (stands_before b before (x ∷ hs) at)) x.parent refl
          (both_right (not (is_no_grantee x.id x.grantor x.grantee) && not (list_any (same_grant x) before)) (is_hung before x) (both_left (grant_may_stand before x) (all_stand (before ++ x ∷ []) hs) s)))
      | inr r ↦ hung_from all (before ++ x ∷ []) hs (append_in before (x ∷ []) hs ∙ is) (both_right (grant_may_stand before x) (all_stand (before ++ x ∷ []) hs) s) h r
    ]

depth_less : (d b n : ℕ) → d ≡ suc b → d ≤ suc (suc n) → b ≤ suc n
depth_less d b n e h = omega (arith, e, h)

not_first : (d b : ℕ) → d ≡ suc (suc b) → d ≤ 1 → ⊥
not_first d b e h = omega (arith, e, h)

depth_at_least : (d : ℕ) → d ≡ 1 → (b : ℕ) → b ≡ 0 → d ≡ suc b
depth_at_least d e b f = omega (arith, e, f)

shallow : (d : ℕ) → nat_le d greatest_depth ≡ true → d ≤ 3
shallow d h = grind (arith, nat_tests)

first_shallow : (d : ℕ) → d ≡ 1 → d ≤ 3
first_shallow d e = omega (arith, e)

module _ (grants : List StandingGrant) (table : AreGrants grants) where
  pub hung : (h : StandingGrant) → stands h grants → Hung grants h
  hung h a = hung_from grants [] grants refl table.stand h a

  pub the_same : (a b : StandingGrant) → stands a grants → stands b grants → same_grant a b ≡ true → a ≡ b
  the_same a b x y e = only_one [] grants table.stand a b x y e

  pub at_most_three : (h : StandingGrant) → stands h grants → h.depth ≤ 3
  at_most_three h a = elim (hung h a) [ on_nothing f d n ↦ first_shallow h.depth d | on b at o d s ↦ shallow h.depth s ]

  pub deep : (h : StandingGrant) → stands h grants → (n : ℕ) × (h.depth ≡ suc n)
  deep h a = elim (hung h a) [ on_nothing f d n ↦ (0, depth_at_least h.depth d 0 refl) | on b at o d s ↦ (b.depth, d) ]

  -- depths go up by one
  pub deeper : (h b : StandingGrant) → stands h grants → stands b grants → is_child_of h b ≡ true → h.depth ≡ suc b.depth
  deeper h b x y o =
      elim (hung h x) [
        | on_nothing f d n ↦ true_false (sym (n b) ∙ o)
        | on c at p d s ↦ d ∙ ap (λ k. suc k) (ap (λ z. z.depth) (the_same c b at y (same_below h c b p o)))
      ]

  module _ (test : StandingGrant → Bool) where
    abbrev hangs : ℕ → StandingGrant → StandingGrant → Bool
    hangs n h b = is_child_of h b && ends_within n test grants b

    -- as many steps as the grant is deep find all that it hangs on
    enough : (n : ℕ) (h : StandingGrant) → stands h grants → h.depth ≤ suc n → ends_within n test grants h ≡ ends_within (suc n) test grants h
    enough zero h a d =
        let none : list_any (hangs 0 h) grants ≡ false = any_none (hangs 0 h) grants (λ b at.
        refuted (hangs 0 h b) (λ t.
        let o = both_left (is_child_of h b) (test b) t in
        let k = deep b at in
        absurd (not_first h.depth k.0 (deeper h b a at o ∙ ap (λ x. suc x) k.1) d))) in
        sym (or_false (test h)) ∙ ap (λ x. test h || x) (sym none)
    enough (suc n) h a d =
        ap (λ x. test h || x) (any_same (hangs n h) (hangs (suc n) h) grants (λ b at.
        elim (is_child_of h b) as (λ t. is_child_of h b ≡ t → (t && ends_within n test grants b) ≡ (t && ends_within (suc n) test grants b)) [
          | true ↦ λ o. enough n b at (depth_less h.depth b.depth n (deeper h b a at o) d)
          | false ↦ λ o. refl
        ] refl))

    -- a grant ends if it passes the test or hangs on one that ends
    pub ends_by : (h : StandingGrant) → stands h grants → ends_with test grants h ≡ test h || list_any (λ b. is_child_of h b && ends_with test grants b) grants
    ends_by h a = ap (λ x. test h || x) (any_same (hangs 2 h) (hangs 3 h) grants (λ b at. ap (λ x. is_child_of h b && x) (enough 2 b at (at_most_three b at))))

    abbrev goes : StandingGrant → Bool
    goes h = ends_with test grants h

    swapped : (a b : Bool) → (a && b) ≡ (b && a)
    swapped true true = refl
    swapped true false = refl
    swapped false true = refl
    swapped false false = refl

    -- a grant doesn't hang on itself or a younger one
    none_younger : (before hs : List StandingGrant) (h : StandingGrant) → before ++ h ∷ hs ≡ grants → all_stand before (h ∷ hs) ≡ true → (b : StandingGrant) → stands b (h ∷ hs) → is_child_of h b ≡ false
    none_younger before hs h is s b at =
        refuted (is_child_of h b) (λ o. absurd (by_place h.parent refl (both_right (not (is_no_grantee h.id h.grantor h.grantee) && not (list_any (same_grant h) before)) (is_hung before h) (both_left (grant_may_stand before h) (all_stand (before ++ h ∷ []) hs) s)) o))
      where
        by_place : (o : Option ℕ) → h.parent ≡ o → hangs_right before h o ≡ true → is_child_of h b ≡ true → ⊥
        by_place None e r t = true_false (sym (ap (λ x. (same_id h.id b.id && h.grantor == b.grantee) && option_map_or (λ g. g == b.grantor) x false) e ∙ and_no (same_id h.id b.id && h.grantor == b.grantee)) ∙ t)
        by_place (Some g) e r t =
            let over : StandingGrant → Bool = λ c. is_child_of h c && h.depth == c.depth + 1 in
            let front : Bool = not (h.grantor == h.id.job.0) && nat_le h.depth greatest_depth in
            let c = one_of over before (both_right front (list_any over before) r) in
            let alike = same_below h b c.0 t (both_left (is_child_of h c.0) (h.depth == c.0.depth + 1) c.2) in
            apart before (h ∷ hs) b s (any_of (same_grant b) c.0 before c.1 alike) (any_of (same_grant b) b (h ∷ hs) at (same_itself b))

    ends_now : (before hs : List StandingGrant) (h : StandingGrant) → before ++ h ∷ hs ≡ grants → all_stand before (h ∷ hs) ≡ true
        → test h || list_any (is_child_of h) (filter goes before) ≡ goes h
    ends_now before hs h is s =
        let p : StandingGrant → Bool = λ b. is_child_of h b && goes b in
        let q : StandingGrant → Bool = λ b. goes b && is_child_of h b in
        let here : stands h grants = subst (stands h) is (stands_after h before (h ∷ hs) (inl refl)) in
        let old : list_any (is_child_of h) (filter goes before) ≡ list_any p before =
        any_filter (is_child_of h) goes before ∙ any_same q p before (λ b _. swapped (goes b) (is_child_of h b)) in
        let young : list_any p (h ∷ hs) ≡ false = any_none p (h ∷ hs) (λ b at. ap (λ t. t && goes b) (none_younger before hs h is s b at)) in
        let all : list_any p grants ≡ list_any p before =
        ap (list_any p) (sym is) ∙ list_any-append p before (h ∷ hs) ∙ ap (λ t. list_any p before || t) young ∙ or_false (list_any p before) in
        ap (λ t. test h || t) (old ∙ sym all) ∙ sym (ends_by h here)

    from : (before hs : List StandingGrant) → before ++ hs ≡ grants → all_stand before hs ≡ true → ended_from test (filter goes before) hs ≡ filter goes grants
    from before [] is s = ap (filter goes) (sym (append_nothing before) ∙ is)
    from before (h ∷ hs) is s =
        let gone = filter goes before in
        let next : (if test h || list_any (is_child_of h) gone then gone ++ h ∷ [] else gone) ≡ filter goes (before ++ h ∷ []) =
        ap (λ t. if t then gone ++ h ∷ [] else gone) (ends_now before hs h is s)
        ∙ by_test (goes h) gone
        ∙ sym (filter_both goes before (h ∷ [])) in
        ap (λ l. ended_from test l hs) next
        ∙ from (before ++ h ∷ []) hs (append_in before (h ∷ []) hs ∙ is) (both_right (grant_may_stand before h) (all_stand (before ++ h ∷ []) hs) s)
      where
        by_test : (t : Bool) (gone : List StandingGrant) → (if t then gone ++ h ∷ [] else gone) ≡ gone ++ cond t (h ∷ []) []
        by_test true gone = refl
        by_test false gone = sym (append_nothing gone)

    pub ended_are : ended_from test [] grants ≡ filter goes grants
    ended_are = from [] grants refl table.stand

    pub is_gone : (h : StandingGrant) → stands h grants → list_any (same_grant h) (ended_from test [] grants) ≡ goes h
    is_gone h a =
        ap (list_any (same_grant h)) ended_are ∙ any_filter (same_grant h) goes grants
        ∙ same_test (list_any (λ x. goes x && same_grant h x) grants) (goes h)
        (λ t. let o = one_of (λ x. goes x && same_grant h x) grants t in
        ap goes (the_same h o.0 a o.1 (both_right (goes o.0) (same_grant h o.0) o.2)) ∙ both_left (goes o.0) (same_grant h o.0) o.2)
        (λ t. any_of (λ x. goes x && same_grant h x) h grants a (both (goes h) (same_grant h h) t (same_itself h)))

    pub ends_along : EndsAlong test grants
    ends_along = record {
      left = filter_same (λ h. not (list_any (same_grant h) (ended_from test [] grants))) (λ h. not (goes h)) grants (λ h a. ap not (is_gone h a));
      response = ap grants_sorted ended_are;
      in_order = sorted_rises (ended_from test [] grants);
      test_ends = λ h t. or_left (test h) (list_any (hangs 2 h) grants) t;
      along = λ h b x y o t.
          ends_by h x ∙ or_right (test h) (list_any (λ c. is_child_of h c && goes c) grants) (any_of (λ c. is_child_of h c && goes c) b grants y (both (is_child_of h b) (goes b) o t));
    }
