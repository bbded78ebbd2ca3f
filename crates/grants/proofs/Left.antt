-- What stands after grants have ended is a table of grants again.
use Rattle.std.proofs.Common.{◌≡◌, ℕ, ◌+◌, ◌≤◌, ◌==◌, Bool, true, false, not, cond, ◌&&◌, ◌||◌, ◌⊎◌, inl, inr, List, [], ◌∷◌, ◌++◌, filter, length, Option, Some, None, refl, sym, ap, subst, ◌∙◌, arith}
use Rattle.std.specs.Prelude.{if◌then◌else◌, nat_le}
use Rattle.std.specs.List.{list_any}
use Rattle.private_store.specs.rules.Limits.{greatest_depth}
use Rattle.private_store.specs.rules.Grants.{StandingGrant, same_grant, is_child_of, ended_from, grants_left, is_given_by}
use Rattle.store_facts.proofs.Tests.{true_false, both, both_left, both_right, or_cases, or_left, or_right, not_true, refuted}
use Rattle.grants.specs.Table.{AreGrants, is_no_grantee, hangs_right, is_hung, grant_may_stand, all_stand}
use Rattle.grants.proofs.Alike.{same_itself, same_through, hangs_alike, any_more, any_before, any_after, any_either, any_filtered, any_kept}

pub filter_both : (q : StandingGrant → Bool) (xs ys : List StandingGrant) → filter q (xs ++ ys) ≡ filter q xs ++ filter q ys
filter_both q [] ys = refl
filter_both q (x ∷ xs) ys =
    let rest = filter_both q xs ys in
    elim (q x) as (λ t. cond t (x ∷ filter q (xs ++ ys)) (filter q (xs ++ ys)) ≡ cond t (x ∷ filter q xs) (filter q xs) ++ filter q ys) [
      | true ↦ ap (λ r. x ∷ r) rest
      | false ↦ rest
    ]

pub append_nothing : (xs : List StandingGrant) → xs ++ [] ≡ xs
append_nothing [] = refl
append_nothing (x ∷ xs) = ap (λ r. x ∷ r) (append_nothing xs)

-- no younger grant is the same as an older one
pub apart : (before hs : List StandingGrant) (b : StandingGrant) → all_stand before hs ≡ true → list_any (same_grant b) before ≡ true → list_any (same_grant b) hs ≡ true → ⊥
apart before [] b s at e = true_false e
apart before (x ∷ hs) b s at e =
    let x_stands = both_left (grant_may_stand before x) (all_stand (before ++ x ∷ []) hs) s in
    let new = not_true (list_any (same_grant x) before)
    (both_right (not (is_no_grantee x.id x.grantor x.grantee)) (not (list_any (same_grant x) before))
    (both_left (not (is_no_grantee x.id x.grantor x.grantee) && not (list_any (same_grant x) before)) (is_hung before x) x_stands)) in
    elim (or_cases (same_grant b x) (list_any (same_grant b) hs) e) [
      | inl t ↦ true_false (sym new ∙ any_more (same_grant b) (same_grant x) before (λ y u. same_through b x y t u) at)
      | inr r ↦ apart (before ++ x ∷ []) hs b (both_right (grant_may_stand before x) (all_stand (before ++ x ∷ []) hs) s) (any_before (same_grant b) before (x ∷ []) at) r
    ]

-- a filter keeps few
pub fewer : (p q : StandingGrant → Bool) (xs : List StandingGrant) → length (filter p (filter q xs)) ≤ length (filter p xs)
fewer p q [] = omega arith
fewer p q (x ∷ xs) =
    let rest = fewer p q xs in
    elim (q x) as (λ t. length (filter p (cond t (x ∷ filter q xs) (filter q xs))) ≤ length (cond (p x) (x ∷ filter p xs) (filter p xs))) [
      | true ↦ elim (p x) as (λ t. length (cond t (x ∷ filter p (filter q xs)) (filter p (filter q xs))) ≤ length (cond t (x ∷ filter p xs) (filter p xs))) [
        | true ↦ omega (arith, rest)
        | false ↦ rest
      ]
      | false ↦ elim (p x) as (λ t. length (filter p (filter q xs)) ≤ length (cond t (x ∷ filter p xs) (filter p xs))) [
        | true ↦ omega (arith, rest)
        | false ↦ rest
      ]
    ]

module _ (test : StandingGrant → Bool) where
  -- those that have ended, and the grant where it ends too
  abbrev pub grown : List StandingGrant → StandingGrant → List StandingGrant
  grown gone h = if test h || list_any (is_child_of h) gone then gone ++ h ∷ [] else gone

  pub any_grown : (p : StandingGrant → Bool) (gone : List StandingGrant) (h : StandingGrant) → list_any p gone ≡ true → list_any p (grown gone h) ≡ true
  any_grown p gone h e =
      elim (test h || list_any (is_child_of h) gone) as (λ t. list_any p (if t then gone ++ h ∷ [] else gone) ≡ true) [
        | true ↦ any_before p gone (h ∷ []) e
        | false ↦ e
      ]

  -- what has ended stays ended
  pub stays_gone : (p : StandingGrant → Bool) (gone hs : List StandingGrant) → list_any p gone ≡ true → list_any p (ended_from test gone hs) ≡ true
  stays_gone p gone [] e = e
  stays_gone p gone (h ∷ hs) e = stays_gone p (grown gone h) hs (any_grown p gone h e)

  from_grown : (p : StandingGrant → Bool) (gone hs : List StandingGrant) (h : StandingGrant) → list_any p (grown gone h) ≡ true → (list_any p gone ≡ true) ⊎ (list_any p (h ∷ hs) ≡ true)
  from_grown p gone hs h e =
      (elim (test h || list_any (is_child_of h) gone) as (λ t. list_any p (if t then gone ++ h ∷ [] else gone) ≡ true → (list_any p gone ≡ true) ⊎ (list_any p (h ∷ hs) ≡ true)) [
        | true ↦ λ f. elim (any_either p gone (h ∷ []) f) [
          | inl g ↦ inl g
          | inr r ↦ elim (or_cases (p h) false r) [ inl t ↦ inr (or_left (p h) (list_any p hs) t) | inr n ↦ true_false n ]
        ]
        | false ↦ λ f. inl f
      ]) e

  -- what ends had ended before, or is still to come
  pub comes_from : (p : StandingGrant → Bool) (gone hs : List StandingGrant) → list_any p (ended_from test gone hs) ≡ true → (list_any p gone ≡ true) ⊎ (list_any p hs ≡ true)
  comes_from p gone [] e = inl e
  comes_from p gone (h ∷ hs) e =
      elim (comes_from p (grown gone h) hs e) [
        | inl g ↦ from_grown p gone hs h g
        | inr r ↦ inr (or_right (p h) (list_any p hs) r)
      ]

  -- an older grant that ends has ended by now
  in_gone : (before gone hs : List StandingGrant) (b : StandingGrant) → all_stand before hs ≡ true → list_any (same_grant b) before ≡ true
      → list_any (same_grant b) (ended_from test gone hs) ≡ true → list_any (same_grant b) gone ≡ true
  in_gone before gone hs b s at e =
      elim (comes_from (same_grant b) gone hs e) [ inl g ↦ g | inr r ↦ absurd (apart before hs b s at r) ]

  -- what hangs on an ended grant ends
  goes_along : (gone : List StandingGrant) (h : StandingGrant) → list_any (is_child_of h) gone ≡ true → list_any (same_grant h) (grown gone h) ≡ true
  goes_along gone h e =
      ap (λ t. list_any (same_grant h) (if t then gone ++ h ∷ [] else gone)) (or_right (test h) (list_any (is_child_of h) gone) e)
      ∙ any_after (same_grant h) gone (h ∷ []) (or_left (same_grant h h) false (same_itself h))

  module _ (all : List StandingGrant) where
    abbrev keep : StandingGrant → Bool
    keep h = not (list_any (same_grant h) all)

    -- the grant that a grant hangs on stands as long as that one
    below_stays : (before gone hs : List StandingGrant) (h b : StandingGrant) → ended_from test gone (h ∷ hs) ≡ all → all_stand before (h ∷ hs) ≡ true → keep h ≡ true
        → list_any (same_grant b) before ≡ true → is_child_of h b ≡ true → keep b ≡ true
    below_stays before gone hs h b is s k at on =
        let stands : list_any (same_grant b) all ≡ false =
        refuted (list_any (same_grant b) all) (λ t.
        let ended : list_any (same_grant b) gone ≡ true = in_gone before gone (h ∷ hs) b s at (ap (λ l. list_any (same_grant b) l) is ∙ t) in
        let hangs : list_any (is_child_of h) gone ≡ true = any_more (same_grant b) (is_child_of h) gone (λ y u. hangs_alike h b y u on) ended in
        let goes : list_any (same_grant h) all ≡ true =
        ap (λ l. list_any (same_grant h) l) (sym is) ∙ stays_gone (same_grant h) (grown gone h) hs (goes_along gone h hangs) in
        sym (ap not goes) ∙ k) in
        ap not stands

    hung_stays : (before gone hs : List StandingGrant) (h : StandingGrant) → ended_from test gone (h ∷ hs) ≡ all → all_stand before (h ∷ hs) ≡ true → keep h ≡ true
        → (o : Option ℕ) → hangs_right before h o ≡ true → hangs_right (filter keep before) h o ≡ true
    hung_stays before gone hs h is s k None e = e
    hung_stays before gone hs h is s k (Some g) e =
        let here : Bool = not (h.grantor == h.id.job.0) && nat_le h.depth greatest_depth in
        let below : StandingGrant → Bool = λ b. is_child_of h b && h.depth == b.depth + 1 in
        both here (list_any below (filter keep before)) (both_left here (list_any below before) e)
        (any_kept below keep before before
        (λ b at on. below_stays before gone hs h b is s k at (both_left (is_child_of h b) (h.depth == b.depth + 1) on))
        (λ b at. at) (both_right here (list_any below before) e))

    may_stay : (before gone hs : List StandingGrant) (h : StandingGrant) → ended_from test gone (h ∷ hs) ≡ all → all_stand before (h ∷ hs) ≡ true → keep h ≡ true
        → grant_may_stand (filter keep before) h ≡ true
    may_stay before gone hs h is s k =
        let stands = both_left (grant_may_stand before h) (all_stand (before ++ h ∷ []) hs) s in
        let grantee : Bool = not (is_no_grantee h.id h.grantor h.grantee) in
        let first = both_left (grantee && not (list_any (same_grant h) before)) (is_hung before h) stands in
        let new = not_true (list_any (same_grant h) before) (both_right grantee (not (list_any (same_grant h) before)) first) in
        let still_new : list_any (same_grant h) (filter keep before) ≡ false =
        refuted (list_any (same_grant h) (filter keep before)) (λ t. sym new ∙ any_filtered (same_grant h) keep before t) in
        both (grantee && not (list_any (same_grant h) (filter keep before))) (is_hung (filter keep before) h)
        (both grantee (not (list_any (same_grant h) (filter keep before))) (both_left grantee (not (list_any (same_grant h) before)) first) (ap not still_new))
        (hung_stays before gone hs h is s k h.parent (both_right (grantee && not (list_any (same_grant h) before)) (is_hung before h) stands))

    left_stand : (before gone hs : List StandingGrant) → ended_from test gone hs ≡ all → all_stand before hs ≡ true → all_stand (filter keep before) (filter keep hs) ≡ true
    left_stand before gone [] is s = refl
    left_stand before gone (h ∷ hs) is s =
        let rest : all_stand (filter keep (before ++ h ∷ [])) (filter keep hs) ≡ true =
        left_stand (before ++ h ∷ []) (grown gone h) hs is (both_right (grant_may_stand before h) (all_stand (before ++ h ∷ []) hs) s) in
        let split : filter keep (before ++ h ∷ []) ≡ filter keep before ++ cond (keep h) (h ∷ []) [] = filter_both keep before (h ∷ []) in
        (elim (keep h) as (λ k. keep h ≡ k → all_stand (filter keep before) (cond k (h ∷ filter keep hs) (filter keep hs)) ≡ true) [
          | true ↦ λ k. both (grant_may_stand (filter keep before) h) (all_stand (filter keep before ++ h ∷ []) (filter keep hs)) (may_stay before gone hs h is s k)
              (subst (λ l. all_stand l (filter keep hs) ≡ true) (split ∙ ap (λ t. filter keep before ++ cond t (h ∷ []) []) k) rest)
          | false ↦ λ k. subst (λ l. all_stand l (filter keep hs) ≡ true) (split ∙ ap (λ t. filter keep before ++ cond t (h ∷ []) []) k ∙ append_nothing (filter keep before)) rest
        ]) refl

  pub left_are_grants : (grants : List StandingGrant) → AreGrants grants → AreGrants (grants_left test grants)
  left_are_grants grants h = record {
    stand = left_stand (ended_from test [] grants) [] [] grants refl h.stand;
    few = λ grantor.
        let l = fewer (is_given_by grantor) (keep (ended_from test [] grants)) grants in
        let f = h.few grantor in
        omega (arith, l, f);
  }

  -- of what ends by itself nothing stands
  none_from : (all gone hs : List StandingGrant) → ended_from test gone hs ≡ all → filter test (filter (keep all) hs) ≡ []
  none_from all gone [] is = refl
  none_from all gone (h ∷ hs) is =
      let rest = none_from all (grown gone h) hs is in
      let left = filter (keep all) hs in
      (elim (keep all h) as (λ k. keep all h ≡ k → filter test (cond k (h ∷ left) left) ≡ []) [
        | true ↦ λ k.
            let stands : test h ≡ false =
            refuted (test h) (λ t.
            let here : list_any (same_grant h) (grown gone h) ≡ true =
            ap (λ e. list_any (same_grant h) (if e then gone ++ h ∷ [] else gone)) (or_left (test h) (list_any (is_child_of h) gone) t)
            ∙ any_after (same_grant h) gone (h ∷ []) (or_left (same_grant h h) false (same_itself h)) in
            sym (ap not (ap (λ l. list_any (same_grant h) l) (sym is) ∙ stays_gone (same_grant h) (grown gone h) hs here)) ∙ k) in
            ap (λ t. cond t (h ∷ filter test left) (filter test left)) stands ∙ rest
        | false ↦ λ k. rest
      ]) refl

  pub none_left : (grants : List StandingGrant) → filter test (grants_left test grants) ≡ []
  none_left grants = none_from (ended_from test [] grants) [] grants refl

-- ---- no grant ends

module _ (test : StandingGrant → Bool) where
  pub none_end : (hs : List StandingGrant) → list_any test hs ≡ false → ended_from test [] hs ≡ []
  none_end [] none = refl
  none_end (x ∷ xs) none = (elim (test x) as (λ b. b || list_any test xs ≡ false → ended_from test (if b || false then x ∷ [] else []) xs ≡ []) [
    | true ↦ λ e. absurd (true_false (sym e))
    | false ↦ λ e. none_end xs e
  ]) none

  pub none_pass : (hs : List StandingGrant) → list_any test hs ≡ false → filter test hs ≡ []
  none_pass [] none = refl
  none_pass (x ∷ xs) none = (elim (test x) as (λ b. b || list_any test xs ≡ false → cond b (x ∷ filter test xs) (filter test xs) ≡ []) [
    | true ↦ λ e. absurd (true_false (sym e))
    | false ↦ λ e. none_pass xs e
  ]) none

  -- what passes is some
  pub some_pass : (hs : List StandingGrant) → list_any test hs ≡ true → filter test hs ≡ [] → ⊥
  some_pass [] some none = absurd cc
  some_pass (x ∷ xs) some none = (elim (test x) as (λ b. b || list_any test xs ≡ true → cond b (x ∷ filter test xs) (filter test xs) ≡ [] → ⊥) [
    | true ↦ λ e n. absurd cc
    | false ↦ λ e n. some_pass xs e n
  ]) some none

  pub all_left : (hs : List StandingGrant) → list_any test hs ≡ false → grants_left test hs ≡ hs
  all_left hs none = ap (λ (gone : List StandingGrant). filter (λ grant. not (list_any (same_grant grant) gone)) hs) (none_end hs none) ∙ all_kept hs
    where
      all_kept : (hs : List StandingGrant) → filter (λ (grant : StandingGrant). not (list_any (same_grant grant) [])) hs ≡ hs
      all_kept [] = refl
      all_kept (x ∷ xs) = ap (λ r. x ∷ r) (all_kept xs)
