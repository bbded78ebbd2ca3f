-- Grants by their ranks are the grants in the order in which their ends are announced.
use Rattle.std.proofs.Common.{◌≡◌, ℕ, ◌+◌, ◌<◌, zero, suc, Bool, true, false, not, ◌&&◌, ◌||◌, inl, inr, List, [], ◌∷◌, ◌++◌, length, drop, refl, sym, ap, subst, ◌∙◌, arith, get_or}
use Rattle.std.specs.Prelude.{if◌then◌else◌}
use Rattle.std.specs.List.{list_any}
use Rattle.std.specs.Map.{values_of}
use Rattle.std.specs.BTreeMap.{insert_entry}
use Rattle.std.specs.Ordering.{is_lt, is_eq, nat_cmp, ordering_then, match_ordering}
use Rattle.std.specs.declared.cmp.Ordering.{Ordering}
use Rattle.std.specs.declared.cmp.Ordering.TheVariants.{Less, Equal, Greater}
use Rattle.std.proofs.Math.Seq.{drop-cons}
use Rattle.std.proofs.lemmas.List.Folds.{list_any-append}
use Rattle.std.proofs.lemmas.Map.Lookups.{exact_unsigned}
use Rattle.obj_id.specs.Ids.{id_cmp}
use Rattle.store_facts.proofs.Ids.{same_id-equal}
use Rattle.private_store.specs.rules.Grants.{StandingGrant, same_grant, is_child_of, grant_cmp, grant_placed, grants_sorted, ended_from}
use Rattle.store_facts.proofs.Tests.{true_false, both, both_left, both_right, not_true, refuted}
use Rattle.grants.specs.declared.standing.Rank.{Rank}
use Rattle.grants.specs.Links.{rank_of, links_are_apart}
use Rattle.grants.specs.Table.{AreGrants, is_no_grantee, is_hung, grant_may_stand, all_stand}
use Rattle.grants.proofs.Alike.{alike, same_alike, any_before, any_after, any_either}

abbrev pub rank_cmp : Rank → Rank → Ordering
rank_cmp a b =
    ordering_then (nat_cmp a.depth b.depth) (ordering_then (id_cmp a.id b.id) (ordering_then (nat_cmp a.grantor.0 b.grantor.0) (nat_cmp a.grantee.0 b.grantee.0)))

-- each under its rank
abbrev pub AreRanked : List (Rank × StandingGrant) → Type 0
AreRanked [] = Unit {0}
AreRanked (e ∷ es) = (e.0 ≡ rank_of e.1) × AreRanked es

then_left : (a b : Ordering) → ordering_then a b ≡ Equal → a ≡ Equal
then_left Less b e = cc
then_left Equal b e = refl
then_left Greater b e = cc

then_right : (a b : Ordering) → ordering_then a b ≡ Equal → b ≡ Equal
then_right Less b e = absurd (unlike e)
  where
    unlike : Less ≡ Equal → ⊥
    unlike e = cc
then_right Equal b e = e
then_right Greater b e = absurd (unlike e)
  where
    unlike : Greater ≡ Equal → ⊥
    unlike e = cc

-- grants of one rank are the same
same_rank : (a b : StandingGrant) → grant_cmp a b ≡ Equal → same_grant a b ≡ true
same_rank a b e =
    let jobs = ordering_then (nat_cmp a.grantor b.grantor) (nat_cmp a.grantee b.grantee) in
    let rest = then_right (nat_cmp a.depth b.depth) (ordering_then (id_cmp a.id b.id) jobs) e in
    let last = then_right (id_cmp a.id b.id) jobs rest in
    same_alike a b (same_id-equal a.id b.id (ap is_eq (then_left (id_cmp a.id b.id) jobs rest)))
    (exact_unsigned a.grantor b.grantor (then_left (nat_cmp a.grantor b.grantor) (nat_cmp a.grantee b.grantee) last))
    (exact_unsigned a.grantee b.grantee (then_right (nat_cmp a.grantor b.grantor) (nat_cmp a.grantee b.grantee) last))

or_none : (a b : Bool) → a || b ≡ false → (a ≡ false) × (b ≡ false)
or_none true b e = absurd cc
or_none false b e = (refl, e)

-- one more goes to its place
module _ (grant : StandingGrant) where
  insert-values : (es : List (Rank × StandingGrant)) → AreRanked es → list_any (same_grant grant) (values_of es) ≡ false
      → (values_of (insert_entry rank_cmp es (rank_of grant) grant) ≡ grant_placed grant (values_of es)) × AreRanked (insert_entry rank_cmp es (rank_of grant) grant)
  insert-values [] ranked new = (refl, (refl, tt))
  insert-values (e ∷ es) ranked new =
      let apart = or_none (same_grant grant e.1) (list_any (same_grant grant) (values_of es)) new in
      let rest = insert-values es ranked.1 apart.1 in
      let here : rank_cmp (rank_of grant) e.0 ≡ grant_cmp grant e.1 = ap (rank_cmp (rank_of grant)) ranked.0 in
      let next = insert_entry rank_cmp es (rank_of grant) grant in
      (elim (grant_cmp grant e.1) as (λ o. grant_cmp grant e.1 ≡ o → rank_cmp (rank_of grant) e.0 ≡ o
      → (values_of (insert_entry rank_cmp (e ∷ es) (rank_of grant) grant) ≡ (if is_lt o then grant ∷ e.1 ∷ values_of es else e.1 ∷ grant_placed grant (values_of es)))
      × AreRanked (insert_entry rank_cmp (e ∷ es) (rank_of grant) grant)) [
        | Less ↦ λ o r. (
          ap (λ x. values_of (match_ordering x ((rank_of grant, grant) ∷ e ∷ es) ((e.0, grant) ∷ es) (e ∷ next))) r,
          subst (λ x. AreRanked (match_ordering x ((rank_of grant, grant) ∷ e ∷ es) ((e.0, grant) ∷ es) (e ∷ next))) (sym r) (refl, ranked),
        )
        | Equal ↦ λ o r. true_false (sym apart.0 ∙ same_rank grant e.1 o)
        | Greater ↦ λ o r. (
          ap (λ x. values_of (match_ordering x ((rank_of grant, grant) ∷ e ∷ es) ((e.0, grant) ∷ es) (e ∷ next))) r ∙ ap (λ xs. e.1 ∷ xs) rest.0,
          subst (λ x. AreRanked (match_ordering x ((rank_of grant, grant) ∷ e ∷ es) ((e.0, grant) ∷ es) (e ∷ next))) (sym r) (ranked.0, rest.1),
        )
      ]) refl here

-- ---- sorting keeps the grants

swap : (a b c : Bool) → a || (b || c) ≡ b || (a || c)
swap true true c = refl
swap true false c = refl
swap false true c = refl
swap false false c = refl

any_placed : (p : StandingGrant → Bool) (h : StandingGrant) (hs : List StandingGrant) → list_any p (grant_placed h hs) ≡ p h || list_any p hs
any_placed p h [] = refl
any_placed p h (x ∷ xs) =
    elim (is_lt (grant_cmp h x)) as (λ b. list_any p (if b then h ∷ x ∷ xs else x ∷ grant_placed h xs) ≡ p h || (p x || list_any p xs)) [
      | true ↦ refl
      | false ↦ ap (λ b. p x || b) (any_placed p h xs) ∙ swap (p x) (p h) (list_any p xs)
    ]

pub any_sorted : (p : StandingGrant → Bool) (hs : List StandingGrant) → list_any p (grants_sorted hs) ≡ list_any p hs
any_sorted p [] = refl
any_sorted p (h ∷ hs) = any_placed p h (grants_sorted hs) ∙ ap (λ b. p h || b) (any_sorted p hs)

apart_drop : (k : ℕ) (hs : List StandingGrant) → links_are_apart hs ≡ true → links_are_apart (drop k hs) ≡ true
apart_drop zero hs a = a
apart_drop (suc k) [] a = refl
apart_drop (suc k) (h ∷ hs) a = apart_drop k hs (both_right (not (list_any (same_grant h) hs)) (links_are_apart hs) a)

-- a step of the walk from the last to the first
pub ranked_step : (grants : List StandingGrant) (old new : List (Rank × StandingGrant)) (left : ℕ) (grant : StandingGrant) → links_are_apart grants ≡ true → left < length grants → grant ≡ get_or grants left grant
    → AreRanked old → values_of old ≡ grants_sorted (drop (left + 1) grants) → new ≡ insert_entry rank_cmp old (rank_of grant) grant
    → (values_of new ≡ grants_sorted (drop left grants)) × AreRanked new
ranked_step grants old new left grant apart within is ranked so_far e =
    let cut : drop left grants ≡ grant ∷ drop (left + 1) grants =
    drop-cons grants left grant within ∙ (λ i. sym is i ∷ drop (next left i) grants) in
    let alone : links_are_apart (grant ∷ drop (left + 1) grants) ≡ true = ap links_are_apart (sym cut) ∙ apart_drop left grants apart in
    let new_one : list_any (same_grant grant) (values_of old) ≡ false =
    ap (list_any (same_grant grant)) so_far ∙ any_sorted (same_grant grant) (drop (left + 1) grants)
    ∙ not_true (list_any (same_grant grant) (drop (left + 1) grants)) (both_left (not (list_any (same_grant grant) (drop (left + 1) grants))) (links_are_apart (drop (left + 1) grants)) alone) in
    let put = insert-values grant old ranked new_one in
    (ap values_of e ∙ put.0 ∙ ap (grant_placed grant) so_far ∙ sym (ap grants_sorted cut), subst AreRanked (sym e) put.1)
  where
    next : (n : ℕ) → suc n ≡ n + 1
    next n = omega arith

-- ---- those that end are apart

same_back : (a b : StandingGrant) → same_grant a b ≡ true → same_grant b a ≡ true
same_back a b e =
    let p = alike a b e in
    same_alike b a (sym p.0) (sym p.1) (sym p.2)

apart_push : (hs : List StandingGrant) (h : StandingGrant) → links_are_apart hs ≡ true → list_any (same_grant h) hs ≡ false → links_are_apart (hs ++ h ∷ []) ≡ true
apart_push [] h a n = refl
apart_push (x ∷ xs) h a n =
    let split = or_none (same_grant h x) (list_any (same_grant h) xs) n in
    let own = not_true (list_any (same_grant x) xs) (both_left (not (list_any (same_grant x) xs)) (links_are_apart xs) a) in
    let last : same_grant x h ≡ false = refuted (same_grant x h) (λ e. sym split.0 ∙ same_back x h e) in
    both (not (list_any (same_grant x) (xs ++ h ∷ []))) (links_are_apart (xs ++ h ∷ []))
    (ap not (list_any-append (same_grant x) xs (h ∷ []) ∙ (λ i. own i || (last i || false))))
    (apart_push xs h (both_right (not (list_any (same_grant x) xs)) (links_are_apart xs) a) split.1)

module _ (test : StandingGrant → Bool) where
  ended_apart_from : (before gone hs : List StandingGrant) → all_stand before hs ≡ true → ((b : StandingGrant) → list_any (same_grant b) gone ≡ true → list_any (same_grant b) before ≡ true)
      → links_are_apart gone ≡ true → links_are_apart (ended_from test gone hs) ≡ true
  ended_apart_from before gone [] s among a = a
  ended_apart_from before gone (h ∷ hs) s among a =
      let stands = both_left (grant_may_stand before h) (all_stand (before ++ h ∷ []) hs) s in
      let rest = both_right (grant_may_stand before h) (all_stand (before ++ h ∷ []) hs) s in
      let new = not_true (list_any (same_grant h) before)
      (both_right (not (is_no_grantee h.id h.grantor h.grantee)) (not (list_any (same_grant h) before))
      (both_left (not (is_no_grantee h.id h.grantor h.grantee) && not (list_any (same_grant h) before)) (is_hung before h) stands)) in
      let none : list_any (same_grant h) gone ≡ false = refuted (list_any (same_grant h) gone) (λ e. sym new ∙ among h e) in
      elim (test h || list_any (is_child_of h) gone) as (λ t. links_are_apart (ended_from test (if t then gone ++ h ∷ [] else gone) hs) ≡ true) [
        | true ↦ ended_apart_from (before ++ h ∷ []) (gone ++ h ∷ []) hs rest
            (λ b e. elim (any_either (same_grant b) gone (h ∷ []) e) [
              | inl g ↦ any_before (same_grant b) before (h ∷ []) (among b g)
              | inr r ↦ any_after (same_grant b) before (h ∷ []) r
            ]) (apart_push gone h a none)
        | false ↦ ended_apart_from (before ++ h ∷ []) gone hs rest (λ b e. any_before (same_grant b) before (h ∷ []) (among b e)) a
      ]

  pub ended_apart : (grants : List StandingGrant) → AreGrants grants → links_are_apart (ended_from test [] grants) ≡ true
  ended_apart grants h = ended_apart_from [] [] grants h.stand (λ b e. true_false e) refl
