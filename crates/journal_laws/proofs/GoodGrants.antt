-- The grants of a table: of each the grantee is a job and the depth at least 1; and the grantor is a job, if the object's job is one.
use Rattle.std.proofs.Common.{◌≡◌, ℕ, ◌+◌, ◌≤◌, ◌==◌, Bool, true, false, not, cond, ◌&&◌, ◌||◌, inl, inr, List, [], ◌∷◌, ◌++◌, All, map, filter, Option, None, Some, refl, sym, subst, ◌∙◌, arith}
use Rattle.std.specs.Prelude.{nat_le}
use Rattle.std.specs.List.{AllByRecursion, list_all, list_any}
use Rattle.std.specs.Option.{option_map_or}
use Rattle.std.specs.Ordering.{is_lt}
use Rattle.std.proofs.lemmas.Bool.Decides.{nat_tests}
use Rattle.std.proofs.lemmas.List.Elements.{All-from_recursion}
use Rattle.std.proofs.lemmas.List.Folds.{list_all-append}
use Rattle.obj_id.specs.declared.commands.GrantedItem.{GrantedItem}
use Rattle.obj_id.specs.declared.ids.ObjectId.{ObjectId}
use Rattle.obj_id.specs.Ids.{id_cmp, same_id}
use Rattle.private_store.specs.rules.Commands.{granted_items}
use Rattle.private_store.specs.rules.Grants.{StandingGrant, same_grant, is_child_of, ended_from, grant_cmp, grant_placed, grants_sorted, grants_ended}
use Rattle.private_store.specs.rules.Limits.{greatest_depth}
use Rattle.private_store.specs.rules.Shape.{Shape}
use Rattle.store_facts.proofs.Tests.{both, both_left, both_right, or_cases, true_false}
use Rattle.grants.specs.Private.{taken_by}
use Rattle.grants.specs.Table.{AreGrants, all_stand, given_to, hangs_right, is_hung, is_no_grantee, grant_may_stand, seen_from, seen_list, with_seen}
use Rattle.grants.proofs.ForCallers.{seen_item, seen_items}

-- of an object whose job is this, a grantor that is a job if that is one
abbrev pub gives_well : ℕ → ℕ → Bool
gives_well job grantor = (job == 0) || nat_le 1 grantor

abbrev pub is_good : StandingGrant → Bool
is_good grant = nat_le 1 grant.grantee && (nat_le 1 grant.depth && gives_well grant.id.job.0 grant.grantor)

abbrev pub AreGood : List StandingGrant → Type 0
AreGood grants = list_all is_good grants ≡ true

-- ---- tables

own_grantor : (job grantor : ℕ) → (grantor == job) ≡ true → gives_well job grantor ≡ true
own_grantor job grantor e = by (job == 0) refl
  where
    by : (b : Bool) → (job == 0) ≡ b → (b || nat_le 1 grantor) ≡ true
    by true none = refl
    by false some = grind (arith, nat_tests, e, some)

some_grantor : (job grantor : ℕ) → nat_le 1 grantor ≡ true → gives_well job grantor ≡ true
some_grantor job grantor e = by (job == 0)
  where
    by : (b : Bool) → (b || nat_le 1 grantor) ≡ true
    by true = refl
    by false = e

deeper : (depth below : ℕ) → (depth == below + 1) ≡ true → nat_le 1 depth ≡ true
deeper depth below e = grind (arith, nat_tests, e)

taken : (grantor grantee : ℕ) → (grantor == grantee) ≡ true → nat_le 1 grantee ≡ true → nat_le 1 grantor ≡ true
taken grantor grantee e h = grind (arith, nat_tests, e, h)

abbrev Hung : StandingGrant → Type 0
Hung grant = (nat_le 1 grant.depth ≡ true) × (gives_well grant.id.job.0 grant.grantor ≡ true)

-- one that hangs on a good one
over_good : (grant : StandingGrant) (before : List StandingGrant) → AreGood before → list_any (λ below. is_child_of grant below && grant.depth == below.depth + 1) before ≡ true → Hung grant
over_good grant [] good e = true_false e
over_good grant (below ∷ before) good e = elim (or_cases (is_child_of grant below && grant.depth == below.depth + 1) (list_any (λ below. is_child_of grant below && grant.depth == below.depth + 1) before) e) [
  | inl here ↦
      let hangs = both_left (is_child_of grant below) (grant.depth == below.depth + 1) here in
      let grantee = both_right (same_id grant.id below.id) (grant.grantor == below.grantee) (both_left (same_id grant.id below.id && grant.grantor == below.grantee) (option_map_or (λ g. g == below.grantor) grant.parent false) hangs) in
      let is = both_left (is_good below) (list_all is_good before) good in
      let of_below = both_left (nat_le 1 below.grantee) (nat_le 1 below.depth && gives_well below.id.job.0 below.grantor) is in
      (deeper grant.depth below.depth (both_right (is_child_of grant below) (grant.depth == below.depth + 1) here), some_grantor grant.id.job.0 grant.grantor (taken grant.grantor below.grantee grantee of_below))
  | inr later ↦ over_good grant before (both_right (is_good below) (list_all is_good before) good) later
]

hung_good : (before : List StandingGrant) (grant : StandingGrant) (o : Option ℕ) → AreGood before → hangs_right before grant o ≡ true → Hung grant
hung_good before grant None good h =
    let own = both_left (grant.grantor == grant.id.job.0) (grant.depth == 1) h in
    let one = both_right (grant.grantor == grant.id.job.0) (grant.depth == 1) h in
    (grind (arith, nat_tests, one), own_grantor grant.id.job.0 grant.grantor own)
hung_good before grant (Some g) good h =
    over_good grant before good (both_right (not (grant.grantor == grant.id.job.0) && nat_le grant.depth greatest_depth) (list_any (λ below. is_child_of grant below && grant.depth == below.depth + 1) before) h)

is_grantee : (grantee : ℕ) (b c : Bool) → not ((grantee == 0 || b) || c) ≡ true → nat_le 1 grantee ≡ true
is_grantee grantee b c h = by (grantee == 0) refl h
  where
    by : (none : Bool) → (grantee == 0) ≡ none → not ((none || b) || c) ≡ true → nat_le 1 grantee ≡ true
    by true none h = true_false h
    by false some h = grind (arith, nat_tests, some)

stands_good : (before : List StandingGrant) (grant : StandingGrant) → AreGood before → grant_may_stand before grant ≡ true → is_good grant ≡ true
stands_good before grant good h =
    let grantee : Bool = not (is_no_grantee grant.id grant.grantor grant.grantee) in
    let apart : Bool = not (list_any (same_grant grant) before) in
    let hung = hung_good before grant grant.parent good (both_right (grantee && apart) (is_hung before grant) h) in
    both (nat_le 1 grant.grantee) (nat_le 1 grant.depth && gives_well grant.id.job.0 grant.grantor)
    (is_grantee grant.grantee (grant.grantee == grant.grantor) (grant.grantee == grant.id.job.0) (both_left grantee apart (both_left (grantee && apart) (is_hung before grant) h)))
    (both (nat_le 1 grant.depth) (gives_well grant.id.job.0 grant.grantor) hung.0 hung.1)

one_more : (grants : List StandingGrant) (grant : StandingGrant) → AreGood grants → is_good grant ≡ true → AreGood (grants ++ grant ∷ [])
one_more grants grant good is = list_all-append is_good grants (grant ∷ []) ∙ both (list_all is_good grants) (list_all is_good (grant ∷ [])) good (both (is_good grant) true is refl)

all_good : (before grants : List StandingGrant) → AreGood before → all_stand before grants ≡ true → AreGood grants
all_good before [] good h = refl
all_good before (grant ∷ grants) good h =
    let is = stands_good before grant good (both_left (grant_may_stand before grant) (all_stand (before ++ grant ∷ []) grants) h) in
    both (is_good grant) (list_all is_good grants) is (all_good (before ++ grant ∷ []) grants (one_more before grant good is) (both_right (grant_may_stand before grant) (all_stand (before ++ grant ∷ []) grants) h))

pub table_good : (grants : List StandingGrant) → AreGrants grants → AreGood grants
table_good grants h = all_good [] grants refl h.stand

pub last_good : (grants : List StandingGrant) (grant : StandingGrant) → AreGood (grants ++ grant ∷ []) → is_good grant ≡ true
last_good grants grant h =
    both_left (is_good grant) true (both_right (list_all is_good grants) (list_all is_good (grant ∷ [])) (sym (list_all-append is_good grants (grant ∷ [])) ∙ h))

-- ---- those that end

placed_good : (grant : StandingGrant) (grants : List StandingGrant) → is_good grant ≡ true → AreGood grants → AreGood (grant_placed grant grants)
placed_good grant [] is good = both (is_good grant) true is refl
placed_good grant (h ∷ grants) is good =
    elim (is_lt (grant_cmp grant h)) as (λ b. list_all is_good (cond b (grant ∷ h ∷ grants) (h ∷ grant_placed grant grants)) ≡ true) [
      | true ↦ both (is_good grant) (list_all is_good (h ∷ grants)) is good
      | false ↦
          both (is_good h) (list_all is_good (grant_placed grant grants)) (both_left (is_good h) (list_all is_good grants) good)
          (placed_good grant grants is (both_right (is_good h) (list_all is_good grants) good))
    ]

sorted_good : (grants : List StandingGrant) → AreGood grants → AreGood (grants_sorted grants)
sorted_good [] good = refl
sorted_good (grant ∷ grants) good = placed_good grant (grants_sorted grants) (both_left (is_good grant) (list_all is_good grants) good) (sorted_good grants (both_right (is_good grant) (list_all is_good grants) good))

from_good : (test : StandingGrant → Bool) (gone grants : List StandingGrant) → AreGood gone → AreGood grants → AreGood (ended_from test gone grants)
from_good test gone [] ends good = ends
from_good test gone (grant ∷ grants) ends good =
    elim (test grant || list_any (is_child_of grant) gone) as (λ b. AreGood (ended_from test (cond b (gone ++ grant ∷ []) gone) grants)) [
      | true ↦ from_good test (gone ++ grant ∷ []) grants (one_more gone grant ends (both_left (is_good grant) (list_all is_good grants) good)) (both_right (is_good grant) (list_all is_good grants) good)
      | false ↦ from_good test gone grants ends (both_right (is_good grant) (list_all is_good grants) good)
    ]

pub ends_good : (test : StandingGrant → Bool) (grants : List StandingGrant) → AreGood grants → AreGood (grants_ended test grants)
ends_good test grants good = sorted_good (ended_from test [] grants) (from_good test [] grants refl good)

-- ---- what List shows of them

filter_good : (test : StandingGrant → Bool) (grants : List StandingGrant) → AreGood grants → AreGood (filter test grants)
filter_good test [] good = refl
filter_good test (grant ∷ grants) good =
    let rest = filter_good test grants (both_right (is_good grant) (list_all is_good grants) good) in
    elim (test grant) as (λ b. AreGood (cond b (grant ∷ filter test grants) (filter test grants))) [
      | true ↦ both (is_good grant) (list_all is_good (filter test grants)) (both_left (is_good grant) (list_all is_good grants) good) rest
      | false ↦ rest
    ]

with_good : (grant : StandingGrant) (grants : List StandingGrant) → is_good grant ≡ true → AreGood grants → AreGood (with_seen grant grants)
with_good grant [] is good = both (is_good grant) true is refl
with_good grant (older ∷ grants) is good =
    let first = both_left (is_good older) (list_all is_good grants) good in
    let later = with_good grant grants is (both_right (is_good older) (list_all is_good grants) good) in
    elim (same_id older.id grant.id) as (λ b. AreGood (cond b (older ∷ grants) (cond (is_lt (id_cmp older.id grant.id)) (older ∷ with_seen grant grants) (grant ∷ older ∷ grants)))) [
      | true ↦ good
      | false ↦ elim (is_lt (id_cmp older.id grant.id)) as (λ b. AreGood (cond b (older ∷ with_seen grant grants) (grant ∷ older ∷ grants))) [
        | true ↦ both (is_good older) (list_all is_good (with_seen grant grants)) first later
        | false ↦ both (is_good grant) (list_all is_good (older ∷ grants)) is good
      ]
    ]

seen_good : (seen grants : List StandingGrant) → AreGood seen → AreGood grants → AreGood (seen_from seen grants)
seen_good seen [] are good = are
seen_good seen (grant ∷ grants) are good =
    seen_good (with_seen grant seen) grants (with_good grant seen (both_left (is_good grant) (list_all is_good grants) good) are) (both_right (is_good grant) (list_all is_good grants) good)

abbrev pub IsDeep : GrantedItem → Type 0
IsDeep x = 1 ≤ x.depth

at_least : (n : ℕ) → nat_le 1 n ≡ true → 1 ≤ n
at_least n e = grind (arith, nat_tests, e)

each_deep : (lengths : ObjectId → ℕ) (grants : List StandingGrant) → AreGood grants → AllByRecursion IsDeep (map (seen_item lengths) grants)
each_deep lengths [] good = tt
each_deep lengths (grant ∷ grants) good =
    let is = both_left (is_good grant) (list_all is_good grants) good in
    let depth = both_left (nat_le 1 grant.depth) (gives_well grant.id.job.0 grant.grantor) (both_right (nat_le 1 grant.grantee) (nat_le 1 grant.depth && gives_well grant.id.job.0 grant.grantor) is) in
    (at_least grant.depth depth, each_deep lengths grants (both_right (is_good grant) (list_all is_good grants) good))

pub seen_deep : (lengths : ObjectId → ℕ) (job : ℕ) (grants : List StandingGrant) (store : Shape) → AreGood grants → store.received ≡ taken_by lengths job grants → All IsDeep (granted_items store)
seen_deep lengths job grants store good is =
    let seen = seen_list job grants in
    subst (All IsDeep) (sym (seen_items lengths job grants store is))
    (All-from_recursion IsDeep (map (seen_item lengths) seen) (each_deep lengths seen (seen_good [] (given_to job grants) refl (filter_good (λ grant. grant.grantee == job) grants good))))
