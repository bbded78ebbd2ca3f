-- What a job's own store says of grants is what the table says. A node's Grant, Withdraw and EndTask need:
--   1. the table refuses what the store refuses (RefusesAlike): standing, the count of grants, the oldest grant and its depth;
--   2. a grant that the table takes leaves to each job's store the grants of the table (GrantsAlike);
--   3. what ends leaves to the grantor's store, by its command, and to each grantee's, by what it is notified of each grant that
--      ended, the grants of the table that are left (EndsAlike);
--   4. a job that isn't live has no grant that it gave: what ended with it (`Grants::drop_job`, `gone`).
use Rattle.std.proofs.Common.{◌≡◌, ℕ, ◌==◌, Bool, true, false, not, cond, ◌&&◌, ◌||◌, List, [], ◌∷◌, ◌++◌, map, filter, find, length, Option, Some, None, refl, sym, ap, ◌∙◌, arith, eq-eqb}
use Rattle.std.specs.Prelude.{if◌then◌else◌, nat_le}
use Rattle.std.specs.Option.{option_map, option_map_or, option_and_then}
use Rattle.std.specs.List.{list_any}
use Rattle.std.proofs.lemmas.Bool.Decides.{nat_tests}
use Rattle.std.proofs.lemmas.List.{length-map, map-append, append-nil}
use Rattle.obj_id.specs.declared.ids.ObjectId.{ObjectId}
use Rattle.obj_id.specs.declared.refusals.Refusal.TheVariants.{BadId, Gone, Absent, NotResident, Exists, TooMany, NotGranted}
use Rattle.obj_id.specs.Ids.{same_id}
use Rattle.private_store.specs.rules.Limits.{most_grants, greatest_depth}
use Rattle.private_store.specs.rules.Shape.{Shape, Change, Seen, GrantGiven, GrantTaken}
use Rattle.private_store.specs.rules.Tables.{at}
use Rattle.private_store.specs.rules.Change.{refused, done, checked, needing, has_ended, settled}
use Rattle.private_store.specs.rules.Copies.{visible}
use Rattle.private_store.specs.rules.Commands.{is_sealed_primary, has_given, gives, oldest, grant_own, grant_foreign, grant, withdraw}
use Rattle.private_store.specs.rules.Events.{grants_of, received}
use Rattle.private_store.specs.rules.Grants.{StandingGrant, ground, new_grant, is_withdrawn, is_given_by}
use Rattle.store_facts.proofs.Ids.{same_id-equal}
use Rattle.store_facts.proofs.Rows.{at-put}
use Rattle.store_facts.proofs.Tests.{both, false_true}
use Rattle.grants.specs.Table.{shows, given_by, is_no_grantee, limits_check, hung_check, grant_check, withdraw_check}
use Rattle.grants.specs.Private.{as_given, as_taken, seen_by, HasGrants, unless, without_given, RefusesAlike, GrantsAlike}
use Rattle.grants.proofs.Alike.{numbers_equal}
use Rattle.grants.proofs.Left.{filter_both}
use Rattle.grants.proofs.Made.{made, check_off}

-- ---- what the store says

-- the job's grant of the object to the target
abbrev pub is_to : ObjectId → ℕ → GrantGiven → Bool
is_to id target a_grant = same_id id a_grant.id && a_grant.target == target

pub any_given : (job : ℕ) (id : ObjectId) (target : ℕ) (grants : List StandingGrant) → list_any (is_to id target) (map as_given (given_by job grants)) ≡ list_any (is_withdrawn job id target) grants
any_given job id target [] = refl
any_given job id target (h ∷ hs) =
    let rest = any_given job id target hs in
    elim (h.grantor == job) as (λ b. list_any (is_to id target) (map as_given (cond b (h ∷ given_by job hs) (given_by job hs))) ≡ (((b && same_id id h.id) && h.grantee == target) || list_any (is_withdrawn job id target) hs)) [
      | true ↦ ap (λ b. (same_id id h.id && h.grantee == target) || b) rest
      | false ↦ rest
    ]

pub left_given : (job : ℕ) (id : ObjectId) (target : ℕ) (grants : List StandingGrant)
    → filter (λ a_grant. not (is_to id target a_grant)) (map as_given (given_by job grants)) ≡ map as_given (given_by job (filter (λ a_grant. not (is_withdrawn job id target a_grant)) grants))
left_given job id target [] = refl
left_given job id target (h ∷ hs) =
    let rest = left_given job id target hs in
    let left = filter (λ a_grant. not (is_withdrawn job id target a_grant)) hs in
    (elim (h.grantor == job) as (λ b. (h.grantor == job) ≡ b → filter (λ a_grant. not (is_to id target a_grant)) (map as_given (cond b (h ∷ given_by job hs) (given_by job hs)))
    ≡ map as_given (given_by job (cond (not ((b && same_id id h.id) && h.grantee == target)) (h ∷ left) left))) [
      | true ↦ λ e. elim (same_id id h.id && h.grantee == target) as (λ t. cond (not t) (as_given h ∷ filter (λ a_grant. not (is_to id target a_grant)) (map as_given (given_by job hs))) (filter (λ a_grant. not (is_to id target a_grant)) (map as_given (given_by job hs)))
          ≡ map as_given (given_by job (cond (not t) (h ∷ left) left))) [
            | true ↦ rest
            | false ↦ ap (λ r. as_given h ∷ r) rest ∙ sym (ap (λ b. map as_given (cond b (h ∷ given_by job left) (given_by job left))) e)
          ]
      | false ↦ λ e. rest ∙ sym (ap (λ b. map as_given (cond b (h ∷ given_by job left) (given_by job left))) e)
    ]) refl

abbrev first_of : List GrantTaken → Option GrantTaken
first_of [] = None
first_of (a_grant ∷ grants) = Some a_grant

oldest_first : (store : Shape) (id : ObjectId) → oldest store id ≡ first_of (grants_of store id)
oldest_first store id = by (at store.received id)
  where
    by : (o : Option Seen) → option_and_then (λ (seen : Seen). elim seen.grants [ [] ↦ None | a_grant ∷ _ ↦ Some a_grant ]) o ≡ first_of (option_map_or (λ (seen : Seen). seen.grants) o [])
    by None = refl
    by (Some seen) = elim seen.grants as (λ grants. elim grants as (λ _. Option GrantTaken) [ [] ↦ None | a_grant ∷ _ ↦ Some a_grant ] ≡ first_of grants) [ [] ↦ refl | a_grant ∷ _ ↦ refl ]

abbrev pub seen_grants : Option Seen → List GrantTaken
seen_grants o = option_map_or (λ (seen : Seen). seen.grants) o []

pub grants_seen : (n : ℕ) (grants : List GrantTaken) → seen_grants (seen_by n grants) ≡ grants
grants_seen n [] = refl
grants_seen n (a_grant ∷ grants) = refl

pub seen_more : (n : ℕ) (grants : List GrantTaken) (a_grant : GrantTaken) → Some (record { length = n; grants = grants ++ a_grant ∷ [] }) ≡ seen_by n (grants ++ a_grant ∷ [])
seen_more n [] a_grant = refl
seen_more n (x ∷ xs) a_grant = refl

first_found : (test : StandingGrant → Bool) (grants : List StandingGrant) → first_of (map as_taken (filter test grants)) ≡ option_map as_taken (find test grants)
first_found test [] = refl
first_found test (h ∷ hs) =
    elim (test h) as (λ b. first_of (map as_taken (cond b (h ∷ filter test hs) (filter test hs))) ≡ option_map as_taken (cond b (Some h) (find test hs))) [
      | true ↦ refl
      | false ↦ first_found test hs
    ]

-- ---- what is refused

limits : (store : Shape) (stands full : Bool) (change : Change)
    → checked store ((stands, Exists) ∷ (full, TooMany) ∷ []) change ≡ unless store (if stands then Some Exists else (if full then Some TooMany else None)) change
unfolding checked
limits store true full change = refl
limits store false true change = refl
limits store false false change = refl

no_third : (a b : Bool) → (a || b) ≡ (a || b || b)
no_third true b = refl
no_third false true = refl
no_third false false = refl

module _ (lengths : ObjectId → ℕ) (grants : List StandingGrant) (store : Shape) (has : HasGrants lengths grants store) where
  stands : (id : ObjectId) (target : ℕ) → has_given store id target ≡ list_any (is_withdrawn store.job id target) grants
  stands id target = ap (list_any (is_to id target)) has.given ∙ any_given store.job id target grants

  count : length store.given ≡ length (given_by store.job grants)
  count = ap length has.given ∙ length-map (given_by store.job grants) as_given

  below : (id : ObjectId) → oldest store id ≡ option_map as_taken (ground grants id store.job)
  below id = oldest_first store id ∙ ap first_of (ap seen_grants (has.taken id) ∙ grants_seen (lengths id) (map as_taken (filter (shows id store.job) grants))) ∙ first_found (shows id store.job) grants

  own_grant : (id : ObjectId) (target : ℕ) → (id.job.0 == store.job) ≡ true → grant store id target
      ≡ checked store ((is_no_grantee id store.job target, BadId) ∷ (has_ended store id.task, Gone) ∷ [])
      (needing store (visible store id) Absent (λ copy.
      checked store ((not (is_sealed_primary copy), NotResident) ∷ [])
      (unless store (limits_check grants store.job id target 0) (gives store id target (new_grant grants id store.job target).parent))))
  unfolding checked needing
  own_grant id target own =
      ap (λ b. if b then grant_own store id target else grant_foreign store id target) own
      ∙ (λ i. if bad i then refused store BadId else (if has_ended store id.task then refused store Gone else
      needing store (visible store id) Absent (λ copy. if not (is_sealed_primary copy) then refused store NotResident else inner i)))
    where
      bad : (target == 0 || target == store.job) ≡ is_no_grantee id store.job target
      bad =
          no_third (target == 0) (target == store.job)
          ∙ ap (λ n. target == 0 || target == store.job || target == n) (sym (numbers_equal id.job.0 store.job own))

      inner : checked store ((has_given store id target, Exists) ∷ (nat_le most_grants (length store.given), TooMany) ∷ []) (gives store id target None)
          ≡ unless store (limits_check grants store.job id target 0) (gives store id target (new_grant grants id store.job target).parent)
      inner =
          (λ i. checked store ((stands id target i, Exists) ∷ (nat_le most_grants (count i), TooMany) ∷ []) (gives store id target (made grants store.job id target (if sym own i then None else ground grants id store.job)).parent))
          ∙ limits store (list_any (is_withdrawn store.job id target) grants) (nat_le most_grants (length (given_by store.job grants))) (gives store id target (new_grant grants id store.job target).parent)

  foreign_grant : (id : ObjectId) (target : ℕ) → (id.job.0 == store.job) ≡ false → grant store id target
      ≡ unless store (grant_check grants store.job id target) (gives store id target (new_grant grants id store.job target).parent)
  unfolding checked needing
  foreign_grant id target foreign =
      ap (λ b. if b then grant_own store id target else grant_foreign store id target) foreign
      ∙ (λ i. if is_no_grantee id store.job target then refused store BadId else
      needing store (below id i) NotGranted (λ a_grant. checked store ((stands id target i, Exists) ∷ (nat_le greatest_depth a_grant.depth || nat_le most_grants (count i), TooMany) ∷ []) (gives store id target (Some a_grant.grantor))))
      ∙ ap (λ rest. if is_no_grantee id store.job target then refused store BadId else rest) (hung (ground grants id store.job))
      ∙ elim (is_no_grantee id store.job target) as (λ b. (if b then refused store BadId else unless store (hung_check grants store.job id target (ground grants id store.job)) (gives store id target (made grants store.job id target (ground grants id store.job)).parent))
      ≡ unless store (if b then Some BadId else hung_check grants store.job id target (ground grants id store.job)) (gives store id target (made grants store.job id target (ground grants id store.job)).parent)) [ true ↦ refl | false ↦ refl ]
      ∙ (λ i. unless store (if is_no_grantee id store.job target then Some BadId else
      (if sym foreign i then limits_check grants store.job id target 0 else hung_check grants store.job id target (ground grants id store.job)))
      (gives store id target (made grants store.job id target (if sym foreign i then None else ground grants id store.job)).parent))
    where
      hung : (o : Option StandingGrant) → needing store (option_map as_taken o) NotGranted (λ a_grant. checked store ((list_any (is_withdrawn store.job id target) grants, Exists) ∷ (nat_le greatest_depth a_grant.depth || nat_le most_grants (length (given_by store.job grants)), TooMany) ∷ []) (gives store id target (Some a_grant.grantor)))
          ≡ unless store (hung_check grants store.job id target o) (gives store id target (made grants store.job id target o).parent)
      hung None = refl
      hung (Some b) = limits store (list_any (is_withdrawn store.job id target) grants) (nat_le greatest_depth b.depth || nat_le most_grants (length (given_by store.job grants))) (gives store id target (Some b.grantor))

  withdrawn : (id : ObjectId) (target : ℕ) → withdraw store id target
      ≡ unless store (withdraw_check grants store.job id target) (done (settled (without_given store grants id target) id))
  unfolding checked needing
  withdrawn id target =
      (λ i. if not (stands id target i) then refused store NotGranted else done (settled (record store { given = (ap (filter (λ a_grant. not (is_to id target a_grant))) has.given ∙ left_given store.job id target grants) i }) id))
      ∙ elim (list_any (is_withdrawn store.job id target) grants) as (λ b. (if not b then refused store NotGranted else done (settled (without_given store grants id target) id))
      ≡ unless store (if b then None else Some NotGranted) (done (settled (without_given store grants id target) id))) [ true ↦ refl | false ↦ refl ]

  pub refuses_alike : RefusesAlike grants store
  refuses_alike = record { own = own_grant; foreign = foreign_grant; withdrawal = withdrawn }

-- ---- what a grant leaves

apart_back : (a b : ℕ) → (a == b) ≡ false → (b == a) ≡ false
apart_back a b e = grind (arith, nat_tests)

and_false : (b : Bool) → (b && false) ≡ false
and_false true = refl
and_false false = refl

-- one grant more
module _ (lengths : ObjectId → ℕ) (grants : List StandingGrant) (store : Shape) (has : HasGrants lengths grants store) (h : StandingGrant) where
  given_here : h.grantor ≡ store.job → store.given ++ as_given h ∷ [] ≡ map as_given (given_by store.job (grants ++ h ∷ []))
  given_here mine =
      ap (λ given. given ++ as_given h ∷ []) has.given
      ∙ sym (ap (map as_given) (filter_both (is_given_by store.job) grants (h ∷ []) ∙ ap (λ b. given_by store.job grants ++ cond b (h ∷ []) []) (eq-eqb h.grantor store.job mine))
      ∙ map-append as_given (given_by store.job grants) (h ∷ []))

  given_elsewhere : (h.grantor == store.job) ≡ false → store.given ≡ map as_given (given_by store.job (grants ++ h ∷ []))
  given_elsewhere other =
      has.given
      ∙ sym (ap (map as_given) (filter_both (is_given_by store.job) grants (h ∷ []) ∙ ap (λ b. given_by store.job grants ++ cond b (h ∷ []) []) other ∙ append-nil (given_by store.job grants)))

  shown_more : (q : ObjectId) (b : Bool) → shows q store.job h ≡ b → map as_taken (filter (shows q store.job) (grants ++ h ∷ [])) ≡ map as_taken (filter (shows q store.job) grants) ++ cond b (as_taken h ∷ []) []
  shown_more q b is =
      let old = map as_taken (filter (shows q store.job) grants) in
      ap (map as_taken) (filter_both (shows q store.job) grants (h ∷ []))
      ∙ map-append as_taken (filter (shows q store.job) grants) (filter (shows q store.job) (h ∷ []))
      ∙ (λ i. old ++ map as_taken (cond (is i) (h ∷ []) []))
      ∙ elim b as (λ b. old ++ map as_taken (cond b (h ∷ []) []) ≡ old ++ cond b (as_taken h ∷ []) []) [ true ↦ refl | false ↦ refl ]

  taken_elsewhere : (h.grantee == store.job) ≡ false → (q : ObjectId) → at store.received q ≡ seen_by (lengths q) (map as_taken (filter (shows q store.job) (grants ++ h ∷ [])))
  taken_elsewhere other q = has.taken q ∙ ap (seen_by (lengths q)) (sym (shown_more q false (ap (λ b. same_id q h.id && b) other ∙ and_false (same_id q h.id)) ∙ append-nil (map as_taken (filter (shows q store.job) grants))))

  taken_here : h.grantee ≡ store.job → (q : ObjectId) → at (received store h.id (lengths h.id) h.grantor h.depth).shape.received q ≡ seen_by (lengths q) (map as_taken (filter (shows q store.job) (grants ++ h ∷ [])))
  taken_here mine q =
      at-put store.received h.id (record { length = lengths h.id; grants = grants_of store h.id ++ as_taken h ∷ [] }) q
      ∙ (elim (same_id q h.id) as (λ b. same_id q h.id ≡ b → cond b (Some (record { length = lengths h.id; grants = grants_of store h.id ++ as_taken h ∷ [] })) (at store.received q)
      ≡ seen_by (lengths q) (map as_taken (filter (shows q store.job) (grants ++ h ∷ [])))) [
        | true ↦ λ same.
            (λ i. Some (record { length = lengths (sym (same_id-equal q h.id same) i); grants = grants_of store (sym (same_id-equal q h.id same) i) ++ as_taken h ∷ [] }))
            ∙ ap (λ grants. Some (record { length = lengths q; grants = grants ++ as_taken h ∷ [] })) (ap seen_grants (has.taken q) ∙ grants_seen (lengths q) (map as_taken (filter (shows q store.job) grants)))
            ∙ seen_more (lengths q) (map as_taken (filter (shows q store.job) grants)) (as_taken h)
            ∙ ap (seen_by (lengths q)) (sym (shown_more q true (both (same_id q h.id) (h.grantee == store.job) same (eq-eqb h.grantee store.job mine))))
        | false ↦ λ other.
            has.taken q
            ∙ ap (seen_by (lengths q)) (sym (shown_more q false (ap (λ b. b && h.grantee == store.job) other) ∙ append-nil (map as_taken (filter (shows q store.job) grants))))
      ]) refl

module _ (lengths : ObjectId → ℕ) (grants : List StandingGrant) (grantor : ℕ) (id : ObjectId) (grantee : ℕ) where
  -- whose the new grant is
  pub made_for : ((new_grant grants id grantor grantee).id ≡ id) × ((new_grant grants id grantor grantee).grantor ≡ grantor) × ((new_grant grants id grantor grantee).grantee ≡ grantee)
  made_for = by (if id.job.0 == grantor then None else ground grants id grantor)
    where
      by : (o : Option StandingGrant) → ((made grants grantor id grantee o).id ≡ id) × ((made grants grantor id grantee o).grantor ≡ grantor) × ((made grants grantor id grantee o).grantee ≡ grantee)
      by None = (refl, refl, refl)
      by (Some a_grant) = (refl, refl, refl)

  pub grants_alike : grant_check grants grantor id grantee ≡ None → GrantsAlike lengths grants grantor id grantee
  grants_alike passes =
      let h = new_grant grants id grantor grantee in
      let apart : (grantee == grantor) ≡ false = other_job (grantee == 0) (grantee == grantor) (grantee == id.job.0) (check_off (is_no_grantee id grantor grantee) BadId (if id.job.0 == grantor then limits_check grants grantor id grantee 0 else hung_check grants grantor id grantee (ground grants id grantor)) passes).0 in
      record {
        of_grantor = λ store own has. record {
          given = (λ i. store.given ++ record { id = sym made_for.0 i; target = sym made_for.2 i; parent = h.parent } ∷ []) ∙ given_here lengths grants store has h (made_for.1 ∙ sym own);
          taken = taken_elsewhere lengths grants store has h ((λ i. made_for.2 i == own i) ∙ apart);
        };
        of_grantee = λ store own has. record {
          given = given_elsewhere lengths grants store has h ((λ i. made_for.1 i == own i) ∙ apart_back grantee grantor apart);
          taken = λ q. (λ i. at (received store (sym made_for.0 i) (lengths (sym made_for.0 i)) (sym made_for.1 i) h.depth).shape.received q) ∙ taken_here lengths grants store has h (made_for.2 ∙ sym own) q;
        };
        of_other = λ store from to has. record {
          given = given_elsewhere lengths grants store has h ((λ i. made_for.1 i == store.job) ∙ from);
          taken = taken_elsewhere lengths grants store has h ((λ i. made_for.2 i == store.job) ∙ to);
        };
      }
    where
      other_job : (a b c : Bool) → (a || b || c) ≡ false → b ≡ false
      other_job false false c e = refl
      other_job false true c e = e
      other_job true b c e = false_true e
