-- Of a node's table, the grants of objects that aren't a job's own: what a step does to them, it does by them alone.
use Rattle.std.proofs.Common.{◌≡◌, ℕ, zero, suc, ◌+◌, Bool, true, false, not, cond, ◌==◌, ◌&&◌, ◌||◌, List, [], ◌∷◌, ◌++◌, filter, find, Some, None, refl, sym, ap, ◌∙◌, eq-eqb}
use Rattle.std.specs.Prelude.{if◌then◌else◌}
use Rattle.std.specs.List.{list_any}
use Rattle.std.specs.Option.{option_map_or}
use Rattle.std.proofs.lemmas.Bool.{eqb-true}
use Rattle.obj_id.specs.declared.ids.ObjectId.{ObjectId}
use Rattle.obj_id.specs.Ids.{same_id}
use Rattle.store_facts.proofs.Ids.{same_id-equal}
use Rattle.private_store.specs.rules.Limits.{greatest_depth}
use Rattle.private_store.specs.rules.Grants.{StandingGrant, ground, new_grant, with_grant, is_child_of, grants_sorted, grants_ended, grants_left}
use Rattle.store_facts.proofs.Tests.{both_left, neither, refuted}
use Rattle.grants.specs.Table.{AreGrants}
use Rattle.grants.proofs.ForCallers.{any_filter, filter_filter, filter_swap, made_for, filter_both, append_nothing}
use Rattle.run_laws.specs.Ending.{ends_within, ends_with}
use Rattle.run_laws.proofs.InOrder.{filter_sorted}
use Rattle.run_laws.proofs.WhatEnds.{and_no, any_same, any_none, filter_same, stands_filtered, ends_along}
use Rattle.run_laws.proofs.Moving.{filter_true}
use Rattle.run_laws.proofs.WhatIsSeen.{not_home}

-- the grant's object isn't the job's own
abbrev pub is_foreign : ℕ → StandingGrant → Bool
is_foreign job grant = not (grant.id.job.0 == job)

abbrev pub foreign_grants : ℕ → List StandingGrant → List StandingGrant
foreign_grants job grants = filter (is_foreign job) grants

filter_false : (grants : List StandingGrant) → filter (λ h. false) grants ≡ []
filter_false [] = refl
filter_false (h ∷ grants) = filter_false grants

-- ---- a new grant

module _ (job : ℕ) where
  ground_by : (grants : List StandingGrant) (id : ObjectId) (grantor : ℕ) → (id.job.0 == job) ≡ false → ground grants id grantor ≡ ground (foreign_grants job grants) id grantor
  ground_by [] id grantor foreign = refl
  ground_by (h ∷ grants) id grantor foreign =
      let at : StandingGrant → Bool = λ grant. same_id id grant.id && grant.grantee == grantor in
      let rest = ground_by grants id grantor foreign in
      elim (h.id.job.0 == job) as (λ b. (h.id.job.0 == job) ≡ b → cond (at h) (Some h) (find at grants) ≡ find at (cond (not b) (h ∷ foreign_grants job grants) (foreign_grants job grants))) [
        | true ↦ λ own.
            ap (λ b. cond b (Some h) (find at grants)) (refuted (at h) (λ t. sym foreign ∙ ap (λ x. x.job.0 == job) (same_id-equal id h.id (both_left (same_id id h.id) (h.grantee == grantor) t)) ∙ own)) ∙ rest
        | false ↦ λ _. ap (λ o. cond (at h) (Some h) o) rest
      ] refl

  new_by : (grants : List StandingGrant) (id : ObjectId) (grantor grantee : ℕ) → (id.job.0 == job) ≡ false → new_grant grants id grantor grantee ≡ new_grant (foreign_grants job grants) id grantor grantee
  new_by grants id grantor grantee foreign = λ i. elim (if id.job.0 == grantor then None else ground_by grants id grantor foreign i) [
    | None ↦ record { id = id; grantor = grantor; grantee = grantee; depth = 1; parent = None }
    | Some grant ↦ record { id = id; grantor = grantor; grantee = grantee; depth = grant.depth + 1; parent = Some grant.grantor }
  ]

  -- tables with the same foreign grants get the same new grant of a foreign object
  pub new_same : (a b : List StandingGrant) → foreign_grants job a ≡ foreign_grants job b → (id : ObjectId) (grantor grantee : ℕ) → (id.job.0 == job) ≡ false → new_grant a id grantor grantee ≡ new_grant b id grantor grantee
  new_same a b same id grantor grantee foreign = new_by a id grantor grantee foreign ∙ ap (λ grants. new_grant grants id grantor grantee) same ∙ sym (new_by b id grantor grantee foreign)

  with_new : (grants : List StandingGrant) (id : ObjectId) (grantor grantee : ℕ) (t : Bool) → (id.job.0 == job) ≡ t → foreign_grants job (with_grant grants id grantor grantee) ≡ foreign_grants job grants ++ cond (not t) (new_grant grants id grantor grantee ∷ []) []
  with_new grants id grantor grantee t e =
      filter_both (is_foreign job) grants (new_grant grants id grantor grantee ∷ [])
      ∙ ap (λ b. foreign_grants job grants ++ cond (not b) (new_grant grants id grantor grantee ∷ []) []) (ap (λ x. x.job.0 == job) (made_for (λ _. 0) grants grantor id grantee).0 ∙ e)

  pub with_same : (a b : List StandingGrant) → foreign_grants job a ≡ foreign_grants job b → (id : ObjectId) (grantor grantee : ℕ) → foreign_grants job (with_grant a id grantor grantee) ≡ foreign_grants job (with_grant b id grantor grantee)
  with_same a b same id grantor grantee =
      elim (id.job.0 == job) as (λ t. (id.job.0 == job) ≡ t → foreign_grants job (with_grant a id grantor grantee) ≡ foreign_grants job (with_grant b id grantor grantee)) [
        | true ↦ λ own. with_new a id grantor grantee true own ∙ ap (λ l. l ++ []) same ∙ sym (with_new b id grantor grantee true own)
        | false ↦ λ foreign. with_new a id grantor grantee false foreign ∙ (λ i. same i ++ new_same a b same id grantor grantee foreign i ∷ []) ∙ sym (with_new b id grantor grantee false foreign)
      ] refl

  -- a grant of an own object is none of them
  pub with_own : (grants : List StandingGrant) (id : ObjectId) (grantor grantee : ℕ) → (id.job.0 == job) ≡ true → foreign_grants job (with_grant grants id grantor grantee) ≡ foreign_grants job grants
  with_own grants id grantor grantee own = with_new grants id grantor grantee true own ∙ append_nothing (foreign_grants job grants)

  -- ---- ends

  -- what a foreign grant hangs on is foreign
  ends_by : (test : StandingGrant → Bool) (grants : List StandingGrant) (n : ℕ) (h : StandingGrant) → is_foreign job h ≡ true → ends_within n test grants h ≡ ends_within n test (foreign_grants job grants) h
  ends_by test grants zero h foreign = refl
  ends_by test grants (suc n) h foreign =
      let few = foreign_grants job grants in
      let q : StandingGrant → Bool = λ b. is_child_of h b && ends_within n test grants b in
      let r : StandingGrant → Bool = λ b. is_child_of h b && ends_within n test few b in
      ap (λ x. test h || x)
      (any_same q (λ b. is_foreign job b && r b) grants (λ b at.
      elim (is_child_of h b) as (λ t. is_child_of h b ≡ t → (t && ends_within n test grants b) ≡ (is_foreign job b && (t && ends_within n test few b))) [
        | true ↦ λ o.
            let below : is_foreign job b ≡ true = ap (λ x. not (x.job.0 == job)) (sym (same_id-equal h.id b.id (under h b o))) ∙ foreign in
            ends_by test grants n b below ∙ sym (ap (λ t. t && ends_within n test few b) below)
        | false ↦ λ _. sym (and_no (is_foreign job b))
      ] refl)
      ∙ sym (any_filter r (is_foreign job) grants))
    where
      under : (h b : StandingGrant) → is_child_of h b ≡ true → same_id h.id b.id ≡ true
      under h b o = both_left (same_id h.id b.id) (h.grantor == b.grantee) (both_left (same_id h.id b.id && h.grantor == b.grantee) (option_map_or (λ g. g == b.grantor) h.parent false) o)

  module _ (test : StandingGrant → Bool) where
    goes_by : (grants : List StandingGrant) (h : StandingGrant) → is_foreign job h ≡ true → ends_with test grants h ≡ ends_with test (foreign_grants job grants) h
    goes_by grants h foreign = ends_by test grants greatest_depth h foreign

    left_by : (grants : List StandingGrant) → AreGrants grants → foreign_grants job (grants_left test grants) ≡ filter (λ h. not (ends_with test (foreign_grants job grants) h)) (foreign_grants job grants)
    left_by grants table =
        ap (foreign_grants job) (ends_along grants table test).left
        ∙ filter_swap (is_foreign job) (λ h. not (ends_with test grants h)) grants
        ∙ filter_same (λ h. not (ends_with test grants h)) (λ h. not (ends_with test (foreign_grants job grants) h)) (foreign_grants job grants) (λ h at. ap not (goes_by grants h (stands_filtered h (is_foreign job) grants at).1))

    -- tables with the same foreign grants keep the same of them
    pub left_same : (a b : List StandingGrant) → AreGrants a → AreGrants b → foreign_grants job a ≡ foreign_grants job b → foreign_grants job (grants_left test a) ≡ foreign_grants job (grants_left test b)
    left_same a b ta tb same = left_by a ta ∙ ap (λ grants. filter (λ h. not (ends_with test grants h)) grants) same ∙ sym (left_by b tb)

    -- ---- what the job is answered

    -- grants to the job are of foreign objects
    abbrev is_to : StandingGrant → Bool
    is_to h = h.grantee == job

    to_foreign : (grants : List StandingGrant) → AreGrants grants → filter is_to (foreign_grants job grants) ≡ filter is_to grants
    to_foreign grants table =
        filter_filter is_to (is_foreign job) grants
        ∙ filter_same (λ h. is_foreign job h && is_to h) is_to grants (λ h at.
        elim (h.grantee == job) as (λ t. (h.grantee == job) ≡ t → (is_foreign job h && t) ≡ t) [
          | true ↦ λ to. ap (λ t. not t && true) (refuted (h.id.job.0 == job) (λ own.
              sym (not_home [] grants table.stand h at) ∙ eq-eqb h.grantee h.id.job.0 (eqb-true h.grantee job to ∙ sym (eqb-true h.id.job.0 job own))))
          | false ↦ λ _. and_no (is_foreign job h)
        ] refl)

    response_by : (grants : List StandingGrant) → AreGrants grants → filter is_to (grants_ended test grants) ≡ grants_sorted (filter (ends_with test (foreign_grants job grants)) (filter is_to (foreign_grants job grants)))
    response_by grants table =
        let goes : StandingGrant → Bool = ends_with test grants in
        let few = foreign_grants job grants in
        ap (filter is_to) (ends_along grants table test).response
        ∙ filter_sorted is_to (filter goes grants)
        ∙ ap grants_sorted (filter_swap is_to goes grants ∙ ap (filter goes) (sym (to_foreign grants table))
        ∙ filter_same goes (ends_with test few) (filter is_to few) (λ h at. goes_by grants h (stands_filtered h (is_foreign job) grants (stands_filtered h is_to few at).0).1))

    pub told_same : (a b : List StandingGrant) → AreGrants a → AreGrants b → foreign_grants job a ≡ foreign_grants job b → filter is_to (grants_ended test a) ≡ filter is_to (grants_ended test b)
    told_same a b ta tb same = response_by a ta ∙ ap (λ grants. grants_sorted (filter (ends_with test grants) (filter is_to grants))) same ∙ sym (response_by b tb)

    -- ---- if no foreign grant ends by itself

    none_end : ((h : StandingGrant) → is_foreign job h ≡ true → test h ≡ false) → (grants : List StandingGrant) (n : ℕ) (h : StandingGrant) → is_foreign job h ≡ true → ends_within n test (foreign_grants job grants) h ≡ false
    none_end stay grants zero h foreign = stay h foreign
    none_end stay grants (suc n) h foreign =
        let few = foreign_grants job grants in
        neither (test h) (list_any (λ b. is_child_of h b && ends_within n test few b) few) (stay h foreign)
        (any_none (λ b. is_child_of h b && ends_within n test few b) few (λ b at. ap (λ t. is_child_of h b && t) (none_end stay grants n b (stands_filtered b (is_foreign job) grants at).1) ∙ and_no (is_child_of h b)))

    -- .. they all stay, and the job is notified of nothing
    pub all_left : ((h : StandingGrant) → is_foreign job h ≡ true → test h ≡ false) → (grants : List StandingGrant) → AreGrants grants → foreign_grants job (grants_left test grants) ≡ foreign_grants job grants
    all_left stay grants table =
        left_by grants table
        ∙ filter_same (λ h. not (ends_with test (foreign_grants job grants) h)) (λ h. true) (foreign_grants job grants) (λ h at. ap not (none_end stay grants greatest_depth h (stands_filtered h (is_foreign job) grants at).1))
        ∙ filter_true (foreign_grants job grants)

    pub none_told : ((h : StandingGrant) → is_foreign job h ≡ true → test h ≡ false) → (grants : List StandingGrant) → AreGrants grants → filter is_to (grants_ended test grants) ≡ []
    none_told stay grants table =
        let few = foreign_grants job grants in
        response_by grants table
        ∙ ap grants_sorted (filter_same (ends_with test few) (λ h. false) (filter is_to few) (λ h at. none_end stay grants greatest_depth h (stands_filtered h (is_foreign job) grants (stands_filtered h is_to few at).0).1) ∙ filter_false (filter is_to few))
