-- What other jobs' grants are to a store: what a note leaves of it, and of the bytes that it was granted.
use Rattle.std.proofs.Common.{◌≡◌, ℕ, ◌==◌, Bool, true, false, not, cond, ◌&&◌, ◌||◌, List, [], ◌∷◌, filter, Option, Some, None, is_some, is_none, refl, sym, ap, ◌∙◌, T, eq-eqb}
use Rattle.std.specs.Option.{option_map_or}
use Rattle.std.specs.List.{list_any, list_all}
use Rattle.std.specs.FinMap.Entries.{is_sorted, is_sorted-put, is_sorted-where_key}
use Rattle.obj_id.specs.declared.ids.ObjectId.{ObjectId}
use Rattle.obj_id.specs.Ids.{id_cmp, same_id}
use Rattle.store_facts.proofs.Ids.{id_cmp-IsTotalOrder, same_id-equal}
use Rattle.private_store.specs.rules.Tables.{ById, at, with_entry, without_entry}
use Rattle.private_store.specs.rules.Shape.{Shape, GrantGiven, Seen}
use Rattle.private_store.specs.rules.Events.{is_the_grant, without_grant, is_child_of, grant_ended, withdrawn}
use Rattle.private_store.specs.rules.Grants.{StandingGrant}
use Rattle.private_store.specs.laws.Invariants.{has_grant}
use Rattle.store_facts.proofs.Rows.{at-put, at-drop}
use Rattle.store_facts.proofs.KeptLists.{any-filter-all, all-filter, all_weaker}
use Rattle.store_facts.proofs.Tests.{true_false}
use Rattle.grants.specs.Private.{after_ends}

-- the store with these grants given and these objects granted
abbrev pub with_grants : Shape → List GrantGiven → ById Seen → Shape
with_grants store given received = record store { given = given; received = received }

-- a grant of an object of the job hangs on nothing
abbrev pub is_well_hung : ℕ → GrantGiven → Bool
is_well_hung job grant = not (grant.id.job.0 == job) || is_none grant.parent

module _ (store : Shape) (id : ObjectId) (grantor depth : ℕ) where
  abbrev after : Option Seen → Shape
  after o = option_map_or (λ (seen : Seen). cond (list_any (is_the_grant grantor depth) seen.grants) (grant_ended store id grantor depth seen) store) o store

  -- what the end of a grant is to each fact of a store
  by_cases : (P : Shape → Type 0) → P store → ((seen : Seen) → at store.received id ≡ Some seen → P (grant_ended store id grantor depth seen)) → P (withdrawn store id grantor depth).shape
  by_cases P same ended = by (at store.received id) refl
    where
      by : (o : Option Seen) → at store.received id ≡ o → P (after o)
      by None none = same
      by (Some seen) found = elim (list_any (is_the_grant grantor depth) seen.grants) as (λ b. P (cond b (grant_ended store id grantor depth seen) store)) [ true ↦ ended seen found | false ↦ same ]

  -- nothing but grants and what was granted is another
  pub withdrawn-is : (withdrawn store id grantor depth).shape ≡ with_grants store (withdrawn store id grantor depth).shape.given (withdrawn store id grantor depth).shape.received
  withdrawn-is = by_cases (λ s. s ≡ with_grants store s.given s.received) refl (λ seen found. refl)

  -- no more is granted than before
  pub withdrawn-fewer : (q : ObjectId) → is_some (at (withdrawn store id grantor depth).shape.received q) ≡ true → is_some (at store.received q) ≡ true
  withdrawn-fewer q = by_cases (λ s. is_some (at s.received q) ≡ true → is_some (at store.received q) ≡ true) (λ there. there) (λ seen found. left seen found (without_grant seen grantor depth))
    where
      left : (seen : Seen) → at store.received id ≡ Some seen → (o : Option Seen) → is_some (at (option_map_or (λ left. with_entry store.received id left) o (without_entry store.received id)) q) ≡ true → is_some (at store.received q) ≡ true
      left seen found None there = gone (same_id id q) (sym (ap is_some (at-drop store.received id q)) ∙ there)
        where
          gone : (b : Bool) → is_some (cond (not b) (at store.received q) None) ≡ true → is_some (at store.received q) ≡ true
          gone true there = true_false there
          gone false there = there
      left seen found (Some rest) there = stays (same_id q id) refl (sym (ap is_some (at-put store.received id rest q)) ∙ there)
        where
          stays : (b : Bool) → same_id q id ≡ b → is_some (cond b (Some rest) (at store.received q)) ≡ true → is_some (at store.received q) ≡ true
          stays true same there = ap (λ i. is_some (at store.received i)) (same_id-equal q id same) ∙ ap is_some found
          stays false same there = there

  pub withdrawn-sorted : T (is_sorted id_cmp store.received) → T (is_sorted id_cmp (withdrawn store id grantor depth).shape.received)
  withdrawn-sorted sorted = by_cases (λ s. T (is_sorted id_cmp s.received)) sorted (λ seen found. left (without_grant seen grantor depth))
    where
      left : (o : Option Seen) → T (is_sorted id_cmp (option_map_or (λ left. with_entry store.received id left) o (without_entry store.received id)))
      left None = is_sorted-where_key id_cmp (λ k. not (same_id id k)) store.received sorted
      left (Some rest) = is_sorted-put id_cmp id_cmp-IsTotalOrder id rest store.received sorted

  -- a store that gave nothing has given nothing
  pub withdrawn-none : store.given ≡ [] → (withdrawn store id grantor depth).shape.given ≡ []
  withdrawn-none none = by_cases (λ s. s.given ≡ []) none (λ seen found. ap (filter (λ grant. not (is_child_of id grantor grant))) none)

  -- a grant of an own object hangs on nothing, and so stays
  pub withdrawn-own : (job : ℕ) → list_all (is_well_hung job) store.given ≡ true → (q : ObjectId) → q.job.0 ≡ job → has_grant (withdrawn store id grantor depth).shape.given q ≡ has_grant store.given q
  withdrawn-own job hung q own =
      by_cases (λ s. has_grant s.given q ≡ has_grant store.given q) refl (λ seen found.
      any-filter-all (λ grant. same_id q grant.id) (λ grant. not (is_child_of id grantor grant)) store.given
      (all_weaker (is_well_hung job) (λ grant. not (same_id q grant.id) || not (is_child_of id grantor grant)) store.given stays hung))
    where
      free : (o : Option ℕ) (b : Bool) → is_none o ≡ true → not (b && option_map_or (λ g. g == grantor) o false) ≡ true
      free None true t = refl
      free None false t = refl
      free (Some g) b t = true_false t

      stays : (grant : GrantGiven) → is_well_hung job grant ≡ true → not (same_id q grant.id) || not (is_child_of id grantor grant) ≡ true
      stays grant e = (elim (same_id q grant.id) as (λ b. same_id q grant.id ≡ b → not b || not (is_child_of id grantor grant) ≡ true) [
        | false ↦ λ _. refl
        | true ↦ λ same.
            let mine : (grant.id.job.0 == job) ≡ true = eq-eqb grant.id.job.0 job (sym (ap (λ (x : ObjectId). x.job.0) (same_id-equal q grant.id same)) ∙ own) in
            free grant.parent (same_id id grant.id) (sym (ap (λ b. not b || is_none grant.parent) mine) ∙ e)
      ]) refl

  pub withdrawn-hung : (job : ℕ) → list_all (is_well_hung job) store.given ≡ true → list_all (is_well_hung job) (withdrawn store id grantor depth).shape.given ≡ true
  withdrawn-hung job hung = by_cases (λ s. list_all (is_well_hung job) s.given ≡ true) hung (λ seen found. all-filter (is_well_hung job) (λ grant. not (is_child_of id grantor grant)) store.given hung)

-- ---- one note after another

pub response-is : (ends : List StandingGrant) (store : Shape) → after_ends store ends ≡ with_grants store (after_ends store ends).given (after_ends store ends).received
response-is [] store = refl
response-is (grant ∷ ends) store =
    let mid = (withdrawn store grant.id grant.grantor grant.depth).shape in
    response-is ends mid ∙ ap (λ s. with_grants s (after_ends mid ends).given (after_ends mid ends).received) (withdrawn-is store grant.id grant.grantor grant.depth)

pub response-sorted : (ends : List StandingGrant) (store : Shape) → T (is_sorted id_cmp store.received) → T (is_sorted id_cmp (after_ends store ends).received)
response-sorted [] store sorted = sorted
response-sorted (grant ∷ ends) store sorted = response-sorted ends (withdrawn store grant.id grant.grantor grant.depth).shape (withdrawn-sorted store grant.id grant.grantor grant.depth sorted)

pub response-none : (ends : List StandingGrant) (store : Shape) → store.given ≡ [] → (after_ends store ends).given ≡ []
response-none [] store none = none
response-none (grant ∷ ends) store none = response-none ends (withdrawn store grant.id grant.grantor grant.depth).shape (withdrawn-none store grant.id grant.grantor grant.depth none)

pub response-own : (ends : List StandingGrant) (store : Shape) (job : ℕ) → list_all (is_well_hung job) store.given ≡ true → (q : ObjectId) → q.job.0 ≡ job → has_grant (after_ends store ends).given q ≡ has_grant store.given q
response-own [] store job hung q own = refl
response-own (grant ∷ ends) store job hung q own =
    response-own ends (withdrawn store grant.id grant.grantor grant.depth).shape job (withdrawn-hung store grant.id grant.grantor grant.depth job hung) q own
    ∙ withdrawn-own store grant.id grant.grantor grant.depth job hung q own
