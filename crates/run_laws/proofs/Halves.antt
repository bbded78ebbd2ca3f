-- What a job's store has of a table of grants: the half that the job gave, and the half that it was given.
use Rattle.std.proofs.Common.{◌≡◌, ◌≢◌, ℕ, Bool, true, false, cond, ◌==◌, List, [], ◌∷◌, ◌++◌, map, filter, Option, Some, None, refl, sym, ap, subst, ◌∙◌}
use Rattle.std.specs.Option.{option_map_or}
use Rattle.std.proofs.lemmas.List.{map-append, append-nil}
use Rattle.std.proofs.lemmas.List.Elements.{filter-append}
use Rattle.obj_id.specs.declared.ids.ObjectId.{ObjectId}
use Rattle.obj_id.specs.Ids.{same_id}
use Rattle.store_facts.proofs.Ids.{same_id-equal}
use Rattle.private_store.specs.rules.Tables.{at}
use Rattle.private_store.specs.rules.Shape.{Shape, Seen, GrantGiven, GrantTaken}
use Rattle.private_store.specs.rules.Events.{grants_of, received}
use Rattle.private_store.specs.rules.Grants.{StandingGrant, is_given_by}
use Rattle.store_facts.proofs.Rows.{at-put}
use Rattle.store_facts.proofs.Tests.{none_some, some_value}
use Rattle.grants.specs.Table.{shows, given_by}
use Rattle.grants.specs.Private.{as_given, as_taken, seen_by, HasGrants}
use Rattle.grants.proofs.ForCallers.{seen_grants, grants_seen}

-- what the job gave, oldest first
abbrev pub given_half : ℕ → List StandingGrant → List GrantGiven
given_half job grants = map as_given (given_by job grants)

-- what the job was given of one object, oldest first
abbrev pub taken_half : ℕ → ObjectId → List StandingGrant → List GrantTaken
taken_half job id grants = map as_taken (filter (shows id job) grants)

-- every object in the store's table has a grant
abbrev pub AreKnown : Shape → Type 0
AreKnown store = (q : ObjectId) (seen : Seen) → at store.received q ≡ Some seen → seen.grants ≢ []

-- the store of the job has both halves, whatever lengths it knows
pub record HasHalves (j : ℕ) (grants : List StandingGrant) (store : Shape) : Type 0 where
  pub job : store.job ≡ j
  pub given : store.given ≡ given_half j grants
  pub taken : (id : ObjectId) → grants_of store id ≡ taken_half j id grants
  pub known : AreKnown store

-- ---- halves and the grants of the table

-- an object with its grants, or none
by_seen : (n : ℕ) (o : Option Seen) → ((seen : Seen) → o ≡ Some seen → n ≡ seen.length) → ((seen : Seen) → o ≡ Some seen → seen.grants ≢ []) → o ≡ seen_by n (option_map_or (λ seen. seen.grants) o [])
by_seen n None long known = refl
by_seen n (Some seen) long known = by_grants seen.grants refl
  where
    by_grants : (grants : List GrantTaken) → seen.grants ≡ grants → Some seen ≡ seen_by n grants
    by_grants [] e = absurd (known seen refl e)
    by_grants (grant ∷ grants) e = λ i. Some (record { length = sym (long seen refl) i; grants = e i })

-- the store knows its objects by these lengths
abbrev pub AreLengths : (ObjectId → ℕ) → Shape → Type 0
AreLengths lengths store = (id : ObjectId) (seen : Seen) → at store.received id ≡ Some seen → lengths id ≡ seen.length

-- those that it has itself, and 0 for any other object
abbrev pub lengths_in : Shape → ObjectId → ℕ
lengths_in store id = option_map_or (λ seen. seen.length) (at store.received id) 0

pub its_lengths : (store : Shape) → AreLengths (lengths_in store) store
its_lengths store id seen e = ap (λ o. option_map_or (λ seen. seen.length) o 0) e

-- by the halves the store sees what the table shows
pub taken_rows : (lengths : ObjectId → ℕ) (j : ℕ) (grants : List StandingGrant) (store : Shape) → AreLengths lengths store → store.job ≡ j → ((id : ObjectId) → grants_of store id ≡ taken_half j id grants) → AreKnown store
    → (id : ObjectId) → at store.received id ≡ seen_by (lengths id) (map as_taken (filter (shows id store.job) grants))
taken_rows lengths j grants store long job taken known id =
    by_seen (lengths id) (at store.received id) (long id) (known id)
    ∙ ap (seen_by (lengths id)) (taken id ∙ ap (λ i. taken_half i id grants) (sym job))

pub halves_have : (lengths : ObjectId → ℕ) (j : ℕ) (grants : List StandingGrant) (store : Shape) → AreLengths lengths store → HasHalves j grants store → HasGrants lengths grants store
halves_have lengths j grants store long h = record { given = h.given ∙ ap (λ i. given_half i grants) (sym h.job); taken = taken_rows lengths j grants store long h.job h.taken h.known }

some_grants : (n : ℕ) (grants : List GrantTaken) (seen : Seen) → seen_by n grants ≡ Some seen → seen.grants ≢ []
some_grants n [] seen e = none_some seen e
some_grants n (grant ∷ grants) seen e = subst (λ s. s.grants ≢ []) (some_value (record { length = n; grants = grant ∷ grants }) seen e) (λ z. cc)

pub grants_halve : (lengths : ObjectId → ℕ) (j : ℕ) (grants : List StandingGrant) (store : Shape) → store.job ≡ j → HasGrants lengths grants store → HasHalves j grants store
grants_halve lengths j grants store job h = record {
  job = job;
  given = h.given ∙ ap (λ i. given_half i grants) job;
  taken = λ id. ap seen_grants (h.taken id) ∙ grants_seen (lengths id) (map as_taken (filter (shows id store.job) grants)) ∙ ap (λ i. taken_half i id grants) job;
  known = λ id seen e. some_grants (lengths id) (map as_taken (filter (shows id store.job) grants)) seen (sym (h.taken id) ∙ e);
}

-- ---- one grant more

module _ (j : ℕ) (grants : List StandingGrant) (grant : StandingGrant) where
  pub given_more : given_half j (grants ++ grant ∷ []) ≡ given_half j grants ++ cond (grant.grantor == j) (as_given grant ∷ []) []
  given_more = ap (map as_given) (filter-append (is_given_by j) grants (grant ∷ [])) ∙ map-append as_given (given_by j grants) (cond (grant.grantor == j) (grant ∷ []) []) ∙ by_grantor (grant.grantor == j)
    where
      by_grantor : (t : Bool) → given_half j grants ++ map as_given (cond t (grant ∷ []) []) ≡ given_half j grants ++ cond t (as_given grant ∷ []) []
      by_grantor true = refl
      by_grantor false = refl

  pub taken_more : (id : ObjectId) → taken_half j id (grants ++ grant ∷ []) ≡ taken_half j id grants ++ cond (shows id j grant) (as_taken grant ∷ []) []
  taken_more id = ap (map as_taken) (filter-append (shows id j) grants (grant ∷ [])) ∙ map-append as_taken (filter (shows id j) grants) (cond (shows id j grant) (grant ∷ []) []) ∙ by_grantee (shows id j grant)
    where
      by_grantee : (t : Bool) → taken_half j id grants ++ map as_taken (cond t (grant ∷ []) []) ≡ taken_half j id grants ++ cond t (as_taken grant ∷ []) []
      by_grantee true = refl
      by_grantee false = refl

-- ---- a note of a grant

nonempty_push : {X : Type 0} (xs : List X) (x : X) → xs ++ x ∷ [] ≢ []
nonempty_push [] x = λ e. cc
nonempty_push (y ∷ xs) x = λ e. cc

-- the store has one grant more, of that object
pub received_grants : (store : Shape) (id : ObjectId) (n grantor depth : ℕ) (q : ObjectId)
    → grants_of (received store id n grantor depth).shape q ≡ grants_of store q ++ cond (same_id q id) (record { grantor = grantor; depth = depth } ∷ []) []
received_grants store id n grantor depth q =
    let seen : Seen = record { length = n; grants = grants_of store id ++ record { grantor = grantor; depth = depth } ∷ [] } in
    ap (λ o. option_map_or (λ s. s.grants) o []) (at-put store.received id seen q)
    ∙ elim (same_id q id) as (λ t. same_id q id ≡ t → option_map_or (λ s. s.grants) (cond t (Some seen) (at store.received q)) [] ≡ grants_of store q ++ cond t (record { grantor = grantor; depth = depth } ∷ []) []) [
      | true ↦ λ t. ap (λ x. grants_of store x ++ record { grantor = grantor; depth = depth } ∷ []) (sym (same_id-equal q id t))
      | false ↦ λ t. sym (append-nil (grants_of store q))
    ] refl

pub received_known : (store : Shape) (id : ObjectId) (n grantor depth : ℕ) → ((q : ObjectId) (seen : Seen) → at store.received q ≡ Some seen → seen.grants ≢ [])
    → (q : ObjectId) (seen : Seen) → at (received store id n grantor depth).shape.received q ≡ Some seen → seen.grants ≢ []
received_known store id n grantor depth known q seen e =
    let new : Seen = record { length = n; grants = grants_of store id ++ record { grantor = grantor; depth = depth } ∷ [] } in
    elim (same_id q id) as (λ t. cond t (Some new) (at store.received q) ≡ Some seen → seen.grants ≢ []) [
      | true ↦ λ f. subst (λ s. s.grants ≢ []) (some_value new seen f) (nonempty_push (grants_of store id) (record { grantor = grantor; depth = depth }))
      | false ↦ λ f. known q seen f
    ] (sym (at-put store.received id new q) ∙ e)
