-- A job has its halves of what is left of a table, once its store lost the grants that the job ended itself and was notified of
-- all others to the job that ended.
use Rattle.std.proofs.Common.{◌≡◌, ℕ, Bool, not, ◌==◌, List, [], ◌∷◌, map, filter, None, Some, refl, sym, ap, subst, ◌∙◌, cond, true, false}
use Rattle.std.specs.List.{list_any}
use Rattle.std.specs.Option.{option_map_or}
use Rattle.obj_id.specs.declared.ids.ObjectId.{ObjectId}
use Rattle.private_store.specs.declared.inputs.Input.{Input}
use Rattle.private_store.specs.declared.inputs.Input.TheVariants as input
use Rattle.private_store.specs.rules.Tables.{at}
use Rattle.private_store.specs.rules.Shape.{Shape}
use Rattle.private_store.specs.rules.Events.{grants_of, withdrawn, is_the_grant, grant_ended}
use Rattle.private_store.specs.rules.Private.{Store, private_step, store_from}
use Rattle.private_store.specs.rules.Grants.{StandingGrant, grants_ended, grants_left}
use Rattle.grants.specs.Table.{AreGrants, given_by}
use Rattle.grants.specs.Private.{as_given, HasGrants, after_ends}
use Rattle.grants.proofs.ForCallers.{ends_alike}
use Rattle.run_laws.proofs.Halves.{taken_half, AreKnown, HasHalves, lengths_in, its_lengths, taken_rows, grants_halve}

-- what the grantee of a grant is notified of when it ends
abbrev pub end_told : StandingGrant → Input
end_told grant = input.Withdrawn grant.id (record { 0 = grant.grantor }) grant.depth

-- the grants to the job that end, in the order in which they are announced
abbrev pub told_to : ℕ → (StandingGrant → Bool) → List StandingGrant → List StandingGrant
told_to j test grants = filter (λ h. h.grantee == j) (grants_ended test grants)

-- the inputs leave the store that the ends leave
store_told : (node : ℕ) (store : Store) (ended : List StandingGrant) → (store_from node store (map end_told ended)).shape ≡ after_ends store.shape ended
store_told node store [] = refl
store_told node store (grant ∷ ended) = store_told node (private_step node store (end_told grant)) ended

same_job : (store : Shape) (id : ObjectId) (grantor depth : ℕ) → (withdrawn store id grantor depth).shape.job ≡ store.job
same_job store id grantor depth =
    elim (at store.received id) as (λ o. (option_map_or (λ seen. cond (list_any (is_the_grant grantor depth) seen.grants) (grant_ended store id grantor depth seen) store) o store).job ≡ store.job) [
      | None ↦ refl
      | Some seen ↦ elim (list_any (is_the_grant grantor depth) seen.grants) as (λ t. (cond t (grant_ended store id grantor depth seen) store).job ≡ store.job) [ true ↦ refl | false ↦ refl ]
    ]

told_job : (store : Shape) (ended : List StandingGrant) → (after_ends store ended).job ≡ store.job
told_job store [] = refl
told_job store (grant ∷ ended) = told_job (withdrawn store grant.id grant.grantor grant.depth).shape ended ∙ same_job store grant.id grant.grantor grant.depth

module _ (j : ℕ) (grants : List StandingGrant) (table : AreGrants grants) (test : StandingGrant → Bool) where
  abbrev rest : ℕ → List StandingGrant
  rest job = filter (λ h. not (test h)) (given_by job grants)

  pub ended_fits : (node : ℕ) (store : Store) → store.shape.job ≡ j → store.shape.given ≡ map as_given (rest j) → ((id : ObjectId) → grants_of store.shape id ≡ taken_half j id grants) → AreKnown store.shape
      → HasHalves j (grants_left test grants) (store_from node store (map end_told (told_to j test grants))).shape
  ended_fits node store job given taken known =
      let shape = store.shape in
      let after = ends_alike (lengths_in shape) grants table test in
      subst (HasHalves j (grants_left test grants)) (sym (store_told node store (told_to j test grants)))
      (grants_halve (lengths_in shape) j (grants_left test grants) (after_ends shape (told_to j test grants)) (told_job shape (told_to j test grants) ∙ job)
      (subst (λ i. HasGrants (lengths_in shape) (grants_left test grants) (after_ends shape (told_to i test grants))) job
      (after.of_each shape (record { given = given ∙ ap (λ i. map as_given (rest i)) (sym job); taken = taken_rows (lengths_in shape) j grants shape (its_lengths shape) job taken known }))))
