-- A withdrawal of an object that isn't the job's own is answered by the table's grants of such objects, and so the same in
-- both histories.
use Rattle.std.proofs.Common.{◌≡◌, ℕ, Bool, true, false, not, cond, ◌==◌, ◌&&◌, ◌||◌, List, [], ◌∷◌, map, filter, slice_get, None, Some, refl, sym, ap, ◌∙◌}
use Rattle.std.specs.Prelude.{if◌then◌else◌}
use Rattle.std.specs.List.{list_any}
use Rattle.obj_id.specs.declared.ids.JobNo.{JobNo}
use Rattle.obj_id.specs.declared.ids.ObjectId.{ObjectId}
use Rattle.obj_id.specs.declared.commands.Command.TheVariants as command
use Rattle.obj_id.specs.declared.commands.Reply.{Reply}
use Rattle.obj_id.specs.declared.commands.Reply.TheVariants as reply
use Rattle.obj_id.specs.declared.refusals.Refusal.TheVariants.{NotAdmitted, NotGranted}
use Rattle.obj_id.specs.Ids.{same_id}
use Rattle.store_facts.proofs.Ids.{same_id-equal}
use Rattle.private_store.specs.declared.inputs.Input.TheVariants as input
use Rattle.private_store.specs.declared.schedules.Traced.{Traced}
use Rattle.private_store.specs.rules.Shape.{GrantGiven}
use Rattle.private_store.specs.rules.Change.{done, settled, checked, erasing}
use Rattle.private_store.specs.rules.Commands.{has_given, withdraw}
use Rattle.private_store.specs.rules.Events.{is_live}
use Rattle.private_store.specs.rules.Contents.{whole_reply}
use Rattle.private_store.specs.rules.Private.{Store, view_of, private_outcome}
use Rattle.private_store.specs.rules.Grants.{StandingGrant, is_given_by}
use Rattle.private_store.specs.rules.Trace.{grants_at, cluster_until}
use Rattle.grants.specs.Table.{given_by}
use Rattle.grants.specs.Private.{as_given}
use Rattle.grants.proofs.ForCallers.{any_filter}
use Rattle.run_laws.proofs.WhatEnds.{and_no, any_same}
use Rattle.run_laws.proofs.Moving.{Stand}
use Rattle.run_laws.proofs.OwnClusters.{part}
use Rattle.run_laws.proofs.OtherTables.{is_foreign, foreign_grants}

-- the answer, by whether the job lives and whether it gave the grant
abbrev response_by : Bool → Bool → Reply (List ℕ)
response_by lives gave = if not lives then reply.Refused NotAdmitted else (if not gave then reply.Refused NotGranted else reply.Ok)

withdraw_told : (m : ℕ) (s : Store) (session : ℕ) (id : ObjectId) (target : JobNo) → (private_outcome m s (input.Call session (command.Withdraw id target))).reply ≡ response_by (is_live s.shape) (has_given s.shape id target.0)
unfolding checked
withdraw_told m s session id target =
    elim (is_live s.shape) as (λ l. whole_reply (view_of s) (input.Call session (command.Withdraw id target)) (cond (not l) (record { shape = s.shape; reply = reply.Refused NotAdmitted; sent = []; used = None; erased = [] }) (erasing s.shape (withdraw s.shape id target.0))).reply ≡ response_by l (has_given s.shape id target.0)) [
      | true ↦ elim (has_given s.shape id target.0) as (λ g. whole_reply (view_of s) (input.Call session (command.Withdraw id target)) (cond (not g) (record { shape = s.shape; reply = reply.Refused NotGranted; sent = []; used = None; erased = [] }) (done (settled (record s.shape { given = filter (λ grant. not (same_id id grant.id && grant.target == target.0)) s.shape.given }) id))).reply ≡ response_by true g) [
        | true ↦ refl
        | false ↦ refl
      ]
      | false ↦ refl
    ]

any_given : (test : StandingGrant → Bool) (other : GrantGiven → Bool) → ((h : StandingGrant) → other (as_given h) ≡ test h) → (grants : List StandingGrant) → list_any other (map as_given grants) ≡ list_any test grants
any_given test other same [] = refl
any_given test other same (h ∷ grants) = λ i. same h i || any_given test other same grants i

module _ (j : ℕ) (k : ℕ) (id : ObjectId) (target : ℕ) (foreign : (id.job.0 == j) ≡ false) where
  abbrev is_that : StandingGrant → Bool
  is_that h = is_given_by k h && (same_id id h.id && h.grantee == target)

  -- only the foreign grants tell
  any_that : (grants : List StandingGrant) → list_any is_that grants ≡ list_any is_that (foreign_grants j grants)
  any_that grants =
      any_same is_that (λ h. is_foreign j h && is_that h) grants (λ h _.
      elim (same_id id h.id) as (λ t. same_id id h.id ≡ t → (is_given_by k h && (t && h.grantee == target)) ≡ (is_foreign j h && (is_given_by k h && (t && h.grantee == target)))) [
        | true ↦ λ t. sym (ap (λ b. not b && (is_given_by k h && h.grantee == target)) (ap (λ x. x.job.0 == j) (sym (same_id-equal id h.id t)) ∙ foreign))
        | false ↦ λ _. and_no (is_given_by k h) ∙ sym (ap (λ b. is_foreign j h && b) (and_no (is_given_by k h)) ∙ and_no (is_foreign j h))
      ] refl)
      ∙ sym (any_filter is_that (is_foreign j) grants)

  gave_by : (nodes m : ℕ) (before : List Traced) (s : Store) → Stand nodes before → slice_get (cluster_until nodes k before).stores m ≡ Some s → has_given s.shape id target ≡ list_any is_that (foreign_grants j (grants_at m before))
  gave_by nodes m before s stand at =
      ap (list_any (λ grant. same_id id grant.id && grant.target == target)) (stand.fit m k s at).given
      ∙ any_given (λ h. same_id id h.id && h.grantee == target) (λ grant. same_id id grant.id && grant.target == target) (λ h. refl) (given_by k (grants_at m before))
      ∙ any_filter (λ h. same_id id h.id && h.grantee == target) (is_given_by k) (grants_at m before)
      ∙ any_that (grants_at m before)

-- two stores with the same own part, by tables with the same foreign grants
pub withdraw_same : (nodes j m session : ℕ) (k : JobNo) (id : ObjectId) (target : JobNo) → (id.job.0 == j) ≡ false → (a b : List Traced) → Stand nodes a → Stand nodes b → foreign_grants j (grants_at m a) ≡ foreign_grants j (grants_at m b)
    → (s t : Store) → slice_get (cluster_until nodes k.0 a).stores m ≡ Some s → slice_get (cluster_until nodes k.0 b).stores m ≡ Some t → part s ≡ part t
    → (private_outcome m s (input.Call session (command.Withdraw id target))).reply ≡ (private_outcome m t (input.Call session (command.Withdraw id target))).reply
withdraw_same nodes j m session k id target foreign a b sa sb grants s t e f parts =
    withdraw_told m s session id target
    ∙ (λ i. response_by (is_live (parts i).shape) (gave i))
    ∙ sym (withdraw_told m t session id target)
  where
    gave : has_given s.shape id target.0 ≡ has_given t.shape id target.0
    gave = gave_by j k.0 id target.0 foreign nodes m a s sa e ∙ ap (list_any (is_that j k.0 id target.0 foreign)) grants ∙ sym (gave_by j k.0 id target.0 foreign nodes m b t sb f)
