-- An accepted Grant: the table accepts it too, and afterwards each job has its halves of the table with the new grant.
use Rattle.std.proofs.Common.{◌≡◌, ℕ, Bool, true, false, cond, ◌==◌, ◌&&◌, List, [], ◌∷◌, ◌++◌, Option, Some, None, refl, sym, ap, subst, ◌∙◌, eq-eqb}
use Rattle.std.specs.Prelude.{if◌then◌else◌}
use Rattle.std.specs.Option.{option_map_or}
use Rattle.std.proofs.lemmas.List.{append-nil}
use Rattle.obj_id.specs.declared.ids.ObjectId.{ObjectId}
use Rattle.obj_id.specs.declared.commands.Command.TheVariants as command
use Rattle.obj_id.specs.declared.commands.Reply.TheVariants as reply
use Rattle.obj_id.specs.declared.refusals.Refusal.{Refusal}
use Rattle.obj_id.specs.declared.refusals.Refusal.TheVariants.{BadId, Absent}
use Rattle.obj_id.specs.Ids.{same_id}
use Rattle.private_store.specs.declared.inputs.Judged.TheVariants as judged
use Rattle.private_store.specs.rules.Tables.{at}
use Rattle.private_store.specs.rules.Shape.{Shape, Change}
use Rattle.private_store.specs.rules.Change.{refused}
use Rattle.private_store.specs.rules.Copies.{visible}
use Rattle.private_store.specs.rules.Commands.{gives, grant}
use Rattle.private_store.specs.rules.Events.{received}
use Rattle.private_store.specs.rules.Grants.{StandingGrant, ground, new_grant}
use Rattle.private_store.specs.rules.Step.{step}
use Rattle.store_facts.proofs.Checks.{checked_past, checked_has, needing_has}
use Rattle.grants.specs.Table.{is_no_grantee, limits_check, hung_check, grant_check}
use Rattle.grants.specs.Private.{as_given, as_taken, HasGrants, unless}
use Rattle.grants.proofs.ForCallers.{refuses_alike, made_for}
use Rattle.run_laws.proofs.Halves.{given_half, taken_half, HasHalves, given_more, taken_more, received_grants, received_known}

-- ---- an accepted Grant

-- a job that has the grants of the table may give what the table lets it give, and gives that very grant
module _ (lengths : ObjectId → ℕ) (grants : List StandingGrant) (store : Shape) (has : HasGrants lengths grants store) (id : ObjectId) (target : ℕ) where
  abbrev a_grant : StandingGrant
  a_grant = new_grant grants id store.job target

  pub record IsGrant (after : Shape) : Type 0 where
    pub check : grant_check grants store.job id target ≡ None
    pub job : after.job ≡ store.job
    pub given : after.given ≡ store.given ++ as_given a_grant ∷ []
    pub received : after.received ≡ store.received

  abbrev Passes : Change → Type 0
  Passes c = c.reply ≡ reply.Ok → IsGrant c.shape

  no : (r : Refusal) → Passes (refused store r)
  no r e = cc

  given_unless : (check : Option Refusal) → (check ≡ None → grant_check grants store.job id target ≡ None) → Passes (unless store check (gives store id target a_grant.parent))
  given_unless (Some r) passes e = no r e
  given_unless None passes e =
      let made = made_for lengths grants store.job id target in
      record {
        check = passes refl;
        job = refl;
        given = λ i. store.given ++ record { id = sym made.0 i; target = sym made.2 i; parent = a_grant.parent } ∷ [];
        received = refl;
      }

  own_check : (id.job.0 == store.job) ≡ true → is_no_grantee id store.job target ≡ false → limits_check grants store.job id target 0 ≡ None → grant_check grants store.job id target ≡ None
  own_check mine grantee limits =
      ap (λ t. if t then Some BadId else (if id.job.0 == store.job then limits_check grants store.job id target 0 else hung_check grants store.job id target (ground grants id store.job))) grantee
      ∙ ap (λ t. if t then limits_check grants store.job id target 0 else hung_check grants store.job id target (ground grants id store.job)) mine
      ∙ limits

  granted : Passes (grant store id target)
  granted =
      let alike = refuses_alike lengths grants store has in
      elim (id.job.0 == store.job) as (λ b. (id.job.0 == store.job) ≡ b → Passes (grant store id target)) [
        | true ↦ λ mine. subst Passes (sym (alike.own id target mine))
            (checked_past Passes store _ _ no (λ fails.
            needing_has Passes store (visible store id) Absent _ (no Absent) (λ copy v.
            checked_has Passes store _ _ no (given_unless (limits_check grants store.job id target 0) (own_check mine fails.0)))))
        | false ↦ λ theirs. subst Passes (sym (alike.foreign id target theirs)) (given_unless (grant_check grants store.job id target) (λ e. e))
      ] refl

  pub granted_step : (order : List ObjectId) (session : ℕ) → Passes (step order store (judged.Call session (command.Grant id (record { 0 = target }))))
  granted_step order session = checked_has Passes store _ _ no granted

-- ---- the table with one grant more

and_no : (b : Bool) → (b && false) ≡ false
and_no true = refl
and_no false = refl

and_yes : (b : Bool) → (b && true) ≡ b
and_yes true = refl
and_yes false = refl

module _ (j : ℕ) (grants : List StandingGrant) (a_grant : StandingGrant) (store : Shape) (fits : HasHalves j grants store) where
  none_given : (a_grant.grantor == j) ≡ false → given_half j grants ≡ given_half j (grants ++ a_grant ∷ [])
  none_given other = sym (given_more j grants a_grant ∙ ap (λ t. given_half j grants ++ cond t (as_given a_grant ∷ []) []) other ∙ append-nil (given_half j grants))

  none_taken : (a_grant.grantee == j) ≡ false → (q : ObjectId) → taken_half j q grants ≡ taken_half j q (grants ++ a_grant ∷ [])
  none_taken other q =
      sym (taken_more j grants a_grant q ∙ ap (λ t. taken_half j q grants ++ cond t (as_taken a_grant ∷ []) []) (ap (λ t. same_id q a_grant.id && t) other ∙ and_no (same_id q a_grant.id)) ∙ append-nil (taken_half j q grants))

  -- of the grantor
  pub grantor_fits : (after : Shape) → a_grant.grantor ≡ j → (a_grant.grantee == j) ≡ false → after.job ≡ store.job → after.given ≡ store.given ++ as_given a_grant ∷ [] → after.received ≡ store.received → HasHalves j (grants ++ a_grant ∷ []) after
  grantor_fits after is other job given received = record {
    job = job ∙ fits.job;
    given = given ∙ ap (λ l. l ++ as_given a_grant ∷ []) fits.given ∙ sym (given_more j grants a_grant ∙ ap (λ t. given_half j grants ++ cond t (as_given a_grant ∷ []) []) (eq-eqb a_grant.grantor j is));
    taken = λ q. ap (λ r. option_map_or (λ seen. seen.grants) (at r q) []) received ∙ fits.taken q ∙ none_taken other q;
    known = λ q seen e. fits.known q seen (ap (λ r. at r q) (sym received) ∙ e);
  }

  -- of the grantee
  pub grantee_fits : (n : ℕ) → a_grant.grantee ≡ j → (a_grant.grantor == j) ≡ false → HasHalves j (grants ++ a_grant ∷ []) (received store a_grant.id n a_grant.grantor a_grant.depth).shape
  grantee_fits n is other = record {
    job = fits.job;
    given = fits.given ∙ none_given other;
    taken = λ q.
        received_grants store a_grant.id n a_grant.grantor a_grant.depth q
        ∙ ap (λ l. l ++ cond (same_id q a_grant.id) (as_taken a_grant ∷ []) []) (fits.taken q)
        ∙ ap (λ t. taken_half j q grants ++ cond t (as_taken a_grant ∷ []) []) (sym (ap (λ t. same_id q a_grant.id && t) (eq-eqb a_grant.grantee j is) ∙ and_yes (same_id q a_grant.id)))
        ∙ sym (taken_more j grants a_grant q);
    known = received_known store a_grant.id n a_grant.grantor a_grant.depth fits.known;
  }

  -- of any other job
  pub other_fits : (a_grant.grantor == j) ≡ false → (a_grant.grantee == j) ≡ false → HasHalves j (grants ++ a_grant ∷ []) store
  other_fits given taken = record { job = fits.job; given = fits.given ∙ none_given given; taken = λ q. fits.taken q ∙ none_taken taken q; known = fits.known }
