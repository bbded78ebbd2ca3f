-- What a job's own store has of a node's standing grants, and what it says by them.
use Rattle.std.specs.Prelude.{◌≡◌, ℕ, ◌==◌, Bool, true, false, not, List, [], ◌∷◌, ◌++◌, map, filter, fold, Option, Some, None}
use Rattle.std.specs.Option.{option_map_or}
use Rattle.obj_id.specs.declared.ids.ObjectId.{ObjectId}
use Rattle.obj_id.specs.declared.ids.TaskNo.{TaskNo}
use Rattle.obj_id.specs.declared.refusals.Refusal.{Refusal}
use Rattle.obj_id.specs.declared.refusals.Refusal.TheVariants.{BadId, Gone, Absent, NotResident}
use Rattle.private_store.specs.rules.Shape.{Shape, Change, GrantGiven, GrantTaken, Seen}
use Rattle.private_store.specs.rules.Tables.{ById, at, with_entry}
use Rattle.private_store.specs.rules.Change.{refused, done, checked, needing, has_ended, settled}
use Rattle.private_store.specs.rules.Copies.{visible}
use Rattle.private_store.specs.rules.Commands.{is_sealed_primary, gives, grant, withdraw, task_ended}
use Rattle.private_store.specs.rules.Events.{received, over, withdrawn}
use Rattle.private_store.specs.rules.Grants.{StandingGrant, new_grant, with_grant, grants_ended, grants_left, is_withdrawn, is_of_task, is_given_by}
use Rattle.grants.specs.Table.{shows, given_by, given_to, is_no_grantee, limits_check, grant_check, withdraw_check}

-- a grant as its grantor's store has it
abbrev pub as_given : StandingGrant → GrantGiven
as_given a_grant = record { id = a_grant.id; target = a_grant.grantee; parent = a_grant.parent }

-- and as its grantee's has it
abbrev pub as_taken : StandingGrant → GrantTaken
as_taken a_grant = record { grantor = a_grant.grantor; depth = a_grant.depth }

-- an object of this length by the grants of it: it isn't seen if there are none
abbrev pub seen_by : ℕ → List GrantTaken → Option Seen
seen_by n [] = None
seen_by n (a_grant ∷ grants) = Some (record { length = n; grants = a_grant ∷ grants })

-- the store has the grants that its job gave, and of each object, by its length, those that the job was given, oldest
-- first
pub record HasGrants (lengths : ObjectId → ℕ) (grants : List StandingGrant) (store : Shape) : Type 0 where
  pub given : store.given ≡ map as_given (given_by store.job grants)
  pub taken : (id : ObjectId) → at store.received id ≡ seen_by (lengths id) (map as_taken (filter (shows id store.job) grants))

-- one grant more of an object of its length
abbrev pub with_taken : (ObjectId → ℕ) → ById Seen → StandingGrant → ById Seen
with_taken lengths table a_grant =
    with_entry table a_grant.id (record { length = lengths a_grant.id; grants = option_map_or (λ seen. seen.grants) (at table a_grant.id) [] ++ as_taken a_grant ∷ [] })

-- what the job was given, put grant by grant into a table in order of id
abbrev pub taken_by : (ObjectId → ℕ) → ℕ → List StandingGrant → ById Seen
taken_by lengths job grants = fold (with_taken lengths) [] (given_to job grants)

-- ---- what is refused

-- the refusal, or the change if there is none
abbrev pub unless : Shape → Option Refusal → Change → Change
unless store check change = option_map_or (refused store) check change

-- the store without the grant that is withdrawn
abbrev pub without_given : Shape → List StandingGrant → ObjectId → ℕ → Shape
without_given store grants id target =
    record store { given = map as_given (given_by store.job (filter (λ a_grant. not (is_withdrawn store.job id target a_grant)) grants)) }

-- the store refuses what the table refuses, in the same order among its own checks
pub record RefusesAlike (grants : List StandingGrant) (store : Shape) : Type 0 where
  pub own : (id : ObjectId) (target : ℕ) → (id.job.0 == store.job) ≡ true → grant store id target
      ≡ checked store ((is_no_grantee id store.job target, BadId) ∷ (has_ended store id.task, Gone) ∷ [])
      (needing store (visible store id) Absent (λ copy.
      checked store ((not (is_sealed_primary copy), NotResident) ∷ [])
      (unless store (limits_check grants store.job id target 0) (gives store id target (new_grant grants id store.job target).parent))))
  pub foreign : (id : ObjectId) (target : ℕ) → (id.job.0 == store.job) ≡ false → grant store id target
      ≡ unless store (grant_check grants store.job id target) (gives store id target (new_grant grants id store.job target).parent)
  pub withdrawal : (id : ObjectId) (target : ℕ) → withdraw store id target
      ≡ unless store (withdraw_check grants store.job id target) (done (settled (without_given store grants id target) id))

-- ---- what a Grant leaves

-- the store of each job has the grants that stand after a Grant, if it had those that stood before: the grantor's by its
-- command, the grantee's by what it receives, and the others as they are
pub record GrantsAlike (lengths : ObjectId → ℕ) (grants : List StandingGrant) (grantor : ℕ) (id : ObjectId) (grantee : ℕ) : Type 0 where
  pub of_grantor : (store : Shape) → store.job ≡ grantor → HasGrants lengths grants store
      → HasGrants lengths (with_grant grants id grantor grantee) (gives store id grantee (new_grant grants id grantor grantee).parent).shape
  pub of_grantee : (store : Shape) → store.job ≡ grantee → HasGrants lengths grants store
      → HasGrants lengths (with_grant grants id grantor grantee) (received store id (lengths id) grantor (new_grant grants id grantor grantee).depth).shape
  pub of_other : (store : Shape) → (grantor == store.job) ≡ false → (grantee == store.job) ≡ false → HasGrants lengths grants store
      → HasGrants lengths (with_grant grants id grantor grantee) store

-- ---- what ends

-- the store has of the grants that its job gave those that don't end by themselves, and all that the job was given
pub record HasRest (lengths : ObjectId → ℕ) (test : StandingGrant → Bool) (grants : List StandingGrant) (store : Shape) : Type 0 where
  pub given : store.given ≡ map as_given (filter (λ a_grant. not (test a_grant)) (given_by store.job grants))
  pub taken : (id : ObjectId) → at store.received id ≡ seen_by (lengths id) (map as_taken (filter (shows id store.job) grants))

-- the grantor's store after its own command, and each other job's store
pub record RestAlike (lengths : ObjectId → ℕ) (grants : List StandingGrant) (store : Shape) : Type 0 where
  pub withdrawal : (id : ObjectId) (target : ℕ) → HasRest lengths (is_withdrawn store.job id target) grants (settled (without_given store grants id target) id)
  pub task : (task : TaskNo) → HasRest lengths (is_of_task store.job task) grants (task_ended store task)
  pub job : HasRest lengths (is_given_by store.job) grants (over store)
  pub other : (grantor : ℕ) (test : StandingGrant → Bool) → ((a_grant : StandingGrant) → test a_grant ≡ true → is_given_by grantor a_grant ≡ true) → (grantor == store.job) ≡ false → HasRest lengths test grants store

-- the store after it is notified that these grants have ended, one after another
abbrev pub after_ends : Shape → List StandingGrant → Shape
after_ends store ended = fold (λ after a_grant. (withdrawn after a_grant.id a_grant.grantor a_grant.depth).shape) store ended

-- the store of each job has the grants that are left, once it is notified of those to the job that have ended
pub record EndsAlike (lengths : ObjectId → ℕ) (test : StandingGrant → Bool) (grants : List StandingGrant) : Type 0 where
  pub of_each : (store : Shape) → HasRest lengths test grants store
      → HasGrants lengths (grants_left test grants) (after_ends store (filter (λ a_grant. a_grant.grantee == store.job) (grants_ended test grants)))
