-- How an object comes to a job.
use Rattle.std.specs.Prelude.{◌≡◌, ℕ, zero, suc, ◌<◌, true, List, [], ◌∷◌, ◌⊎◌}
use Rattle.std.specs.List.{list_any}
use Rattle.obj_id.specs.declared.ids.ObjectId.{ObjectId}
use Rattle.obj_id.specs.Ids.{same_id}
use Rattle.private_store.specs.rules.Limits.{greatest_depth}
use Rattle.private_store.specs.rules.Grants.{StandingGrant}
use Rattle.grants.specs.Table.{shows}

-- one of the grants is such
abbrev pub one_is : (StandingGrant → Type 0) → List StandingGrant → Type 0
one_is P [] = ⊥
one_is P (grant ∷ grants) = P grant ⊎ one_is P grants

-- so many standing grants, each taken up by the grantor of the next, lead from the object's own job to the job
abbrev pub leads : List StandingGrant → ObjectId → ℕ → ℕ → Type 0
leads grants id zero job = id.job.0 ≡ job
leads grants id (suc n) job =
    one_is (λ grant. (same_id id grant.id ≡ true) × (grant.grantee ≡ job) × leads grants id n grant.grantor) grants

-- a chain of at least one grant, and of three at most
abbrev pub is_led_to : List StandingGrant → ObjectId → ℕ → Type 0
is_led_to grants id job = (n : ℕ) × (n < greatest_depth) × leads grants id (suc n) job

-- the job sees the object
abbrev pub sees : List StandingGrant → ObjectId → ℕ → Type 0
sees grants id job = list_any (shows id job) grants ≡ true
