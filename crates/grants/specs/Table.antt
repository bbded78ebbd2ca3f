-- A node's standing grants: what a Grant is refused for, which grants end, and what is so of every table.
use Rattle.std.specs.Prelude.{◌≡◌, ℕ, ◌+◌, ◌≤◌, ◌==◌, nat_le, Bool, true, not, ◌&&◌, ◌||◌, if◌then◌else◌, List, [], ◌∷◌, ◌++◌, length, filter, Option, Some, None}
use Rattle.std.specs.List.{list_any}
use Rattle.obj_id.specs.declared.ids.ObjectId.{ObjectId}
use Rattle.obj_id.specs.declared.refusals.Refusal.{Refusal}
use Rattle.obj_id.specs.declared.refusals.Refusal.TheVariants.{BadId, NotGranted, Exists, TooMany}
use Rattle.std.specs.Ordering.{is_lt}
use Rattle.obj_id.specs.Ids.{id_cmp, same_id}
use Rattle.private_store.specs.rules.Limits.{most_grants, greatest_depth}
use Rattle.private_store.specs.rules.Grants.{StandingGrant, same_grant, ground, is_child_of, ended_from, is_withdrawn, is_of_task, is_given_by}
use Rattle.grants.specs.declared.endings.Ending.{Ending}
use Rattle.grants.specs.declared.endings.Ending.TheVariants.{Withdrawn, OfObject, OfTask, GivenBy}

-- ---- what is seen

-- a grant of the object to the job
abbrev pub shows : ObjectId → ℕ → StandingGrant → Bool
shows id job grant = same_id id grant.id && grant.grantee == job

-- a grant of the object from its own job
abbrev pub is_first : ObjectId → StandingGrant → Bool
is_first id grant = same_id id grant.id && grant.grantor == id.job.0

-- the grants that the job gave, oldest first
abbrev pub given_by : ℕ → List StandingGrant → List StandingGrant
given_by job grants = filter (is_given_by job) grants

-- the grants to the job, oldest first
abbrev pub given_to : ℕ → List StandingGrant → List StandingGrant
given_to job grants = filter (λ grant. grant.grantee == job) grants

-- the first grant of each object, by rising id: the grant has its place unless an older one of the object is there
abbrev pub with_seen : StandingGrant → List StandingGrant → List StandingGrant
with_seen grant [] = grant ∷ []
with_seen grant (older ∷ grants) =
    if same_id older.id grant.id then older ∷ grants else
    (if is_lt (id_cmp older.id grant.id) then older ∷ with_seen grant grants else grant ∷ older ∷ grants)

abbrev pub seen_from : List StandingGrant → List StandingGrant → List StandingGrant
seen_from seen [] = seen
seen_from seen (grant ∷ grants) = seen_from (with_seen grant seen) grants

-- of each object that the job sees the oldest grant, by rising id
abbrev pub seen_list : ℕ → List StandingGrant → List StandingGrant
seen_list job grants = seen_from [] (given_to job grants)

-- ---- granting

-- no job, the grantor itself, or the job whose object it is
abbrev pub is_no_grantee : ObjectId → ℕ → ℕ → Bool
is_no_grantee id grantor grantee = grantee == 0 || grantee == grantor || grantee == id.job.0

-- why no grant can hang at this depth: it stands, or a limit is reached
abbrev pub limits_check : List StandingGrant → ℕ → ObjectId → ℕ → ℕ → Option Refusal
limits_check grants grantor id grantee depth =
    if list_any (is_withdrawn grantor id grantee) grants then Some Exists else
    (if nat_le greatest_depth depth || nat_le most_grants (length (given_by grantor grants)) then Some TooMany else None)

-- another job's object has to be seen
abbrev pub hung_check : List StandingGrant → ℕ → ObjectId → ℕ → Option StandingGrant → Option Refusal
hung_check grants grantor id grantee None = Some NotGranted
hung_check grants grantor id grantee (Some grant) = limits_check grants grantor id grantee grant.depth

-- why a Grant is refused
abbrev pub grant_check : List StandingGrant → ℕ → ObjectId → ℕ → Option Refusal
grant_check grants grantor id grantee =
    if is_no_grantee id grantor grantee then Some BadId else
    (if id.job.0 == grantor then limits_check grants grantor id grantee 0 else hung_check grants grantor id grantee (ground grants id grantor))

-- ---- ending

-- the grants that end of their grantor's own accord
abbrev pub is_ended_by : Ending → StandingGrant → Bool
is_ended_by (Withdrawn grantor id grantee) = is_withdrawn grantor.0 id grantee.0
is_ended_by (OfObject id) = λ grant. same_id id grant.id
is_ended_by (OfTask job task) = is_of_task job.0 task
is_ended_by (GivenBy job) = is_given_by job.0

-- the grants that end where those that pass the test end, oldest first
abbrev pub ends_found : (StandingGrant → Bool) → List StandingGrant → List StandingGrant
ends_found test grants = ended_from test [] grants

-- they are those that were found in these grants
pub record AreFoundIn (grants ends : List StandingGrant) : Type 0 where
  pub test : StandingGrant → Bool
  pub found : ends ≡ ends_found test grants

-- why a withdrawal is refused: there is no such grant
abbrev pub withdraw_check : List StandingGrant → ℕ → ObjectId → ℕ → Option Refusal
withdraw_check grants grantor id grantee = if list_any (is_withdrawn grantor id grantee) grants then None else Some NotGranted

-- ---- what is so of every table

-- a grant of depth 1 is from the object's own job and hangs on nothing; any other hangs on an older one, one deeper
abbrev pub hangs_right : List StandingGrant → StandingGrant → Option ℕ → Bool
hangs_right before grant None = grant.grantor == grant.id.job.0 && grant.depth == 1
hangs_right before grant (Some _) =
    not (grant.grantor == grant.id.job.0) && nat_le grant.depth greatest_depth && list_any (λ below. is_child_of grant below && grant.depth == below.depth + 1) before

abbrev pub is_hung : List StandingGrant → StandingGrant → Bool
is_hung before grant = hangs_right before grant grant.parent

-- whether a grant may stand after the older ones
abbrev pub grant_may_stand : List StandingGrant → StandingGrant → Bool
grant_may_stand before grant =
    not (is_no_grantee grant.id grant.grantor grant.grantee) && not (list_any (same_grant grant) before) && is_hung before grant

abbrev pub all_stand : List StandingGrant → List StandingGrant → Bool
all_stand before [] = true
all_stand before (grant ∷ grants) = grant_may_stand before grant && all_stand (before ++ grant ∷ []) grants

pub record AreGrants (grants : List StandingGrant) : Type 0 where
  pub stand : all_stand [] grants ≡ true
  pub few : (grantor : ℕ) → length (given_by grantor grants) ≤ most_grants
