-- Grants: who may peek at which object, by whom, and on which grant that hangs. The table of a node's
-- standing grants is a list, oldest first.
use Rattle.std.specs.Prelude.{ℕ, ◌+◌, ◌==◌, Bool, false, not, ◌&&◌, ◌||◌, if◌then◌else◌, List, [], ◌∷◌, ◌++◌, filter, find, Option, Some, None}
use Rattle.std.specs.Option.{option_map_or}
use Rattle.std.specs.List.{list_any}
use Rattle.std.specs.Ordering.{nat_cmp, is_lt, ordering_then}
use Rattle.std.specs.declared.cmp.Ordering.{Ordering}
use Rattle.obj_id.specs.declared.ids.ObjectId.{ObjectId}
use Rattle.obj_id.specs.declared.ids.TaskNo.{TaskNo}
use Rattle.obj_id.specs.Ids.{id_cmp, same_id, same_task}

-- a grant, and the grantor of the grant that it hangs on
pub record StandingGrant : Type 0 where
  pub id : ObjectId
  pub grantor : ℕ
  pub grantee : ℕ
  pub depth : ℕ
  pub parent : Option ℕ

-- the same object from the same grantor to the same grantee: at most one such grant stands
abbrev pub same_grant : StandingGrant → StandingGrant → Bool
same_grant a b = same_id a.id b.id && a.grantor == b.grantor && a.grantee == b.grantee

-- ---- a Grant

-- the grant that a new one hangs on: the grantor's oldest standing grant of the object
abbrev pub ground : List StandingGrant → ObjectId → ℕ → Option StandingGrant
ground grants id grantor = find (λ grant. same_id id grant.id && grant.grantee == grantor) grants

-- a grant of one's own object hangs on nothing and has depth 1; any other is one deeper than its ground
abbrev pub new_grant : List StandingGrant → ObjectId → ℕ → ℕ → StandingGrant
new_grant grants id grantor grantee =
    elim (if id.job.0 == grantor then None else ground grants id grantor) [
      | None ↦ record { id = id; grantor = grantor; grantee = grantee; depth = 1; parent = None }
      | Some grant ↦ record { id = id; grantor = grantor; grantee = grantee; depth = grant.depth + 1; parent = Some grant.grantor }
    ]

abbrev pub with_grant : List StandingGrant → ObjectId → ℕ → ℕ → List StandingGrant
with_grant grants id grantor grantee = grants ++ new_grant grants id grantor grantee ∷ []

-- ---- what ends with what

-- whether the first grant hangs on the second
abbrev pub is_child_of : StandingGrant → StandingGrant → Bool
is_child_of grant below =
    same_id grant.id below.id && grant.grantor == below.grantee && option_map_or (λ g. g == below.grantor) grant.parent false

-- the grants that end where those that pass the test end: from the oldest on, since a grant is younger
-- than the one that it hangs on
abbrev pub ended_from : (StandingGrant → Bool) → List StandingGrant → List StandingGrant → List StandingGrant
ended_from test gone [] = gone
ended_from test gone (grant ∷ grants) =
    ended_from test (if test grant || list_any (is_child_of grant) gone then gone ++ grant ∷ [] else gone) grants

-- by depth, then object, then grantor, then grantee
abbrev pub grant_cmp : StandingGrant → StandingGrant → Ordering
grant_cmp a b =
    ordering_then (nat_cmp a.depth b.depth) (ordering_then (id_cmp a.id b.id) (ordering_then (nat_cmp a.grantor b.grantor) (nat_cmp a.grantee b.grantee)))

abbrev pub grant_placed : StandingGrant → List StandingGrant → List StandingGrant
grant_placed grant [] = grant ∷ []
grant_placed grant (h ∷ hs) = if is_lt (grant_cmp grant h) then grant ∷ h ∷ hs else h ∷ grant_placed grant hs

abbrev pub grants_sorted : List StandingGrant → List StandingGrant
grants_sorted [] = []
grants_sorted (grant ∷ grants) = grant_placed grant (grants_sorted grants)

-- the grants that end with those that pass the test, in the order in which they are announced
abbrev pub grants_ended : (StandingGrant → Bool) → List StandingGrant → List StandingGrant
grants_ended test grants = grants_sorted (ended_from test [] grants)

-- the grants that stand after it
abbrev pub grants_left : (StandingGrant → Bool) → List StandingGrant → List StandingGrant
grants_left test grants = let gone = ended_from test [] grants in filter (λ grant. not (list_any (same_grant grant) gone)) grants

-- ---- which grants a grantor ends

-- a withdrawal: this object, to this grantee
abbrev pub is_withdrawn : ℕ → ObjectId → ℕ → StandingGrant → Bool
is_withdrawn grantor id grantee grant = grant.grantor == grantor && same_id id grant.id && grant.grantee == grantee

-- the end of a task: the job's own objects that the task made
abbrev pub is_of_task : ℕ → TaskNo → StandingGrant → Bool
is_of_task job task grant = grant.grantor == job && grant.id.job.0 == job && same_task task grant.id.task

-- the end of a job: all that it gave
abbrev pub is_given_by : ℕ → StandingGrant → Bool
is_given_by job grant = grant.grantor == job
