-- What every store keeps that came from an unbegun one by inputs, whatever they were: the invariants
-- of a job's store.
use Rattle.std.specs.Prelude.{◌≡◌, ℕ, ◌%◌, ◌≤◌, ◌<◌, ◌^◌, ◌==◌, nat_lt, nat_le, Bool, true, false, not, ◌||◌, ◌&&◌, List, [], ◌∷◌, length, count_by, sum_by, Option, Some, None, is_some, is_none, IsTrue}
use Rattle.std.specs.Option.{option_map_or}
use Rattle.std.specs.List.{list_any, list_all}
use Rattle.std.specs.Ordering.{nat_cmp}
use Rattle.std.specs.FinMap.{is_sorted}
use Rattle.obj_id.specs.declared.ids.TaskNo.{TaskNo}
use Rattle.obj_id.specs.declared.ids.ObjectId.{ObjectId}
use Rattle.obj_id.specs.declared.commands.Kind.{Kind}
use Rattle.obj_id.specs.declared.commands.CopyState.{CopyState}
use Rattle.private_store.specs.declared.faults.Fault.{Fault}
use Rattle.obj_id.specs.declared.commands.CopyState.TheVariants.{Created, Sealed, Restoring, Fetching, Away}
use Rattle.obj_id.specs.declared.works.Extent.{Extent}
use Rattle.obj_id.specs.Ids.{id_cmp, same_id, same_task}
use Rattle.private_store.specs.declared.inputs.Judged.{Judged}
use Rattle.private_store.specs.declared.inputs.Judged.TheVariants as judged
use Rattle.private_store.specs.rules.Limits.{longest_object, most_copies, most_works, most_holds, most_borrowers, most_grants, most_ended_tasks, is_quota}
use Rattle.private_store.specs.rules.Tables.{at}
use Rattle.private_store.specs.rules.Extents.{end_of, is_apart}
use Rattle.private_store.specs.rules.Shape.{Copy, Shape, Phase, pulling, Fetch, WorkInFlight, GrantGiven, Seen}
use Rattle.obj_id.specs.Kinds.{is_primary}
use Rattle.private_store.specs.rules.Marks.{chunk_count}
use Rattle.private_store.specs.rules.Copies.{is_sealed, is_away, extent_of, device_used}
use Rattle.private_store.specs.rules.Events.{is_live}
use Rattle.private_store.specs.rules.Contents.{Contents, View, bytes_at, digest_at, digest_of, keeps_digest}

-- ---- one copy

abbrev pub is_restoring : CopyState → Bool
is_restoring Restoring = true
is_restoring _ = false

abbrev pub is_fetching : CopyState → Bool
is_fetching Fetching = true
is_fetching _ = false

abbrev pub is_pulling : Phase → Bool
is_pulling (pulling _ _) = true
is_pulling _ = false

-- whether the copy's state has an extent: a fetch has one while it is pulled
abbrev pub has_extent : CopyState → Option Fetch → Bool
has_extent Created fetch = true
has_extent Sealed fetch = true
has_extent Restoring fetch = true
has_extent Fetching fetch = option_map_or (λ f. is_pulling f.phase) fetch false
has_extent Away fetch = false

abbrev pub has_work : List WorkInFlight → ObjectId → Bool
has_work works id = list_any (λ work. same_id id work.id) works

abbrev pub has_write : List WorkInFlight → ObjectId → Bool
has_write works id = list_any (λ work. same_id id work.id && work.writes) works

abbrev pub has_read : List WorkInFlight → ObjectId → Bool
has_read works id = list_any (λ work. same_id id work.id && not work.writes) works

abbrev pub has_grant : List GrantGiven → ObjectId → Bool
has_grant given id = list_any (λ grant. same_id id grant.id) given

abbrev pub is_remembered : List TaskNo → TaskNo → Bool
is_remembered ended task = list_any (same_task task) ended

-- the fetch's missing chunks: there are some, and each is one of the object's
abbrev pub are_gaps : ℕ → Phase → Bool
are_gaps n (pulling source missing) =
    nat_lt 0 (length missing) && list_all (λ i. nat_lt i (chunk_count n)) missing && nat_lt 0 n && nat_le n longest_object
are_gaps n _ = true

-- whether there is a hold
abbrev pub are_held : List (ℕ × ℕ) → Bool
are_held [] = false
are_held (_ ∷ _) = true

-- where a copy is: in the window, on its way, or on the device alone
pub record IsFormKept (state : CopyState) (kind : Kind) (n : ℕ) (offset : Option ℕ) (fetch : Option Fetch) : Type 0 where
  -- it is resident in the states that have an extent
  pub resident : is_some offset ≡ has_extent state fetch
  -- it is in a fetch exactly while it is Fetching, and is a secondary then
  pub in_fetch : is_some fetch ≡ is_fetching state
  pub fetched : is_fetching state ≡ true → is_primary kind ≡ false
  pub gaps : IsTrue (option_map_or (λ f. are_gaps n f.phase) fetch true)
  -- all but fetches have bytes
  pub sized : is_fetching state ≡ false → (0 < n) × (n ≤ longest_object)

-- what the kind and the state of a copy leave to its other marks
pub record AreMarksKept (state : CopyState) (kind : Kind) (pinned : Bool) (borrowers : List TaskNo) (backed : Option ℕ) (fault : Option Fault) : Type 0 where
  -- a secondary is neither pinned nor borrowed nor backed
  pub secondary : is_primary kind ≡ false → (pinned ≡ false) × (borrowers ≡ []) × (backed ≡ None)
  -- what is away, or comes back, is a backed primary
  pub away : is_away state || is_restoring state ≡ true → (is_primary kind ≡ true) × (is_some backed ≡ true)
  -- only what is away has a fault to tell of
  pub faulty : is_some fault ≡ true → is_away state ≡ true

pub record AreHoldsKept (state : CopyState) (holds : List (ℕ × ℕ)) : Type 0 where
  -- what a session holds is sealed
  pub held : are_held holds ≡ true → is_sealed state ≡ true
  -- sessions by rising number, each with a hold at least
  pub sessions : IsTrue (is_sorted nat_cmp holds && list_all (λ e. nat_lt 0 e.1) holds)
  pub few_holds : sum_by (λ e. e.1) holds ≤ most_holds

-- the works and the grants that stand on a copy
pub record IsUseKept (works : List WorkInFlight) (given : List GrantGiven) (id : ObjectId) (state : CopyState) (kind : Kind) (backed : Option ℕ) : Type 0 where
  -- what this job granted is sealed, and a primary
  pub granted : has_grant given id ≡ true → (is_sealed state ≡ true) × (is_primary kind ≡ true)
  -- what is being spilled is a sealed primary that isn't backed
  pub spilled : has_write works id ≡ true → (is_sealed state ≡ true) × (is_primary kind ≡ true) × (backed ≡ None)
  -- what is being read back is Restoring
  pub restored : has_read works id ≡ is_restoring state

-- a copy under the tasks that have ended
pub record IsScopeKept (ended : List TaskNo) (id : ObjectId) (doomed : Bool) (borrowers : List TaskNo) : Type 0 where
  -- a task that has ended has no copies but doomed ones, and borrows nothing
  pub of_live_task : doomed ≡ false → is_remembered ended id.task ≡ false
  pub by_live_tasks : (task : TaskNo) → is_remembered borrowers task ≡ true → is_remembered ended task ≡ false
  pub few_borrowers : length borrowers ≤ most_borrowers

-- one copy of a job's store, under the job's works in flight, the grants that it gave and its ended tasks
pub record IsCopyKept (job : ℕ) (works : List WorkInFlight) (given : List GrantGiven) (ended : List TaskNo) (id : ObjectId) (copy : Copy) : Type 0 where
  -- a job's store has that job's objects alone
  pub own : id.job.0 ≡ job
  pub form : IsFormKept copy.state copy.kind copy.length copy.offset copy.fetch
  pub open form use *
  pub marks : AreMarksKept copy.state copy.kind copy.pinned copy.borrowers copy.backed copy.fault
  pub open marks use *
  pub holds : AreHoldsKept copy.state copy.holds
  pub open holds use *
  pub uses : IsUseKept works given id copy.state copy.kind copy.backed
  pub open uses use *
  pub scope : IsScopeKept ended id copy.doomed copy.borrowers
  pub open scope use *
  -- what is doomed is kept by something
  pub doomed : copy.doomed ≡ true → are_held copy.holds || has_grant given id || has_work works id ≡ true

-- ---- the store without contents

-- an order of use: no object stands in it twice
abbrev pub IsOrderOfUse : List ObjectId → Type 0
IsOrderOfUse order = (id : ObjectId) → count_by (same_id id) order ≤ 1

pub record IsShapeKept (store : Shape) : Type 0 where
  -- a store that isn't live has nothing but what others granted
  pub dead : is_live store ≡ false → (store.copies ≡ []) × (store.works ≡ []) × (store.given ≡ []) × (store.ended_tasks ≡ [])
  pub quota : is_live store ≡ true → is_quota store.quota ≡ true
  pub by_id : IsTrue (is_sorted id_cmp store.copies)
  pub each : (id : ObjectId) (copy : Copy) → at store.copies id ≡ Some copy → IsCopyKept store.job store.works store.given store.ended_tasks id copy
  -- no work is of an object that has no copy, and no copy has two
  pub works_of_copies : (id : ObjectId) → at store.copies id ≡ None → has_work store.works id ≡ false
  pub one_work : (id : ObjectId) → count_by (λ work. same_id id work.id) store.works ≤ 1
  -- no work has a number that is still to come, or another's
  pub numbers_used : IsTrue (list_all (λ work. nat_lt 0 work.number && nat_le work.number store.works_asked) store.works)
  pub one_number : (n : ℕ) → count_by (λ work. work.number == n) store.works ≤ 1
  pub numbers_end : (store.works_asked < 2 ^ 64) × (store.fetches_begun < 2 ^ 64)
  -- no grant is of an own object that has no copy, and a grant of an own object hangs on nothing
  pub grants_of_copies : (id : ObjectId) → id.job.0 ≡ store.job → at store.copies id ≡ None → has_grant store.given id ≡ false
  pub own_grants : IsTrue (list_all (λ grant. not (grant.id.job.0 == store.job) || is_none grant.parent) store.given)
  pub most_copies : length store.copies ≤ most_copies
  pub most_works : length store.works ≤ most_works
  pub most_grants : length store.given ≤ most_grants
  pub most_ended : length store.ended_tasks ≤ most_ended_tasks

-- ---- extents and device bytes

abbrev pub are_apart : Option Extent → Option Extent → Bool
are_apart (Some a) (Some b) = is_apart a b
are_apart _ _ = true

-- a whole number of units from the window's begin, and within it
abbrev pub is_placed : ℕ → Extent → Bool
is_placed window e = (e.offset % 16 == 0) && nat_le (end_of e) window

pub record AreExtentsKept (store : Shape) : Type 0 where
  pub placed : (id : ObjectId) (copy : Copy) → at store.copies id ≡ Some copy → option_map_or (is_placed store.quota.window) (extent_of copy) true ≡ true
  pub apart : (a b : ObjectId) (x y : Copy) → at store.copies a ≡ Some x → at store.copies b ≡ Some y → same_id a b ≡ false → are_apart (extent_of x) (extent_of y) ≡ true

-- the device bytes that count are within the quota
abbrev pub IsDeviceKept : Shape → Type 0
IsDeviceKept store = device_used store ≤ store.quota.device

-- ---- contents

-- the contents of one copy: its bytes while it is resident, and the digest of what was sealed
pub record IsContentKept (contents : Contents) (id : ObjectId) (copy : Copy) : Type 0 where
  pub bytes : is_some copy.offset ≡ true → length (bytes_at contents.bytes id) ≡ copy.length
  pub digest : keeps_digest copy ≡ true → is_some (at contents.digests id) ≡ true
  pub sealed : is_sealed copy.state ≡ true → digest_at contents.digests id ≡ digest_of (bytes_at contents.bytes id)

pub record AreContentsKept (store : Shape) (contents : Contents) : Type 0 where
  pub each : (id : ObjectId) (copy : Copy) → at store.copies id ≡ Some copy → IsContentKept contents id copy
  -- what isn't resident has no bytes, so that a new extent has none but zeros
  pub resident : (id : ObjectId) → is_some (at contents.bytes id) ≡ true → option_map_or (λ copy. is_some copy.offset) (at store.copies id) false ≡ true
  pub received : (id : ObjectId) (seen : Seen) → at store.received id ≡ Some seen → length (bytes_at contents.received id) ≡ seen.length

-- ---- all of it

pub record IsKept (store : Shape) (contents : Contents) : Type 0 where
  pub shape : IsShapeKept store
  pub extents : AreExtentsKept store
  pub device : IsDeviceKept store
  pub filled : AreContentsKept store contents

-- of a store as its node shows it
pub record IsViewKept (view : View) : Type 0 where
  pub order : IsOrderOfUse view.order
  pub kept : IsKept view.shape view.contents

-- ---- over a step

-- no number of a work or a fetch is used again
pub record NumbersRise (store after : Shape) : Type 0 where
  pub works : store.works_asked ≤ after.works_asked
  pub fetches : store.fetches_begun ≤ after.fetches_begun

abbrev pub is_end : Judged → Bool
is_end judged.End = true
is_end _ = false
