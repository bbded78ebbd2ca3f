-- The commands of a session, over its job's store: one definition each, its checks in their order.
use Rattle.std.specs.Prelude.{ℕ, ◌+◌, ◌-◌, ◌==◌, nat_le, nat_lt, Bool, true, false, not, ◌&&◌, ◌||◌, if◌then◌else◌, List, [], ◌∷◌, ◌++◌, length, map, filter, fold, Option, Some, None, is_some, unwrap_or, is_ok, option_and_then}
use Rattle.std.specs.Option.{option_map_or}
use Rattle.std.specs.Ordering.{nat_cmp}
use Rattle.std.specs.List.{list_any}
use Rattle.std.specs.FinMap.{find}
use Rattle.obj_id.specs.declared.ids.TaskNo.{TaskNo}
use Rattle.obj_id.specs.declared.ids.ObjectId.{ObjectId}
use Rattle.obj_id.specs.declared.commands.Kind.{Kind}
use Rattle.obj_id.specs.declared.commands.Kind.TheVariants.{Secondary}
use Rattle.obj_id.specs.declared.commands.CopyState.{CopyState}
use Rattle.obj_id.specs.declared.commands.CopyState.TheVariants.{Created, Sealed, Restoring, Fetching, Away}
use Rattle.obj_id.specs.declared.refusals.Refusal.{Refusal}
use Rattle.obj_id.specs.declared.refusals.Refusal.TheVariants.{DeviceFailed, Damaged, BadId, Exists, Absent, NotSealed, AlreadySealed, BadSize, OutOfBounds, Pending, NotHeld, Granted, NotGranted, Busy, TooMany, Gone, NotOwner, NotResident}
use Rattle.obj_id.specs.declared.commands.Usage.{Usage}
use Rattle.obj_id.specs.declared.commands.OwnItem.{OwnItem}
use Rattle.obj_id.specs.declared.commands.GrantedItem.{GrantedItem}
use Rattle.obj_id.specs.declared.commands.Reply.TheVariants as reply
use Rattle.obj_id.specs.Ids.{same_id, same_task}
use Rattle.private_store.specs.declared.faults.Fault.{Fault}
use Rattle.private_store.specs.declared.faults.FetchFault.{FetchFault}
use Rattle.private_store.specs.declared.faults.Fault.TheVariants as restore_fault
use Rattle.private_store.specs.declared.faults.FetchFault.TheVariants as fetch_fault
use Rattle.private_store.specs.rules.Tables.{ById, at, with_entry, ids_of}
use Rattle.private_store.specs.rules.Limits.{most_bytes, most_copies, most_holds, most_borrowers, most_grants, greatest_depth, most_ended_tasks, has_numbers}
use Rattle.private_store.specs.rules.Extents.{rounded, is_size}
use Rattle.private_store.specs.rules.Shape.{Copy, Shape, Change, Fetch, Phase, locating, sized, pulling, failed, GrantTaken, add_location, locate, pull}
use Rattle.obj_id.specs.Kinds.{is_primary}
use Rattle.private_store.specs.rules.Marks.{marked}
use Rattle.private_store.specs.rules.Marks as mark
use Rattle.private_store.specs.rules.Copies.{is_created, is_sealed, is_granted, in_scope, visible, window_used, device_used}
use Rattle.private_store.specs.rules.Room.{make_room, set_copy, drop_copy, asked, works_left}
use Rattle.private_store.specs.rules.Change.{replied, refused, done, checked, needing, sending, in_room, has_ended, settled, doom}

-- whether an object of the length may be in the window
abbrev pub is_length : Shape → ℕ → Bool
is_length store n = is_size store.quota.window n

-- whether there may be no other copy beside so many
abbrev pub is_full_of_copies : ℕ → Bool
is_full_of_copies copies = nat_le most_copies copies

-- whether no sealed bytes were ever here
abbrev pub is_unsealed : CopyState → Bool
is_unsealed Created = true
is_unsealed Fetching = true
is_unsealed _ = false

-- the session's holds on the copy
abbrev pub holds_of : Copy → ℕ → ℕ
holds_of copy session = unwrap_or (find nat_cmp session copy.holds) 0

-- the holds of all sessions
abbrev pub all_holds : Copy → ℕ
all_holds copy = fold (λ n e. n + e.1) 0 copy.holds

-- whether the task borrows it
abbrev pub has_borrower : Copy → TaskNo → Bool
has_borrower copy task = list_any (same_task task) copy.borrowers

-- only a sealed primary in memory is granted
abbrev pub is_sealed_primary : Copy → Bool
is_sealed_primary copy = is_primary copy.kind && is_sealed copy.state

-- ---- the checks of the commands: of each list, the first test that holds refuses

-- Create, in this window, after these tasks have ended, beside these copies
abbrev pub create_checks : {X : Type 0} → ℕ → List TaskNo → ById X → ObjectId → ℕ → List (Bool × Refusal)
create_checks window ended copies id n =
    (not (is_size window n), BadSize)
    ∷ (list_any (same_task id.task) ended, Gone)
    ∷ (is_some (at copies id), Exists)
    ∷ (is_full_of_copies (length copies), TooMany)
    ∷ []

-- Write, of a copy that isn't doomed
abbrev pub write_checks : Copy → ℕ → ℕ → List (Bool × Refusal)
write_checks copy offset n = (not (is_created copy.state), AlreadySealed) ∷ (nat_lt copy.length (offset + n), OutOfBounds) ∷ []

-- Seal, of a copy that isn't doomed
abbrev pub seal_checks : Copy → List (Bool × Refusal)
seal_checks copy = (not (is_created copy.state), AlreadySealed) ∷ []

-- Get, of a sealed copy that isn't doomed
abbrev pub hold_checks : Copy → List (Bool × Refusal)
hold_checks copy = (nat_le most_holds (all_holds copy), TooMany) ∷ []

-- Get, of no copy, beside so many and after so many fetches
abbrev pub fetch_checks : ℕ → ℕ → List (Bool × Refusal)
fetch_checks copies begun = (is_full_of_copies copies, TooMany) ∷ (not (has_numbers begun 1), TooMany) ∷ []

-- whatever shows a session the bytes of a copy
abbrev pub bytes_checks : Copy → ℕ → List (Bool × Refusal)
bytes_checks copy session = (is_unsealed copy.state, NotSealed) ∷ (holds_of copy session == 0, NotHeld) ∷ []

-- Read, of any copy
abbrev pub read_checks : Copy → ℕ → ℕ → ℕ → List (Bool × Refusal)
read_checks copy session offset n = bytes_checks copy session ++ (nat_lt copy.length (offset + n), OutOfBounds) ∷ []

-- Release, of any copy
abbrev pub release_checks : Copy → ℕ → List (Bool × Refusal)
release_checks copy session = (holds_of copy session == 0, NotHeld) ∷ []

-- Unpin, of a copy that isn't doomed, by the task that owns it or another
abbrev pub unpin_checks : Copy → Bool → List (Bool × Refusal)
unpin_checks copy owner = (not (is_primary copy.kind && owner), NotOwner) ∷ (not copy.pinned, NotHeld) ∷ []

-- Borrow, of a copy that isn't doomed
abbrev pub borrow_checks : Copy → TaskNo → List (Bool × Refusal)
borrow_checks copy task =
    (not (is_primary copy.kind), NotOwner) ∷ (has_borrower copy task, Exists) ∷ (nat_le most_borrowers (length copy.borrowers), TooMany) ∷ []

-- GiveUp, of a copy that isn't doomed
abbrev pub give_up_checks : Copy → TaskNo → List (Bool × Refusal)
give_up_checks copy task = (not (is_primary copy.kind), NotOwner) ∷ (not (has_borrower copy task), Absent) ∷ []

-- Delete, of a copy that isn't doomed, granted or not
abbrev pub delete_checks : Bool → List (Bool × Refusal)
delete_checks granted = (granted, Granted) ∷ []

-- EndTask, after these tasks have ended
abbrev pub end_task_checks : List TaskNo → TaskNo → List (Bool × Refusal)
end_task_checks ended task = (list_any (same_task task) ended, Gone) ∷ (nat_le most_ended_tasks (length ended), TooMany) ∷ []

-- Grant of the job's own object, of a copy that isn't doomed, given to the target or not, with room for a grant or without
abbrev pub grant_checks : Copy → Bool → Bool → List (Bool × Refusal)
grant_checks copy given full = (not (is_sealed_primary copy), NotResident) ∷ (given, Exists) ∷ (full, TooMany) ∷ []

-- ---- the commands

-- a copy to be written; a primary is pinned by the task that owns it
abbrev pub new_copy : Kind → ℕ → ℕ → Copy
new_copy kind n offset =
    record {
      state = Created;
      kind = kind;
      length = n;
      offset = Some offset;
      pinned = is_primary kind;
      borrowers = [];
      holds = [];
      backed = None;
      doomed = false;
      fault = None;
      fetch = None;
    }

-- the copy is there, at the offset, and most recently used
abbrev pub created : ObjectId → Kind → ℕ → Shape → ℕ → Change
created id kind n store offset =
    record (replied (set_copy store id (new_copy kind n offset)) (reply.Placed offset (rounded n))) { used = Some id }

-- Create: an extent of zeros
abbrev pub create : List ObjectId → Shape → ObjectId → Kind → ℕ → Change
create order store id kind n =
    checked store (create_checks store.quota.window store.ended_tasks store.copies id n) (in_room (make_room order store n) (created id kind n))

-- Write: the bytes are replaced, while the copy is being written
abbrev pub write : Shape → ObjectId → ℕ → ℕ → Change
write store id offset n =
    checked store ((nat_lt most_bytes n, BadSize) ∷ [])
    (needing store (visible store id) Absent (λ copy.
    checked store (write_checks copy offset n) (done store)))

-- Seal: the copy is immutable from now on, and its location told
abbrev pub seal : Shape → ObjectId → Change
seal store id =
    needing store (visible store id) Absent (λ copy.
    checked store (seal_checks copy)
    (sending (add_location id ∷ []) (done (set_copy store id (marked mark.sealed copy)))))

-- Get of a sealed copy: a hold, and it is most recently used
abbrev pub get_sealed : Shape → ℕ → ObjectId → Copy → Change
get_sealed store session id copy =
    checked store (hold_checks copy)
    (record (replied (set_copy store id (marked (mark.held session (holds_of copy session + 1)) copy)) (reply.Got copy.length)) { used = Some id })

-- the extent is taken again, and its bytes are asked for
abbrev pub restoring : ObjectId → Copy → Shape → ℕ → Change
restoring id copy store offset =
    refused (asked false (set_copy store id (marked (mark.restoring offset) copy)) id) Pending

-- a copy that is away is read back, if there is room for it
abbrev pub restore : List ObjectId → Shape → ObjectId → Copy → Change
restore order store id copy =
    checked store ((works_left store == 0, Busy) ∷ [])
    (let room = make_room order store copy.length in
    checked store ((is_ok room.offset && not (has_numbers store.works_asked 1), TooMany) ∷ []) (in_room room (restoring id copy)))

-- what is told of a fault
abbrev pub refusal_of : Fault → Refusal
refusal_of restore_fault.DeviceFailed = DeviceFailed
refusal_of restore_fault.Damaged = Damaged

abbrev pub fetch_refusal : FetchFault → Refusal
fetch_refusal fetch_fault.Absent = Absent
fetch_refusal fetch_fault.Damaged = Damaged

-- Get of a copy that is away: a fault is answered, once; else it is read back
abbrev pub get_away : List ObjectId → Shape → ObjectId → Copy → Change
get_away order store id copy =
    elim copy.fault [
      | Some fault ↦ refused (set_copy store id (marked mark.fault_told copy)) (refusal_of fault)
      | None ↦ restore order store id copy
    ]

-- the extent is taken, and all chunks are asked for
abbrev pub begin_pull : ObjectId → Copy → Fetch → ℕ → Shape → ℕ → Change
begin_pull id copy fetch source store offset =
    sending (pull id ∷ [])
    (refused (set_copy store id (marked (mark.pulled fetch offset source) copy)) Pending)

-- Get of a copy that is on its way: its fetch goes one step on, or what it came to is told
abbrev pub get_fetching : List ObjectId → Shape → ObjectId → Copy → Fetch → Phase → Change
get_fetching order store id copy fetch locating = sending (locate id fetch.number ∷ []) (refused store Pending)
get_fetching order store id copy fetch (sized source) =
    checked store ((not (is_length store copy.length), BadSize) ∷ [])
    (in_room (make_room order store copy.length) (begin_pull id copy fetch source))
get_fetching order store id copy fetch (pulling source missing) = sending (pull id ∷ []) (refused store Pending)
get_fetching order store id copy fetch (failed fault) = refused (drop_copy store id) (fetch_refusal fault)

-- Get of a copy that isn't doomed, by its state
abbrev pub get_copy : List ObjectId → Shape → ℕ → ObjectId → Copy → Change
get_copy order store session id copy =
    elim copy.state [
      | Created ↦ refused store NotSealed
      | Sealed ↦ get_sealed store session id copy
      | Restoring ↦ refused store Pending
      | Fetching ↦ needing store copy.fetch Absent (λ fetch. get_fetching order store id copy fetch fetch.phase)
      | Away ↦ get_away order store id copy
    ]

-- a copy that is on its way, its source not known yet
abbrev pub fetched_copy : ℕ → Copy
fetched_copy number =
    record {
      state = Fetching;
      kind = Secondary;
      length = 0;
      offset = None;
      pinned = false;
      borrowers = [];
      holds = [];
      backed = None;
      doomed = false;
      fault = None;
      fetch = Some (record { number = number; phase = locating });
    }

abbrev pub fetch_begun : Shape → ObjectId → ℕ → Shape
fetch_begun store id number =
    record store { copies = with_entry store.copies id (fetched_copy number); fetches_begun = number }

-- a copy that isn't here is fetched
abbrev pub begin_fetch : Shape → ObjectId → Change
begin_fetch store id =
    checked store (fetch_checks (length store.copies) store.fetches_begun)
    (record (sending (locate id (store.fetches_begun + 1) ∷ [])
    (refused (fetch_begun store id (store.fetches_begun + 1)) Pending)) { used = Some id })

-- Get: a hold on a copy that is here, and else what brings it here
abbrev pub get : List ObjectId → Shape → ℕ → ObjectId → Change
get order store session id =
    checked store ((has_ended store id.task, Gone) ∷ [])
    (elim (at store.copies id) [
      | None ↦ begin_fetch store id
      | Some copy ↦ checked store ((copy.doomed, Absent) ∷ []) (get_copy order store session id copy)
    ])

-- Read: bytes of a copy that the session holds, a doomed one too
abbrev pub read : Shape → ℕ → ObjectId → ℕ → ℕ → Change
read store session id offset n =
    checked store ((nat_lt most_bytes n, BadSize) ∷ [])
    (needing store (at store.copies id) Absent (λ copy.
    checked store (read_checks copy session offset n) (replied store (reply.Bytes n))))

-- Release: one hold of the session less
abbrev pub release : Shape → ℕ → ObjectId → Change
release store session id =
    needing store (at store.copies id) Absent (λ copy.
    checked store (release_checks copy session)
    (done (settled (set_copy store id (marked (mark.held session (holds_of copy session - 1)) copy)) id)))

-- the copy is set, and doomed if it is out of scope
abbrev pub scoped : Shape → ObjectId → Copy → Change
scoped store id copy = if in_scope copy then done (set_copy store id copy) else doom (set_copy store id copy) id

-- Unpin: the owner task keeps its primary no longer
abbrev pub unpin : Shape → ObjectId → TaskNo → Change
unpin store id task =
    needing store (visible store id) Absent (λ copy.
    checked store (unpin_checks copy (same_task task id.task))
    (scoped store id (marked mark.unpinned copy)))

-- Borrow: the task refers to the object
abbrev pub borrow : Shape → ObjectId → TaskNo → Change
borrow store id task =
    checked store ((has_ended store id.task || has_ended store task, Gone) ∷ [])
    (needing store (visible store id) Absent (λ copy.
    checked store (borrow_checks copy task)
    (done (set_copy store id (marked (mark.borrowed task) copy)))))

-- GiveUp: the task refers to it no longer
abbrev pub give_up : Shape → ObjectId → TaskNo → Change
give_up store id task =
    needing store (visible store id) Absent (λ copy.
    checked store (give_up_checks copy task)
    (scoped store id (marked (mark.given_up task) copy)))

-- Delete: the copy is doomed, whoever refers to it
abbrev pub delete : Shape → ObjectId → Change
delete store id =
    needing store (visible store id) Absent (λ copy. checked store (delete_checks (is_granted store id)) (doom store id))

-- one change after another: the messages of both
abbrev pub then_change : Change → (Shape → Change) → Change
then_change c f = sending c.sent (f c.shape)

-- the change made at each id in turn
abbrev pub at_each : (Shape → ObjectId → Change) → List ObjectId → Change → Change
at_each f ids c = fold (λ before id. then_change before (λ store. f store id)) c ids

-- the task's borrow of one object is given up, if it has one
abbrev pub give_up_one : TaskNo → Shape → ObjectId → Change
give_up_one task store id =
    option_map_or (λ copy.
    if copy.doomed then done (set_copy store id (marked (mark.given_up task) copy)) else
    (if has_borrower copy task then scoped store id (marked (mark.given_up task) copy) else done store)) (at store.copies id) (done store)

-- the ids of the task's objects
abbrev pub of_task : TaskNo → List ObjectId → List ObjectId
of_task task ids = filter (λ id. same_task task id.task) ids

-- the task is remembered as ended, and what it had granted ends
abbrev pub task_ended : Shape → TaskNo → Shape
task_ended store task =
    record store { ended_tasks = store.ended_tasks ++ task ∷ []; given = filter (λ a_grant. not (a_grant.id.job.0 == store.job && same_task task a_grant.id.task)) store.given }

-- EndTask: the task's copies are doomed, and then its borrows given up, each in order of id
abbrev pub end_task : Shape → TaskNo → Change
end_task store task =
    checked store (end_task_checks store.ended_tasks task)
    (at_each (give_up_one task) (ids_of store.copies)
    (at_each doom (of_task task (ids_of store.copies)) (done (task_ended store task))))

-- whether this job gave the target this object
abbrev pub has_given : Shape → ObjectId → ℕ → Bool
has_given store id target = list_any (λ a_grant. same_id id a_grant.id && a_grant.target == target) store.given

-- the grant is given
abbrev pub gives : Shape → ObjectId → ℕ → Option ℕ → Change
gives store id target parent =
    done (record store { given = store.given ++ record { id = id; target = target; parent = parent } ∷ [] })

-- a Grant of the job's own object
abbrev pub grant_own : Shape → ObjectId → ℕ → Change
grant_own store id target =
    checked store ((target == 0 || target == store.job, BadId) ∷ (has_ended store id.task, Gone) ∷ [])
    (needing store (visible store id) Absent (λ copy.
    checked store (grant_checks copy (has_given store id target) (nat_le most_grants (length store.given)))
    (gives store id target None)))

-- the oldest standing grant of an object
abbrev pub oldest : Shape → ObjectId → Option GrantTaken
oldest store id = option_and_then (λ seen. elim seen.grants [ [] ↦ None | a_grant ∷ _ ↦ Some a_grant ]) (at store.received id)

-- a Grant that hands on another job's object: what it makes hangs on the oldest standing grant
abbrev pub grant_foreign : Shape → ObjectId → ℕ → Change
grant_foreign store id target =
    checked store ((target == 0 || target == store.job || target == id.job.0, BadId) ∷ [])
    (needing store (oldest store id) NotGranted (λ a_grant.
    checked store ((has_given store id target, Exists) ∷ (nat_le greatest_depth a_grant.depth || nat_le most_grants (length store.given), TooMany) ∷ [])
    (gives store id target (Some a_grant.grantor))))

-- Grant: the target may peek, whether or not it lives
abbrev pub grant : Shape → ObjectId → ℕ → Change
grant store id target = if id.job.0 == store.job then grant_own store id target else grant_foreign store id target

-- Withdraw: the grant ends
abbrev pub withdraw : Shape → ObjectId → ℕ → Change
withdraw store id target =
    checked store ((not (has_given store id target), NotGranted) ∷ [])
    (done (settled (record store { given = filter (λ a_grant. not (same_id id a_grant.id && a_grant.target == target)) store.given }) id))

-- Peek: bytes of an object that another job granted
abbrev pub peek : Shape → ObjectId → ℕ → ℕ → Change
peek store id offset n =
    checked store ((id.job.0 == store.job, NotGranted) ∷ [])
    (needing store (at store.received id) NotGranted (λ seen.
    checked store ((nat_lt most_bytes n, BadSize) ∷ (nat_lt seen.length (offset + n), OutOfBounds) ∷ [])
    (replied store (reply.Bytes n))))

-- the job's copies, as List shows them
abbrev pub own_items : Shape → List OwnItem
own_items store = map (λ e. record { id = e.0; state = e.1.state; kind = e.1.kind; length = e.1.length }) store.copies

-- what others granted, as List shows it
abbrev pub granted_items : Shape → List GrantedItem
granted_items store =
    map (λ e. record { id = e.0; length = e.1.length; depth = option_map_or (λ a_grant. a_grant.depth) (oldest store e.0) 0 }) store.received

-- List: both, by id
abbrev pub list : Shape → Change
list store = replied store (reply.List (own_items store) (granted_items store))

-- the quotas, and what is used of them
abbrev pub usage_of : Shape → Usage
usage_of store =
    record {
      window = store.quota.window;
      window_used = window_used store;
      device = store.quota.device;
      device_used = device_used store;
      copies = length store.copies;
      works = length store.works;
    }

-- Usage
abbrev pub usage : Shape → Change
usage store = replied store (reply.Usage (usage_of store))

-- the session's holds on one copy go
abbrev pub leave_one : ℕ → Shape → ObjectId → Change
leave_one session store id =
    option_map_or (λ copy. done (settled (set_copy store id (marked (mark.held session 0) copy)) id)) (at store.copies id) (done store)

-- Leave: all its holds go
abbrev pub leave : Shape → ℕ → Change
leave store session = at_each (leave_one session) (ids_of store.copies) (done store)
