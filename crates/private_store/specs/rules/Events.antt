-- The inputs of a job's store that aren't commands: admission, change of quota and end, device
-- answers, messages, and the grants that others give.
use Rattle.std.specs.Prelude.{ℕ, ◌==◌, Bool, true, false, not, ◌&&◌, if◌then◌else◌, List, [], ◌∷◌, ◌++◌, filter, find, Option, Some, None, is_none}
use Rattle.std.specs.Option.{option_map_or, option_and_then}
use Rattle.std.specs.List.{list_any}
use Rattle.obj_id.specs.declared.ids.ObjectId.{ObjectId}
use Rattle.obj_id.specs.declared.works.Quota.{Quota}
use Rattle.obj_id.specs.declared.commands.CopyState.TheVariants.{Sealed, Restoring, Away}
use Rattle.obj_id.specs.declared.refusals.Refusal.TheVariants.{BadSize, Full, Stale}
use Rattle.obj_id.specs.declared.commands.Reply.TheVariants as reply
use Rattle.obj_id.specs.Ids.{same_id}
use Rattle.private_store.specs.declared.inputs.Source.{Source}
use Rattle.private_store.specs.declared.inputs.WorkVerdict.{WorkVerdict}
use Rattle.private_store.specs.declared.inputs.WorkVerdict.TheVariants as work
use Rattle.private_store.specs.declared.inputs.ChunkVerdict.{ChunkVerdict}
use Rattle.private_store.specs.declared.inputs.ChunkVerdict.TheVariants as chunk
use Rattle.private_store.specs.rules.Limits.{is_quota}
use Rattle.private_store.specs.declared.faults.FetchFault.{FetchFault}
use Rattle.private_store.specs.declared.faults.FetchFault.TheVariants as fetch_fault
use Rattle.private_store.specs.rules.Tables.{at, with_entry, without_entry}
use Rattle.private_store.specs.rules.Shape.{Copy, Shape, Change, WorkInFlight, not_begun, live, ended, Fetch, locating, pulling, GrantTaken, GrantGiven, Seen, add_location, remove_source, end_job, chunks, not_here, unbegun}
use Rattle.private_store.specs.rules.Marks.{marked, read_mark}
use Rattle.private_store.specs.rules.Marks as mark
use Rattle.private_store.specs.rules.Copies.{visible, fits_quota}
use Rattle.private_store.specs.rules.Room.{set_copy}
use Rattle.private_store.specs.rules.Change.{refused, done, checked, needing, sending, erasing, settled}
use Rattle.private_store.specs.rules.Commands.{restore}

-- ---- the operator

abbrev pub is_live : Shape → Bool
is_live store = elim store.life [ live ↦ true | _ ↦ false ]

-- a job begins once at a node
abbrev pub begin : Shape → Quota → Change
begin store quota =
    elim store.life [
      | not_begun ↦ checked store ((not (is_quota quota), BadSize) ∷ []) (done (record store { life = live; quota = quota }))
      | _ ↦ refused store Stale
    ]

-- the quota is another, if what is used is within it
abbrev pub requota : Shape → Quota → Change
requota store quota =
    checked store ((not (is_quota quota), BadSize) ∷ (not (fits_quota store quota), Full) ∷ []) (done (record store { quota = quota }))

-- what is left of a store that has ended: what others granted
abbrev pub over : Shape → Shape
over store = record (unbegun store.job) { life = ended; received = store.received }

abbrev pub end_job_here : Shape → Change
end_job_here store = sending (end_job ∷ []) (done (over store))

-- ---- device answers

abbrev pub work_of : Shape → ℕ → Option WorkInFlight
work_of store number = find (λ work. work.number == number) store.works

abbrev pub without_work : Shape → ℕ → Shape
without_work store number = record store { works = filter (λ work. not (work.number == number)) store.works }

-- a write is answered: the copy is backed, or the next room that would spill is answered the failure.
-- The work stands no longer in the store
abbrev pub written : Shape → WorkInFlight → Copy → WorkVerdict → Change
written store w copy work.Failed = erasing store (done (settled (record store { spill_failed = true }) w.id))
written store w copy _ =
    let backed = set_copy store w.id (marked (mark.backed w.number) copy) in
    erasing backed (done (settled backed w.id))

-- a work ends
abbrev pub answer : Shape → ℕ → WorkVerdict → Change
answer store number verdict =
    needing store (work_of store number) Stale (λ w.
    needing store (at store.copies w.id) Stale (λ copy.
    let rest = without_work store number in
    if w.writes then written rest w copy verdict
    else erasing rest (done (settled (set_copy rest w.id (marked (read_mark verdict) copy)) w.id))))

-- ---- messages to the fetching side

-- the fetch of the id under the number, with its copy
abbrev pub fetch_of : Shape → ObjectId → ℕ → Option (Copy × Fetch)
fetch_of store id number =
    option_and_then (λ copy. option_and_then (λ fetch. if fetch.number == number then Some (copy, fetch) else None) copy.fetch) (at store.copies id)

-- what is done with a fetch, or nothing where the message is of none
abbrev pub with_fetch : Shape → ObjectId → ℕ → (Copy → Fetch → Change) → Change
with_fetch store id number f = option_map_or (λ p. f p.0 p.1) (fetch_of store id number) (done store)

-- the directory's answer, which counts while the source isn't known
abbrev pub located : Shape → ObjectId → ℕ → Option Source → Change
located store id number source =
    with_fetch store id number (λ copy fetch. elim fetch.phase [
      | locating ↦ done (set_copy store id (marked (mark.located fetch source) copy))
      | _ ↦ done store
    ])

-- the extent is given back, and the next Get answers the refusal
abbrev pub fetch_failed : Shape → ObjectId → Copy → Fetch → FetchFault → Shape
fetch_failed store id copy fetch response = set_copy store id (marked (mark.fetch_failed fetch response) copy)

-- a chunk, and what is missing after it: the last one seals the copy, or shows that it is damaged
abbrev pub chunk_taken : Shape → ObjectId → Copy → Fetch → ℕ → List ℕ → ChunkVerdict → Change
chunk_taken store id copy fetch source missing chunk.Ignored = done store
chunk_taken store id copy fetch source (i ∷ missing) _ = done (set_copy store id (marked (mark.lacking fetch source (i ∷ missing)) copy))
chunk_taken store id copy fetch source [] chunk.Damaged = done (fetch_failed store id copy fetch fetch_fault.Damaged)
chunk_taken store id copy fetch source [] _ =
    sending (add_location id ∷ []) (done (set_copy store id (marked mark.brought copy)))

abbrev pub is_missing : List ℕ → ℕ → Bool
is_missing missing index = list_any (λ i. i == index) missing

-- a chunk from the source that fills a gap
abbrev pub chunk_arrived : Shape → ObjectId → ℕ → ℕ → ℕ → ChunkVerdict → Change
chunk_arrived store id number index from verdict =
    with_fetch store id number (λ copy fetch. elim fetch.phase [
      | pulling source missing ↦
          if from == source && is_missing missing index
          then chunk_taken store id copy fetch source (filter (λ i. not (i == index)) missing) verdict
          else done store
      | _ ↦ done store
    ])

-- the source has no such copy: the fetch is over, and the directory forgets the source
abbrev pub not_here_arrived : Shape → ObjectId → ℕ → ℕ → Change
not_here_arrived store id number from =
    with_fetch store id number (λ copy fetch. elim fetch.phase [
      | pulling source missing ↦
          if from == source
          then sending (remove_source id source ∷ []) (done (fetch_failed store id copy fetch fetch_fault.Absent))
          else done store
      | _ ↦ done store
    ])

-- ---- messages to the serving side

-- a restore for another node: no reply, and a spill that failed is still to be answered
abbrev pub quiet : Shape → Change → Change
quiet store c = record c { shape = record c.shape { spill_failed = store.spill_failed }; reply = reply.Ok }

-- what a copy with the right length and digest answers
abbrev pub pull_answer : List ObjectId → Shape → ObjectId → Copy → Change
pull_answer order store id copy =
    elim copy.state [
      | Sealed ↦ sending (chunks id ∷ []) (done store)
      | Restoring ↦ done store
      | Away ↦ if is_none copy.fault then quiet store (restore order store id copy) else sending (not_here id ∷ []) (done store)
      | _ ↦ sending (not_here id ∷ []) (done store)
    ]

-- a Pull: a doomed copy isn't shown
abbrev pub pull_arrived : List ObjectId → Shape → ObjectId → Bool → Change
pull_arrived order store id matches =
    option_map_or (λ copy. if matches then pull_answer order store id copy else sending (not_here id ∷ []) (done store))
    (visible store id) (sending (not_here id ∷ []) (done store))

-- ---- grants that others give

abbrev pub grants_of : Shape → ObjectId → List GrantTaken
grants_of store id = option_map_or (λ seen. seen.grants) (at store.received id) []

-- another grant of the object, the youngest
abbrev pub received : Shape → ObjectId → ℕ → ℕ → ℕ → Change
received store id n grantor depth =
    done (record store { received = with_entry store.received id (record { length = n; grants = grants_of store id ++ record { grantor = grantor; depth = depth } ∷ [] }) })

abbrev pub is_the_grant : ℕ → ℕ → GrantTaken → Bool
is_the_grant grantor depth grant = grant.grantor == grantor && grant.depth == depth

-- what is seen by the other grants, if there are any
abbrev pub without_grant : Seen → ℕ → ℕ → Option Seen
without_grant seen grantor depth =
    elim (filter (λ grant. not (is_the_grant grantor depth grant)) seen.grants) [
      | [] ↦ None
      | grant ∷ grants ↦ Some (record seen { grants = grant ∷ grants })
    ]

-- a grant of this object that hangs on one by the grantor
abbrev pub is_child_of : ObjectId → ℕ → GrantGiven → Bool
is_child_of id grantor grant = same_id id grant.id && option_map_or (λ g. g == grantor) grant.parent false

-- the grant ends, and with it those given here that hang on it
abbrev pub grant_ended : Shape → ObjectId → ℕ → ℕ → Seen → Shape
grant_ended store id grantor depth seen =
    record store {
      received = option_map_or (λ left. with_entry store.received id left) (without_grant seen grantor depth) (without_entry store.received id);
      given = filter (λ grant. not (is_child_of id grantor grant)) store.given;
    }

-- a grant that stands ends
abbrev pub withdrawn : Shape → ObjectId → ℕ → ℕ → Change
withdrawn store id grantor depth =
    done (option_map_or (λ seen. if list_any (is_the_grant grantor depth) seen.grants then grant_ended store id grantor depth seen else store)
    (at store.received id) store)
