-- One copy as its row keeps it: the store's copy, its digest, and which work is in flight for it.
use Rattle.std.specs.Prelude.{◌≡◌, ℕ, ◌+◌, ◌-◌, Bool, true, false, not, ◌&&◌, Option, Some, None, if◌then◌else◌, is_none, option_map, ◌==◌, is_some, unwrap_or}
use Rattle.std.specs.Option.{option_map_or}
use Rattle.obj_id.specs.declared.commands.Kind.{Kind}
use Rattle.obj_id.specs.declared.commands.CopyState.TheVariants.{Away}
use Rattle.obj_id.specs.declared.messages.Digest.{Digest}
use Rattle.obj_id.specs.declared.works.WorkKind.{WorkKind}
use Rattle.obj_id.specs.declared.works.WorkKind.TheVariants.{Write, Read}
use Rattle.private_store.specs.declared.faults.Fault.{Fault}
use Rattle.private_store.specs.rules.Shape.{Copy, Fetch, Phase, sized, pulling}
use Rattle.obj_id.specs.Kinds.{is_primary}
use Rattle.obj_id.specs.declared.ids.TaskNo.{TaskNo}
use Rattle.private_store.specs.rules.Marks.{chunk_count, counted, marked}
use Rattle.private_store.specs.rules.Marks as mark
use Rattle.private_store.specs.rules.Copies.{is_sealed, is_away, in_scope, was_sealed}
use Rattle.private_store.specs.rules.Commands.{new_copy, fetched_copy, holds_of}
use Rattle.private_store.specs.rules.Contents.{is_sized, same_digest, no_digest}
use Rattle.private_store.specs.laws.Invariants.{is_fetching}
use Rattle.object_state.specs.Marks.{Marks}
use Rattle.pins_holds.specs.Pinned.{Pinned}
use Rattle.fetch_core.specs.Fetching.{Fetching}
use Rattle.row_copy.specs.declared.marks.Awaited.{Awaited}
use Rattle.row_copy.specs.declared.marks.Awaited.TheVariants.{Chunks, Device}

pub record CopyView : Type 0 where
  pub copy : Copy
  -- from the seal, or from the source that a fetch chose
  pub digest : Option Digest
  -- the work in flight that writes it or reads it back
  pub working : Option WorkKind
  -- whether a grant of it stands that the job gave
  pub granted : Bool

-- a fetch, without the length and the digest that stand in the copy as well
abbrev pub store_fetch_of : Fetching → Fetch
store_fetch_of fetch = record { number = fetch.number; phase = fetch.phase }

-- the copy that has these marks, pins, place and fetch, and is granted or not
abbrev pub copy_view_of : Marks → Pinned → Option ℕ → Option Fetching → Bool → CopyView
copy_view_of marks pins offset fetch granted =
    record {
      copy = record {
        state = marks.state;
        kind = marks.kind;
        length = marks.length;
        offset = offset;
        pinned = pins.pinned;
        borrowers = pins.borrowers;
        holds = pins.holds;
        backed = marks.backed;
        doomed = marks.doomed;
        fault = marks.fault;
        fetch = option_map store_fetch_of fetch;
      };
      digest = marks.digest;
      working = marks.working;
      granted = granted;
    }

-- whether the source of a fetch is known, and its bytes not asked for
abbrev pub is_unasked : Phase → Bool
is_unasked (sized source) = true
is_unasked _ = false

-- marks, place and fetch say the same of what they know
pub record PartsAgree (marks : Marks) (pins : Pinned) (offset : Option ℕ) (fetch : Option Fetching) : Type 0 where
  pub kind : pins.kind ≡ marks.kind
  pub length : option_map_or (λ f. f.length) fetch marks.length ≡ marks.length
  -- what isn't asked for has no place yet
  pub unasked : option_map_or (λ f. is_unasked f.phase) fetch false ≡ true → offset ≡ None
  -- a fetch is of a copy that is on its way, and what is away has no place
  pub fetched : is_some fetch ≡ is_fetching marks.state
  pub away : is_away marks.state ≡ true → offset ≡ None
  -- a fetch whose source is known has its digest
  pub digest : option_map_or (λ f. is_sized f.phase) fetch false ≡ true → is_some marks.digest ≡ true

-- ---- new copies

-- a copy to be written
abbrev pub new_copy_view : Kind → ℕ → ℕ → CopyView
new_copy_view kind n offset = record { copy = new_copy kind n offset; digest = None; working = None; granted = false }

-- a copy that is on its way, its source not known yet
abbrev pub fetched_copy_view : ℕ → CopyView
fetched_copy_view number = record { copy = fetched_copy number; digest = None; working = None; granted = false }

-- ---- which change a copy can take

-- whether a session can hold it: sealed, and not doomed
abbrev pub is_ready : Copy → Bool
is_ready copy = is_sealed copy.state && not copy.doomed

-- a sealed primary without bytes on the device, and no work of it
abbrev pub can_spill : CopyView → Bool
can_spill kept = is_sealed kept.copy.state && is_primary kept.copy.kind && is_none kept.copy.backed && is_none kept.working

-- sealed, with its bytes on the device
abbrev pub can_go_away : CopyView → Bool
can_go_away kept = is_sealed kept.copy.state && is_some kept.copy.backed

-- whether it was sealed with this length and digest
abbrev pub was_sealed_with : ℕ → Digest → CopyView → Bool
was_sealed_with n digest kept = was_sealed kept.copy.state && kept.copy.length == n && same_digest digest (unwrap_or kept.digest no_digest)

-- ---- the changes

abbrev pub after_hold : ℕ → CopyView → CopyView
after_hold session kept = record kept { copy = marked (mark.held session (holds_of kept.copy session + 1)) kept.copy }

abbrev pub after_release : ℕ → CopyView → CopyView
after_release session kept = record kept { copy = marked (mark.held session (holds_of kept.copy session - 1)) kept.copy }

abbrev pub after_leave : ℕ → CopyView → CopyView
after_leave session kept = record kept { copy = marked (mark.held session 0) kept.copy }

abbrev pub after_seal : Digest → CopyView → CopyView
after_seal digest kept = record kept { copy = marked mark.sealed kept.copy; digest = Some digest }

-- its fault was answered
abbrev pub after_fault_reported : CopyView → CopyView
after_fault_reported kept = record kept { copy = marked mark.fault_told kept.copy }

abbrev pub after_spill_begun : CopyView → CopyView
after_spill_begun kept = record kept { working = Some Write }

-- it is removed as soon as nothing keeps it
abbrev pub after_doom : CopyView → CopyView
after_doom kept = record kept { copy = marked mark.doomed kept.copy }

-- grants of it stand that the job gave, or none
abbrev pub with_granted : Bool → CopyView → CopyView
with_granted granted kept = record kept { granted = granted }

-- no grant of it stands any more
abbrev pub after_grants_ended : CopyView → CopyView
after_grants_ended kept = with_granted false kept

-- it is doomed unless it is in scope
abbrev pub view_in_scope : CopyView → CopyView
view_in_scope kept = if in_scope kept.copy then kept else after_doom kept

abbrev pub after_unpin : CopyView → CopyView
after_unpin kept = view_in_scope (record kept { copy = marked mark.unpinned kept.copy })

abbrev pub after_borrow : TaskNo → CopyView → CopyView
after_borrow task kept = record kept { copy = marked (mark.borrowed task) kept.copy }

abbrev pub after_give_up : TaskNo → CopyView → CopyView
after_give_up task kept = view_in_scope (record kept { copy = marked (mark.given_up task) kept.copy })

-- its write under this number ended: it is on the device, unless that failed
abbrev pub after_write : ℕ → Bool → CopyView → CopyView
after_write number failed kept =
    record kept { copy = record kept.copy { backed = if failed then kept.copy.backed else Some number }; working = None }

-- its read ended, and its bytes are in their place
abbrev pub after_restore : CopyView → CopyView
after_restore kept = record kept { copy = marked mark.restored kept.copy; working = None }

-- its read ended without its bytes: it is away again, with a fault to tell of
abbrev pub after_failed_restore : Fault → CopyView → CopyView
after_failed_restore fault kept = record kept { copy = marked (mark.lost fault) kept.copy; working = None }

-- where it can be
abbrev pub spill_begun_if : CopyView → CopyView
spill_begun_if kept = if can_spill kept then after_spill_begun kept else kept

-- it has no place any more, and is away where it can be
abbrev pub after_eviction : CopyView → CopyView
after_eviction kept =
    record kept { copy = record kept.copy { state = if can_go_away kept then Away else kept.copy.state; offset = None } }

-- a fetch of n bytes whose source is known: all chunks are missing
abbrev pub with_chunks : ℕ → Fetch → Fetch
with_chunks n fetch =
    elim fetch.phase [
      | sized source ↦ record fetch { phase = pulling source (counted 0 (chunk_count n)) }
      | _ ↦ fetch
    ]

-- it has a place, and all chunks of its bytes are asked for
abbrev pub after_pull : ℕ → CopyView → CopyView
after_pull offset kept =
    record kept { copy = record kept.copy { offset = Some offset; fetch = option_map (with_chunks kept.copy.length) kept.copy.fetch } }

-- it has a place again, and its bytes are read back from the device
abbrev pub after_restore_begun : ℕ → CopyView → CopyView
after_restore_begun offset kept =
    record kept { copy = marked (mark.restoring offset) kept.copy; working = Some Read }

-- it has a place, and what it waits for is asked for
abbrev pub after_placing : Awaited → ℕ → CopyView → CopyView
after_placing (Chunks missing) offset kept = after_pull offset kept
after_placing Device offset kept = after_restore_begun offset kept

-- whether it can wait for that: for all chunks of its bytes, or for the device where it is away and has no fault to tell
abbrev pub CanAwait : Awaited → CopyView → Type 0
CanAwait (Chunks missing) kept = (is_fetching kept.copy.state ≡ true) × (missing.items ≡ counted 0 (chunk_count kept.copy.length))
CanAwait Device kept = (is_away kept.copy.state && is_none kept.copy.fault) ≡ true

-- whether it is of n bytes, and has no place
abbrev pub waits_for_place : ℕ → CopyView → Bool
waits_for_place n kept = is_none kept.copy.offset && kept.copy.length == n
