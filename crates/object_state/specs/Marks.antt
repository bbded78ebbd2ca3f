-- The marks of a copy: what its state and its kind leave to the others, and the words that are used of it.
use Rattle.std.specs.Prelude.{◌≡◌, ℕ, Bool, true, false, not, ◌&&◌, ◌||◌, if◌then◌else◌, Option, Some, None, is_some, is_none}
use Rattle.std.specs.Option.{option_map_or}
use Rattle.obj_id.specs.declared.commands.Kind.{Kind}
use Rattle.obj_id.specs.declared.commands.Kind.TheVariants.{Secondary}
use Rattle.obj_id.specs.declared.commands.CopyState.{CopyState}
use Rattle.obj_id.specs.declared.commands.CopyState.TheVariants.{Created, Sealed, Fetching, Away}
use Rattle.obj_id.specs.declared.messages.Digest.{Digest}
use Rattle.obj_id.specs.declared.works.WorkKind.{WorkKind}
use Rattle.obj_id.specs.declared.refusals.Refusal.{Refusal}
use Rattle.obj_id.specs.declared.refusals.Refusal.TheVariants.{AlreadySealed}
use Rattle.private_store.specs.declared.faults.Fault.{Fault}
use Rattle.private_store.specs.declared.faults.Fault.TheVariants.{DeviceFailed, Damaged}
use Rattle.private_store.specs.declared.inputs.WorkVerdict.{WorkVerdict}
use Rattle.private_store.specs.declared.inputs.WorkVerdict.TheVariants as work
use Rattle.obj_id.specs.Kinds.{is_primary}
use Rattle.obj_id.specs.Works.{is_write}
use Rattle.private_store.specs.rules.Copies.{is_created, is_sealed, is_away, was_sealed, may_evict, may_spill, may_drain}
use Rattle.private_store.specs.laws.Invariants.{is_restoring, is_fetching}

-- a copy, without what stands on it: extent, pins, holds, and the fetch that brings it
pub record Marks : Type 0 where
  pub state : CopyState
  pub kind : Kind
  -- the object's bytes; of a fetch that isn't sized, 0
  pub length : ℕ
  -- from the seal, or from the source that a fetch chose
  pub digest : Option Digest
  -- the number of the write that put its bytes on the device
  pub backed : Option ℕ
  -- whether it goes as soon as nothing keeps it
  pub doomed : Bool
  -- the work in flight that writes it or reads it back
  pub working : Option WorkKind
  -- of a restore, what the next Get answers
  pub fault : Option Fault

-- ---- what always holds of the marks

-- a write of it is in flight
abbrev pub is_written : Marks → Bool
is_written copy = option_map_or is_write copy.working false

-- a read of it is in flight
abbrev pub is_read : Marks → Bool
is_read copy = option_map_or (λ w. not (is_write w)) copy.working false

-- the facts that the marks of every copy keep
pub record IsMarked (copy : Marks) : Type 0 where
  -- a secondary isn't backed, and what is fetched is a secondary
  pub secondary : is_primary copy.kind ≡ false → copy.backed ≡ None
  pub fetched : is_fetching copy.state ≡ true → is_primary copy.kind ≡ false
  -- what is away, or comes back, is a backed primary, and what is backed was sealed
  pub away : is_away copy.state || is_restoring copy.state ≡ true → (is_primary copy.kind ≡ true) × (is_some copy.backed ≡ true)
  pub backed : is_some copy.backed ≡ true → was_sealed copy.state ≡ true
  -- what is being spilled is a sealed primary that isn't backed, and what is being read back is Restoring
  pub spilled : is_written copy ≡ true → (is_sealed copy.state ≡ true) × (is_primary copy.kind ≡ true) × (copy.backed ≡ None)
  pub restored : is_read copy ≡ is_restoring copy.state
  -- only what is away has a fault to tell of, of a restore
  pub faulty : is_some copy.fault ≡ true → is_away copy.state ≡ true
  -- what was sealed has a digest, and what is being written has none
  pub sealed : was_sealed copy.state ≡ true → is_some copy.digest ≡ true
  pub unsealed : is_created copy.state ≡ true → copy.digest ≡ None

-- ---- the words that are used of a copy; whether it is held, granted or resident others know

-- neither held nor granted nor working
abbrev pub marks_are_idle : Marks → Bool → Bool → Bool
marks_are_idle copy held granted = not held && not granted && is_none copy.working

abbrev pub marks_are_evictable : Marks → Bool → Bool → Bool
marks_are_evictable copy held granted = may_evict copy.state copy.kind copy.backed (marks_are_idle copy held granted)

-- whether the end of its work, with nothing else, would let its extent go
abbrev pub marks_are_draining : Marks → Bool → Bool → Bool → Bool
marks_are_draining copy resident held granted = may_drain (is_some copy.working) resident held granted

abbrev pub marks_are_spillable : Marks → Bool → Bool → Bool
marks_are_spillable copy held granted = may_spill copy.state copy.kind copy.backed copy.doomed (marks_are_idle copy held granted)

-- ---- which change a copy can take

-- on its way, and its digest known
abbrev pub marks_are_sized : Marks → Bool
marks_are_sized copy = is_fetching copy.state && is_some copy.digest

-- a sealed primary without bytes on the device, and no work of it
abbrev pub marks_can_spill : Marks → Bool
marks_can_spill copy = is_sealed copy.state && is_primary copy.kind && is_none copy.backed && is_none copy.working

-- sealed, with its bytes on the device
abbrev pub marks_can_go_away : Marks → Bool
marks_can_go_away copy = is_sealed copy.state && is_some copy.backed

-- on the device alone, with no fault to tell of
abbrev pub can_restore : Marks → Bool
can_restore copy = is_away copy.state && is_none copy.fault

-- ---- the changes

-- a copy to be written
abbrev pub new_marks : Kind → ℕ → Marks
new_marks kind n =
    record { state = Created; kind = kind; length = n; digest = None; backed = None; doomed = false; working = None; fault = None }

-- a copy that is on its way from another node, its length not known yet
abbrev pub fetched_marks : Marks
fetched_marks = record (new_marks Secondary 0) { state = Fetching }

-- why a copy can't be sealed
abbrev pub marks_seal_check : Marks → Option Refusal
marks_seal_check copy = if is_created copy.state then None else Some AlreadySealed

-- the write is over: it backs the copy, unless it failed
abbrev pub marks_written : Marks → ℕ → Bool → Marks
marks_written copy number failed = record copy { working = None; backed = if failed then copy.backed else Some number }

-- the read is over
abbrev pub marks_read_back : Marks → WorkVerdict → Marks
marks_read_back copy work.Fine = record copy { state = Sealed; working = None }
marks_read_back copy work.Failed = record copy { state = Away; working = None; fault = Some DeviceFailed }
marks_read_back copy work.Damaged = record copy { state = Away; working = None; fault = Some Damaged }
