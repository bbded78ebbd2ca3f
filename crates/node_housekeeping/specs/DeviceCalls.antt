-- What a device is asked for a work, and what is then handed in.
use Rattle.std.specs.Prelude.{◌≡◌, ℕ, List, ◌∷◌, [], Option, Some, None, Result, Ok, Err}
use Rattle.obj_id.specs.declared.works.DeviceKey.{DeviceKey}
use Rattle.obj_id.specs.declared.works.DeviceAnswer.{DeviceAnswer}
use Rattle.obj_id.specs.declared.works.DeviceAnswer.TheVariants as answer
use Rattle.obj_id.specs.declared.works.Work.{Work}
use Rattle.obj_id.specs.declared.works.WorkKind.{WorkKind}
use Rattle.obj_id.specs.declared.works.WorkKind.TheVariants.{Write, Read}
use Rattle.private_store.specs.declared.schedules.Event.{Event}
use Rattle.private_store.specs.declared.schedules.Event.TheVariants as event
use Rattle.spill_device.specs.declared.DeviceFault.{DeviceFault}
use Rattle.node_housekeeping.specs.declared.work_done.WorkDone.{WorkDone}
use Rattle.node_housekeeping.specs.declared.work_done.WorkDone.TheVariants as done

-- what is handed in for a write that went so, and for a read
abbrev pub device_after_write : Result (Unit {0}) DeviceFault → DeviceAnswer
device_after_write (Ok u) = answer.Done
device_after_write (Err fault) = answer.Failed

abbrev pub after_read : Result (List ℕ) DeviceFault → DeviceAnswer
after_read (Ok bytes) = answer.Bytes bytes
after_read (Err fault) = answer.Failed

-- a work with bytes is a write of them, and another one a read; each device says of its own calls what they may give
abbrev pub IsWorkAsked : {D : Type 0} → (D → DeviceKey → List ℕ → Result (Unit {0}) DeviceFault → D → Type 0) → (D → DeviceKey → ℕ → Result (List ℕ) DeviceFault → D → Type 0) → D → DeviceKey → ℕ → Option (List ℕ) → DeviceAnswer → D → Type 0
IsWorkAsked writes reads old key n (Some bytes) response new = (went : Result (Unit {0}) DeviceFault) × (response ≡ device_after_write went) × writes old key bytes went new
IsWorkAsked writes reads old key n None response new = (went : Result (List ℕ) DeviceFault) × (response ≡ after_read went) × reads old key n went new

-- the device was called for the work, and the event hands in its answer
pub record IsCarriedOut {D : Type 0} (writes : D → DeviceKey → List ℕ → Result (Unit {0}) DeviceFault → D → Type 0) (reads : D → DeviceKey → ℕ → Result (List ℕ) DeviceFault → D → Type 0) (old : D) (work : Work (List ℕ)) (made : Event) (new : D) : Type 0 where
  pub response : DeviceAnswer
  pub is_finish : made ≡ event.Finish work.job work.number response
  pub asked : IsWorkAsked writes reads old work.key work.length work.payload response new

-- the key under which a work of this kind writes
abbrev pub written_key : WorkKind → DeviceKey → Option DeviceKey
written_key Write key = Some key
written_key Read key = None

-- the device was asked to erase each of these keys, in order
abbrev pub AreErased : {D : Type 0} → (D → DeviceKey → Result (Unit {0}) DeviceFault → D → Type 0) → D → List DeviceKey → D → Type 0
AreErased erases old [] new = new ≡ old
AreErased {D} erases old (key ∷ keys) new = (between : D) × (went : Result (Unit {0}) DeviceFault) × erases old key went between × AreErased erases between keys new

-- what was written is erased if the Finish came too late; otherwise nothing is asked of the device
abbrev pub IsErasedIf : {D : Type 0} → (D → DeviceKey → Result (Unit {0}) DeviceFault → D → Type 0) → WorkDone → D → Option DeviceKey → D → Type 0
IsErasedIf erases done.Stale old (Some key) new = AreErased erases old (key ∷ []) new
IsErasedIf erases went old written new = new ≡ old
