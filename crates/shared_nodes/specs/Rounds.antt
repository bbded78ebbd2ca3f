-- A round of a worker: keys are erased, and a work is taken, carried out and handed in.
use Rattle.std.specs.Prelude.{◌≡◌, ◌⊎◌, ℕ, Bool, true, false, List, [], ◌∷◌, ◌++◌, Option, Some, None, IsSomeAnd, MatchOption, Result}
use Rattle.std.specs.Option.{option_to_list}
use Rattle.obj_id.specs.declared.commands.Reply.{Reply}
use Rattle.obj_id.specs.declared.commands.Reply.TheVariants as reply
use Rattle.obj_id.specs.declared.refusals.Refusal.TheVariants as refusal
use Rattle.obj_id.specs.declared.works.DeviceKey.{DeviceKey}
use Rattle.obj_id.specs.declared.works.Work.{Work}
use Rattle.private_store.specs.declared.schedules.Event.{Event}
use Rattle.private_store.specs.declared.schedules.Event.TheVariants as event
use Rattle.spill_device.specs.declared.DeviceFault.{DeviceFault}
use Rattle.node_gate.specs.Actors.{ActsIf}
use Rattle.node_housekeeping.specs.declared.device_calls.Finishing.{Finishing}
use Rattle.node_housekeeping.specs.declared.work_done.WorkDone.{WorkDone}
use Rattle.node_housekeeping.specs.declared.work_done.WorkDone.TheVariants as done
use Rattle.node_housekeeping.specs.DeviceCalls.{AreErased, IsCarriedOut, IsErasedIf, written_key}
use Rattle.shared_nodes.specs.Erasing.{keys_in}
use Rattle.shared_nodes.specs.Gathering.{receipts_in_order}

-- what an answer to a Finish makes of a round
abbrev pub done_after : Reply (List ℕ) → WorkDone
done_after (reply.Refused refusal.NoMemory) = done.NoMemory
done_after (reply.Refused r) = done.Stale
done_after response = done.Done

-- whether a Take gave a work
abbrev pub is_work : Reply (List ℕ) → Bool
is_work (reply.Work work) = true
is_work response = false

-- no Take was stepped, and no work given; or one was, and the last receipt tells that it was answered so
abbrev pub HasAskedForWork : {T : Type 0} → (Event → Reply (List ℕ) → T → Type 0) → Reply (List ℕ) → Option T → List Event → List Event → Type 0
HasAskedForWork receipt_of response last before after =
    ((after ≡ before) × (is_work response ≡ false)) ⊎ ((after ≡ before ++ event.Take ∷ []) × IsSomeAnd last (receipt_of event.Take response))

-- no work was given: no Take was stepped, or one of which the last receipt tells that it was answered otherwise
pub record TakesNone {T : Type 0} (receipt_of : Event → Reply (List ℕ) → T → Type 0) (last : Option T) (before after : List Event) : Type 0 where
  pub response : Reply (List ℕ)
  pub asked : HasAskedForWork receipt_of response last before after
  pub none : is_work response ≡ false

-- the event is the Finish of a work that a Take gave, as a receipt tells, with what a device answered that was called for the work; and what
-- was written for it is under its key
pub record IsOfTaken {D T : Type 0} (receipt_of : Event → Reply (List ℕ) → T → Type 0) (writes : D → DeviceKey → List ℕ → Result (Unit {0}) DeviceFault → D → Type 0) (reads : D → DeviceKey → ℕ → Result (List ℕ) DeviceFault → D → Type 0)
    (finishing : Finishing) : Type 0 where
  pub work : Work (List ℕ)
  pub taken : T
  pub is_taken : receipt_of event.Take (reply.Work work) taken
  pub before : D
  pub after : D
  pub carried : IsCarriedOut writes reads before work finishing.event after
  pub is_key : finishing.written ≡ written_key work.kind work.key

-- the event was answered so, and its receipt comes after this one; without memory there is none, and no step was made
pub record IsHandedIn {T : Type 0} (receipt_of : Event → Reply (List ℕ) → T → Type 0) (made : Event) (response : Reply (List ℕ)) (last : Option T) (receipts : List T) (before after : List Event) : Type 0 where
  pub earlier : List T
  pub given : Option T
  pub are : receipts ≡ receipts_in_order earlier last ++ option_to_list given
  pub is_given : MatchOption given (response ≡ reply.Refused refusal.NoMemory) (receipt_of made response)
  pub acts : ActsIf given made before after

-- what a round that ended so keeps of what it handed in
abbrev pub kept_after : WorkDone → Finishing → Option Finishing
kept_after done.NoMemory finishing = Some finishing
kept_after done.Nothing finishing = None
kept_after done.Done finishing = None
kept_after done.Stale finishing = None

-- the Finish is handed in, and with its answer the round ends: it is kept if there was no memory for it
pub record EndsRound {D T : Type 0} (receipt_of : Event → Reply (List ℕ) → T → Type 0) (erases : D → DeviceKey → Result (Unit {0}) DeviceFault → D → Type 0) (finishing : Finishing) (old : D) (went : WorkDone) (new : D) (kept : Option Finishing) (last : Option T) (receipts : List T)
    (before after : List Event) : Type 0 where
  pub response : Reply (List ℕ)
  pub is_done : went ≡ done_after response
  pub erased : IsErasedIf erases went old finishing.written new
  pub handed : IsHandedIn receipt_of finishing.event response last receipts before after
  pub keeps : kept ≡ kept_after went finishing

-- the device was called for a work that the node gave, and its answer handed in; the receipts of both are the last, and their steps the only ones
pub record HasWorked {D T : Type 0} (receipt_of : Event → Reply (List ℕ) → T → Type 0) (writes : D → DeviceKey → List ℕ → Result (Unit {0}) DeviceFault → D → Type 0) (reads : D → DeviceKey → ℕ → Result (List ℕ) DeviceFault → D → Type 0)
    (erases : D → DeviceKey → Result (Unit {0}) DeviceFault → D → Type 0) (old : D) (went : WorkDone) (new : D) (kept : Option Finishing) (receipts : List T) (before after : List Event) : Type 0 where
  pub work : Work (List ℕ)
  pub finishing : Finishing
  pub between : D
  pub taken : T
  pub is_taken : receipt_of event.Take (reply.Work work) taken
  pub carried : IsCarriedOut writes reads old work finishing.event between
  pub is_key : finishing.written ≡ written_key work.kind work.key
  pub ends : EndsRound receipt_of erases finishing between went new kept (Some taken) receipts (before ++ event.Take ∷ []) after

-- no work was given, and the device not called; or one was
abbrev pub HasTakenWork : {D T : Type 0} → (Event → Reply (List ℕ) → T → Type 0) → (D → DeviceKey → List ℕ → Result (Unit {0}) DeviceFault → D → Type 0) → (D → DeviceKey → ℕ → Result (List ℕ) DeviceFault → D → Type 0)
    → (D → DeviceKey → Result (Unit {0}) DeviceFault → D → Type 0) → D → WorkDone → D → Option Finishing → Option T → List T → List Event → List Event → Type 0
HasTakenWork receipt_of writes reads erases old went new kept last receipts before after =
    ((new ≡ old) × (kept ≡ None) × ((went ≡ done.Nothing) ⊎ (went ≡ done.NoMemory)) × TakesNone receipt_of last before after)
    ⊎ HasWorked receipt_of writes reads erases old went new kept receipts before after

-- a Finish that was kept is handed in: it is of a work that a Take gave, and has what the device answered then
pub record HandsKept {D T : Type 0} (receipt_of : Event → Reply (List ℕ) → T → Type 0) (writes : D → DeviceKey → List ℕ → Result (Unit {0}) DeviceFault → D → Type 0) (reads : D → DeviceKey → ℕ → Result (List ℕ) DeviceFault → D → Type 0)
    (erases : D → DeviceKey → Result (Unit {0}) DeviceFault → D → Type 0) (finishing : Finishing) (old : D) (went : WorkDone) (new : D) (kept : Option Finishing) (last : Option T) (receipts : List T) (before after : List Event) : Type 0 where
  pub taken : ∥ IsOfTaken receipt_of writes reads finishing ∥₁
  pub ends : EndsRound receipt_of erases finishing old went new kept last receipts before after

-- a round: keys are erased that steps gave out; then the Finish that was kept is handed in, or a work is taken, if one is given. The actor made
-- the steps of that and no others
pub record IsRound {D T E : Type 0} (receipt_of : Event → Reply (List ℕ) → T → Type 0) (keys : E → List DeviceKey) (writes : D → DeviceKey → List ℕ → Result (Unit {0}) DeviceFault → D → Type 0)
    (reads : D → DeviceKey → ℕ → Result (List ℕ) DeviceFault → D → Type 0) (erases : D → DeviceKey → Result (Unit {0}) DeviceFault → D → Type 0) (old : D) (kept_old : Option Finishing) (went : WorkDone) (new : D) (kept_new : Option Finishing)
    (last_old last_new : Option T) (receipts : List T) (before after : List Event) : Type 0 where
  pub given : List E
  pub between : D
  pub erased : AreErased erases old (keys_in keys given) between
  pub rest : MatchOption kept_old (HasTakenWork receipt_of writes reads erases between went new kept_new last_new receipts before after) (λ finishing. HandsKept receipt_of writes reads erases finishing between went new kept_new last_old receipts before after)
