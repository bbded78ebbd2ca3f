-- What a session's gate promises of its answers.
use Rattle.std.specs.Prelude.{◌≡◌, ℕ, ◌⊎◌, List, [], ◌∷◌, ◌++◌, Option, Some, None, IfSome, IsSomeAnd, option_map, ⊤}
use Rattle.obj_id.specs.declared.ids.JobNo.{JobNo}
use Rattle.obj_id.specs.declared.commands.Reply.{Reply}
use Rattle.obj_id.specs.declared.commands.Reply.TheVariants as reply
use Rattle.obj_id.specs.declared.refusals.Refusal.TheVariants.{NoMemory}
use Rattle.private_store.specs.rules.Frames.{tried}
use Rattle.private_store.specs.declared.schedules.Event.{Event}
use Rattle.private_store.specs.declared.schedules.Event.TheVariants as event
use Rattle.obj_id.specs.declared.commands.Command.TheVariants as command
use Rattle.node_gate.specs.Actors.{HasTried}
use Rattle.node_gate.specs.Calls.{IsLast, IsNext, Pass}
use Rattle.node_housekeeping.specs.declared.marked_sessions.Marked.{Marked}
use Rattle.session_engine.specs.Calls.{GateCall, to_enter, to_call, to_wait, to_leave, GateAnswer, entered, replied, left}

-- what a session was let in with, until it is left, and that of which it was marked last, to be left later
pub record Holding : Type 0 where
  pub let_in : Option Pass
  pub marked : Option Pass

-- the passes of what it holds
abbrev pub holding : {N : Type 0} → (N → Pass) → Option N → Option (Marked N) → Holding
holding pass inside mark = record { let_in = option_map pass inside; marked = option_map (λ m. pass m.of.value) mark }

-- what it was let in with is marked; if that was nothing, the mark is the one from before
abbrev pub marked_after : Option Pass → Option Pass → Option Pass
marked_after (Some pass) marked = Some pass
marked_after None marked = marked

-- the last receipt is of this job, session, command and answer, its step came after that of the one before, and the session made no other; or
-- there was no memory, and it made none
abbrev pub IsStepped : {T : Type 0} → (Event → Reply (List ℕ) → T → Type 0) → (T → T → Type 0) → Event → Reply (List ℕ) → Option T → Option T → List Event → List Event → Type 0
IsStepped called rises e response before last was acts =
    (IsSomeAnd last (IsNext called rises before e response) × (acts ≡ was ++ e ∷ [])) ⊎ ((response ≡ reply.Refused NoMemory) × (last ≡ before) × (acts ≡ was))

-- the same of a command that waits: the session made steps of it, as many as it was tried, and no others, and each try but the last was
-- answered Pending
abbrev pub IsAwaited : {T : Type 0} → (Event → Reply (List ℕ) → T → Type 0) → (T → T → Type 0) → Event → Reply (List ℕ) → Option T → Option T → List Event → List Event → Type 0
IsAwaited called rises e response before last was acts =
    (IsSomeAnd last (IsNext called rises before e response) × HasTried called last e was acts)
    ⊎ ((response ≡ reply.Refused NoMemory) × (last ≡ before) × HasTried called None e was acts)

-- the last receipt is of the Leave, its step came after that of the one before, and the session made no other; or it made none, and what it was let
-- in with is marked, to be left later
abbrev pub IsLeaveOf : {T : Type 0} → (Event → Reply (List ℕ) → T → Type 0) → (T → T → Type 0) → JobNo → ℕ → Option T → Option T → List Event → List Event → Holding → Holding → Type 0
IsLeaveOf called rises job session before last was acts kept held =
    (IsSomeAnd last (IsLast called rises before job session) × (acts ≡ was ++ event.Call job session command.Leave ∷ []) × (held ≡ kept))
    ⊎ ((last ≡ before) × (acts ≡ was) × (held.let_in ≡ None) × (held.marked ≡ marked_after kept.let_in kept.marked))

-- the session that entered is the last that was let in, with this job, key and number; it keeps that until it is left, and no call but a Leave
-- changes what is marked
abbrev pub IsLetIn : GateCall → GateAnswer → Holding → Holding → Type 0
IsLetIn (to_enter job key) (entered number) kept held = (held.let_in ≡ Some (record { job = job; key = key; session = number })) × (held.marked ≡ kept.marked)
IsLetIn (to_leave job session) response kept held = ⊤
IsLetIn _ _ kept held = held ≡ kept

-- the last receipt is the one from before, or of a step at the session's node
abbrev pub IsMadeAt : {T : Type 0} → (T → ℕ) → ℕ → Option T → Option T → Type 0
IsMadeAt made_at node before last = (last ≡ before) ⊎ IfSome last (λ receipt. made_at receipt ≡ node)

-- who only enters has no receipt of it, and makes no step
abbrev pub IsWitnessed : {T : Type 0} → (Event → Reply (List ℕ) → T → Type 0) → (T → T → Type 0) → GateCall → GateAnswer → Option T → Option T → List Event → List Event → Holding → Holding → Type 0
IsWitnessed called rises (to_call job session c) (replied response) before last was acts kept held = IsStepped called rises (event.Call job session c) response before last was acts
IsWitnessed called rises (to_wait job session a) (replied response) before last was acts kept held = IsAwaited called rises (event.Call job session (tried a)) response before last was acts
IsWitnessed called rises (to_leave job session) left before last was acts kept held = IsLeaveOf called rises job session before last was acts kept held
IsWitnessed called rises _ _ before last was acts kept held = (last ≡ before) × (acts ≡ was)
