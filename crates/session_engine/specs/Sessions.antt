-- A session: the answer to each item, over a gate that is known by a relation of the gate before, what it is
-- asked, what it answers, and the gate after.
use Rattle.std.specs.Prelude.{◌≡◌, ℕ, List, [], ◌∷◌, Option, Some, None, Result, Ok, Err}
use Rattle.obj_id.specs.declared.ids.JobNo.{JobNo}
use Rattle.obj_id.specs.declared.works.JobKey.{JobKey}
use Rattle.obj_id.specs.declared.refusals.Refusal.{Refusal}
use Rattle.obj_id.specs.declared.refusals.Refusal.TheVariants.{NotAdmitted, BadId, Exists}
use Rattle.obj_id.specs.declared.commands.Reply.{Reply}
use Rattle.obj_id.specs.declared.commands.Reply.TheVariants as reply
use Rattle.private_store.specs.declared.frames.Item.{Item}
use Rattle.private_store.specs.declared.frames.Item.TheVariants as item
use Rattle.session_engine.specs.declared.session.SessionId.{SessionId}
use Rattle.session_engine.specs.Calls.{GateCall, to_enter, to_call, to_wait, to_leave, GateAnswer, replied, left, entry_answer}

-- what is written to a Hello
abbrev pub greeting : Result ℕ Refusal → Reply (List ℕ)
greeting (Ok number) = reply.Ok
greeting (Err refusal) = reply.Refused refusal

-- the session's seat after a Hello: the Hello's job, and the number that the gate gave
abbrev pub session_id_of : JobNo → Result ℕ Refusal → Option SessionId
session_id_of job (Ok number) = Some (record { job = job; number = number })
session_id_of job (Err refusal) = None

-- where a session stands: its gate, its seat, and what its writer holds, where that is known
pub record SessionState (G : Type 0) : Type 0 where
  pub gate : G
  pub session_id : Option SessionId
  pub written : Option (List ℕ)

abbrev pub session_state : {G : Type 0} → G → Option SessionId → Option (List ℕ) → SessionState G
session_state gate session_id written = record { gate = gate; session_id = session_id; written = written }

module _ {G : Type 0} (gives : G → GateCall → GateAnswer → G → Type 0) where
  -- the session answers by itself; neither its seat nor the gate changes
  pub record RefusesAlone (refusal : Refusal) (before : G) (session_id : Option SessionId) (answer : Reply (List ℕ)) (after : G) (session_id_after : Option SessionId) : Type 0 where
    pub answered : answer ≡ reply.Refused refusal
    pub gate : after ≡ before
    pub same : session_id_after ≡ session_id

  -- the answer is the gate's
  pub record Passes (asked : GateCall) (before : G) (session_id : Option SessionId) (answer : Reply (List ℕ)) (after : G) (session_id_after : Option SessionId) : Type 0 where
    pub answered : gives before asked (replied answer) after
    pub same : session_id_after ≡ session_id

  -- the session has entered where the gate gave it a number
  pub record Greets (job : JobNo) (key : JobKey) (before : G) (answer : Reply (List ℕ)) (after : G) (session_id_after : Option SessionId) : Type 0 where
    pub entry : Result ℕ Refusal
    pub asked : gives before (to_enter job key) (entry_answer entry) after
    pub answered : answer ≡ greeting entry
    pub entered : session_id_after ≡ session_id_of job entry

  -- the answer to an item, before an accepted Hello and after it
  abbrev pub AnswersItem : G → Option SessionId → Item → Reply (List ℕ) → G → Option SessionId → Type 0
  AnswersItem before None (item.Hello job key) = Greets job key before
  AnswersItem before None (item.Command c) = RefusesAlone NotAdmitted before None
  AnswersItem before None (item.Wait awaited) = RefusesAlone NotAdmitted before None
  AnswersItem before None item.BadId = RefusesAlone BadId before None
  AnswersItem before (Some at) (item.Hello job key) = RefusesAlone Exists before (Some at)
  AnswersItem before (Some at) (item.Command c) = Passes (to_call at.job at.number c) before (Some at)
  AnswersItem before (Some at) (item.Wait awaited) = Passes (to_wait at.job at.number awaited) before (Some at)
  AnswersItem before (Some at) item.BadId = RefusesAlone BadId before (Some at)

  -- one item's answer, and then others
  pub record Then (before : G) (session_id : Option SessionId) (x : Item) (answer : Reply (List ℕ)) (rest : G → Option SessionId → Type 0) : Type 0 where
    pub gate : G
    pub session_id_then : Option SessionId
    pub first : AnswersItem before session_id x answer gate session_id_then
    pub others : rest gate session_id_then

  -- the items are answered in order, each by the gate and in the seat that the one before it left
  abbrev pub Run : List Item → List (Reply (List ℕ)) → G → Option SessionId → G → Option SessionId → Type 0
  Run [] [] before session_id after session_id_after = (after ≡ before) × (session_id_after ≡ session_id)
  Run [] (_ ∷ _) before session_id after session_id_after = ⊥
  Run (_ ∷ _) [] before session_id after session_id_after = ⊥
  Run (x ∷ items) (answer ∷ replies) before session_id after session_id_after = Then before session_id x answer (λ gate session_id_then. Run items replies gate session_id_then after session_id_after)

  -- a session that entered asks once to be left
  abbrev pub Leaves : Option SessionId → G → G → Type 0
  Leaves None before after = after ≡ before
  Leaves (Some at) before after = gives before (to_leave at.job at.number) left after
