-- What a session asks its gate, and what the gate answers.
use Rattle.std.specs.Prelude.{ℕ, List, Result, Ok, Err, ⊤}
use Rattle.obj_id.specs.declared.ids.JobNo.{JobNo}
use Rattle.obj_id.specs.declared.works.JobKey.{JobKey}
use Rattle.obj_id.specs.declared.refusals.Refusal.{Refusal}
use Rattle.obj_id.specs.declared.refusals.Refusal.TheVariants.{NotAdmitted, TooMany, NoMemory}
use Rattle.obj_id.specs.declared.commands.Command.{Command}
use Rattle.obj_id.specs.declared.commands.Reply.{Reply}
use Rattle.obj_id.specs.declared.commands.Reply.TheVariants as reply
use Rattle.private_store.specs.declared.frames.Awaited.{Awaited}

-- to enter a job; a command of a job's session; a command that is tried until it isn't Pending; a session's last Leave
pub data GateCall : Type 0 where
  to_enter : JobNo → JobKey → GateCall
  to_call : JobNo → ℕ → Command (List ℕ) → GateCall
  to_wait : JobNo → ℕ → Awaited → GateCall
  to_leave : JobNo → ℕ → GateCall

-- the number of the session that entered; a reply; the end of a session, to which nothing is said
pub data GateAnswer : Type 0 where
  entered : ℕ → GateAnswer
  replied : Reply (List ℕ) → GateAnswer
  left : GateAnswer

-- who isn't let in is refused
abbrev pub entry_answer : Result ℕ Refusal → GateAnswer
entry_answer (Ok number) = entered number
entry_answer (Err refusal) = replied (reply.Refused refusal)

-- why a session isn't let in: no such job here or another key, no number left, or no memory
abbrev pub IsEntryRefusal : Refusal → Type 0
IsEntryRefusal NotAdmitted = ⊤
IsEntryRefusal TooMany = ⊤
IsEntryRefusal NoMemory = ⊤
IsEntryRefusal _ = ⊥
