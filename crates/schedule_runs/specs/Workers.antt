-- The device workers of a schedule: which works they keep, what the devices hold, and what they hand in. All of it follows
-- from the steps that were taken and their answers.
use Rattle.std.specs.Prelude.{◌≡◌, ℕ, ◌<◌, ◌==◌, Bool, not, ◌&&◌, if◌then◌else◌, List, [], ◌∷◌, ◌++◌, length, filter, find, slice_get, Option, Some, None}
use Rattle.std.specs.Option.{option_and_then}
use Rattle.obj_id.specs.declared.ids.JobNo.{JobNo}
use Rattle.obj_id.specs.declared.works.DeviceKey.{DeviceKey}
use Rattle.obj_id.specs.declared.works.DeviceAnswer.{DeviceAnswer}
use Rattle.obj_id.specs.declared.works.DeviceAnswer.TheVariants.{Done, Bytes, Failed}
use Rattle.obj_id.specs.declared.works.Work.{Work}
use Rattle.obj_id.specs.declared.commands.Reply.TheVariants as reply
use Rattle.private_store.specs.rules.Cluster.{damaged_bytes}
use Rattle.private_store.specs.rules.Trace.{is_no_memory}
use Rattle.private_store.specs.declared.schedules.Event.TheVariants as event
use Rattle.private_store.specs.declared.schedules.Step.{Step}
use Rattle.private_store.specs.declared.schedules.Step.TheVariants.{At}
use Rattle.private_store.specs.declared.schedules.StepAnswer.{StepAnswer}
use Rattle.private_store.specs.declared.schedules.StepAnswer.TheVariants.{Response}
use Rattle.private_store.specs.declared.schedules.Traced.{Traced}
use Rattle.schedule_text.specs.declared.line.FinishWord.{FinishWord}
use Rattle.schedule_text.specs.declared.line.FinishWord.TheVariants as outcome
use Rattle.spill_device.specs.Held.{Held, held_bytes_at, same_device_key}
use Rattle.schedule_runs.specs.declared.workers.InService.{InService}

-- ---- the works that are kept

abbrev pub is_taken_at : ℕ → JobNo → ℕ → InService → Bool
is_taken_at node job number taken = taken.node == node && taken.work.job.0 == job.0 && taken.work.number == number

-- a work that a Take gave is kept until a Finish of it that had memory
abbrev pub crew_after_take : Step → StepAnswer → List InService → List InService
crew_after_take (At node event.Take) (Response (reply.Work work)) taken = taken ++ record { node = node; work = work } ∷ []
crew_after_take (At node (event.Finish job number answer)) response taken = if is_no_memory response then taken else filter (λ t. not (is_taken_at node job number t)) taken
crew_after_take _ _ taken = taken

-- after these steps, newest first
abbrev pub works_taken : List Traced → List InService
works_taken [] = []
works_taken (entry ∷ history) = crew_after_take entry.step entry.answer (works_taken history)

-- ---- what the devices hold

-- what a call for the work writes under the key: a write carries its bytes
abbrev pub written_for : Work (List ℕ) → DeviceKey → Option (List ℕ)
written_for work key = if same_device_key work.key key then work.payload else None

-- what was written under the node's key for a step: to hand in that a write is done, the device was called
abbrev pub bytes_put : List InService → Step → ℕ → DeviceKey → Option (List ℕ)
bytes_put taken (At place (event.Finish job number Done)) node key =
    if place == node then option_and_then (λ t. written_for t.work key) (find (is_taken_at place job number) taken) else None
bytes_put taken _ node key = None

-- what is there after a write, if there was one
abbrev pub bytes_after : Option (List ℕ) → Option (List ℕ) → Option (List ℕ)
bytes_after (Some bytes) before = Some bytes
bytes_after None before = before

-- what the device of a node has under a key, after these steps
abbrev pub device_bytes_of : List Traced → ℕ → DeviceKey → Option (List ℕ)
device_bytes_of [] node key = None
device_bytes_of (entry ∷ history) node key = bytes_after (bytes_put (works_taken history) entry.step node key) (device_bytes_of history node key)

-- ---- what is handed in

-- what is read where this is under the key
abbrev pub read_answer : Option (List ℕ) → ℕ → DeviceAnswer
read_answer None n = Failed
read_answer (Some bytes) n = if length bytes == n then Bytes bytes else Failed

-- what the device answers to a work, by what it has under the work's key
abbrev pub call_answer : Option (List ℕ) → Work (List ℕ) → DeviceAnswer
call_answer under work = elim work.payload [ Some bytes ↦ Done | None ↦ read_answer under work.length ]

-- no device is called for a work that isn't kept: it has failed
abbrev pub called : (ℕ → DeviceKey → Option (List ℕ)) → ℕ → Option InService → DeviceAnswer
called held node None = Failed
called held node (Some taken) = call_answer (held node taken.work.key) taken.work

-- the low bit of the first byte that was read is turned
abbrev pub damaged_answer : DeviceAnswer → DeviceAnswer
damaged_answer (Bytes bytes) = Bytes (damaged_bytes bytes)
damaged_answer answer = answer

abbrev pub handed_in : List InService → (ℕ → DeviceKey → Option (List ℕ)) → ℕ → JobNo → ℕ → FinishWord → DeviceAnswer
handed_in taken held node job number outcome.Ok = called held node (find (is_taken_at node job number) taken)
handed_in taken held node job number outcome.Fail = Failed
handed_in taken held node job number outcome.Damage = damaged_answer (called held node (find (is_taken_at node job number) taken))

-- what is handed in for a work after these steps
abbrev pub device_answer_due : List Traced → ℕ → JobNo → ℕ → FinishWord → DeviceAnswer
device_answer_due history node job number outcome = handed_in (works_taken history) (device_bytes_of history) node job number outcome

-- ---- the workers of a run

pub record Crew : Type 0 where
  -- of each node, by number
  pub devices : List Held
  pub taken : List InService

-- what the devices have under the keys of the nodes
abbrev pub held_by : List Held → ℕ → DeviceKey → Option (List ℕ)
held_by devices node key = option_and_then (λ device. held_bytes_at device key) (slice_get devices node)

-- the crew keeps these works, and its devices, one for each node, have these bytes
pub record IsCrew (nodes : ℕ) (crew : Crew) (taken : List InService) (held : ℕ → DeviceKey → Option (List ℕ)) : Type 0 where
  pub count : length crew.devices ≡ nodes
  pub kept : crew.taken ≡ taken
  pub holds : (node : ℕ) (key : DeviceKey) → node < nodes → held_by crew.devices node key ≡ held node key

-- after these steps, newest first
abbrev pub IsCrewAfter : ℕ → Crew → List Traced → Type 0
IsCrewAfter nodes crew history = IsCrew nodes crew (works_taken history) (device_bytes_of history)

-- a device was called, if one had to be, for what is handed in
pub record Calls (old : Crew) (node : ℕ) (job : JobNo) (number : ℕ) (answer : DeviceAnswer) (new : Crew) : Type 0 where
  pub kept : new.taken ≡ old.taken
  pub count : length new.devices ≡ length old.devices
  pub holds : (place : ℕ) (key : DeviceKey) → place < length old.devices
      → held_by new.devices place key ≡ bytes_after (bytes_put old.taken (At node (event.Finish job number answer)) place key) (held_by old.devices place key)

-- what the crew keeps after a step with its answer
abbrev pub noted : Step → StepAnswer → Crew → Crew
noted step response crew = record crew { taken = crew_after_take step response crew.taken }
