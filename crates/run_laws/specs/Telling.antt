-- Two traces that differ in what other jobs do with a job's objects.
use Rattle.std.specs.Prelude.{◌≡◌, ℕ, ◌==◌, Bool, true, false, not, ◌&&◌, List, map, filter}
use Rattle.obj_id.specs.declared.ids.JobNo.{JobNo}
use Rattle.obj_id.specs.declared.ids.ObjectId.{ObjectId}
use Rattle.obj_id.specs.declared.commands.Command.{Command}
use Rattle.obj_id.specs.declared.commands.Command.TheVariants as command
use Rattle.private_store.specs.declared.schedules.Event.TheVariants as event
use Rattle.private_store.specs.declared.schedules.Step.{Step}
use Rattle.private_store.specs.declared.schedules.Step.TheVariants as steps
use Rattle.private_store.specs.declared.schedules.StepAnswer.{StepAnswer}
use Rattle.private_store.specs.declared.schedules.Traced.{Traced}
use Rattle.private_store.specs.rules.Trace.{Agree, is_no_memory, replies_of}
use Rattle.private_store.specs.rules.Shared.{AreSharedAnswers}
use Rattle.run_laws.specs.Standing.{ArePrivate}

-- another job's command, about one of the job's own objects
abbrev pub is_of_others : ℕ → JobNo → ObjectId → Bool
is_of_others job caller id = not (caller.0 == job) && id.job.0 == job

-- another job grants on, withdraws or looks at one of the job's own objects
abbrev pub is_aside : ℕ → Step → Bool
is_aside job (steps.At node (event.Call caller session (command.Grant id target))) = is_of_others job caller id
is_aside job (steps.At node (event.Call caller session (command.Withdraw id target))) = is_of_others job caller id
is_aside job (steps.At node (event.Call caller session (command.Peek id offset n))) = is_of_others job caller id
is_aside job _ = false

-- what counts of an answer: all of it, whether there was memory for the step, or nothing
pub data Heard : Type 0 where
  all : StepAnswer → Heard
  whether : Bool → Heard
  nothing : Heard

-- of the answer to a command: all if another job grants, nothing if another job peeks or lists, and else whether there was
-- memory
abbrev pub heard_of : Bool → Command (List ℕ) → StepAnswer → Heard
heard_of true c a = whether (is_no_memory a)
heard_of false (command.Grant id target) a = all a
heard_of false (command.Peek id offset n) a = nothing
heard_of false command.List a = nothing
heard_of false c a = whether (is_no_memory a)

abbrev pub heard : ℕ → Step → StepAnswer → Heard
heard job (steps.At node (event.Call caller session c)) a = heard_of (caller.0 == job) c a
heard job _ a = all a

-- where the shared answers are those that are due, they follow from the rest
abbrev pub heard_where_due : ℕ → Step → StepAnswer → Heard
heard_where_due job (steps.At node (event.Call caller session c)) a = heard_of (caller.0 == job) c a
heard_where_due job _ a = whether (is_no_memory a)

-- a step with what counts of its answer
pub record Counted : Type 0 where
  pub step : Step
  pub answer : Heard

abbrev pub counted_answers : (Step → StepAnswer → Heard) → Traced → Counted
counted_answers hear entry = record { step = entry.step; answer = hear entry.step entry.answer }

-- what counts of a trace: all steps but those that are aside
abbrev pub counting : (Step → StepAnswer → Heard) → ℕ → List Traced → List Counted
counting hear job trace = map (counted_answers hear) (filter (λ entry. not (is_aside job entry.step)) trace)

-- the job has the same inputs in both, and is answered the same
abbrev pub ShowsAlike : ℕ → ℕ → List Traced → List Traced → Type 0
ShowsAlike nodes job first second = Agree nodes job first second × (replies_of job first ≡ replies_of job second)

-- so it is if nothing else that counts differs
abbrev pub OthersDontShow : ℕ → ℕ → List Traced → List Traced → Type 0
OthersDontShow nodes job first second =
    ArePrivate nodes first → ArePrivate nodes second → counting (heard job) job first ≡ counting (heard job) job second → ShowsAlike nodes job first second

-- and, where the shared answers are due, if the other steps are the same, other jobs' other Grants are answered the same, and
-- there is memory in both or in neither
abbrev pub OthersDontShowWhereDue : ℕ → ℕ → ℕ → List Traced → List Traced → Type 0
OthersDontShowWhereDue nodes memory job first second =
    ArePrivate nodes first → ArePrivate nodes second → AreSharedAnswers nodes memory first → AreSharedAnswers nodes memory second
    → counting (heard_where_due job) job first ≡ counting (heard_where_due job) job second → ShowsAlike nodes job first second
