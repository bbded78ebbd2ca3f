-- What an event at a node, with its answer, is to every job there: a list of inputs.
use Rattle.std.specs.Prelude.{ℕ, ◌==◌, Bool, if◌then◌else◌, List, [], ◌∷◌, ◌++◌, map, filter, Option, Some, None, option_to_list}
use Rattle.std.specs.Option.{option_map_or}
use Rattle.obj_id.specs.declared.ids.ObjectId.{ObjectId}
use Rattle.obj_id.specs.declared.commands.Command.TheVariants as command
use Rattle.obj_id.specs.declared.commands.Reply.{Reply}
use Rattle.obj_id.specs.declared.commands.Reply.TheVariants as reply
use Rattle.private_store.specs.declared.inputs.Input.{Input}
use Rattle.private_store.specs.declared.inputs.Input.TheVariants as input
use Rattle.private_store.specs.declared.schedules.Event.{Event}
use Rattle.private_store.specs.declared.schedules.Event.TheVariants as event
use Rattle.private_store.specs.rules.Grants.{StandingGrant, new_grant, grants_ended}
use Rattle.private_store.specs.declared.schedules.Traced.{Traced}
use Rattle.private_store.specs.rules.Trace.{ends, grants_by, grants_at, is_out, granted_bytes, inputs_until}
pub use Rattle.private_store.specs.laws.Answers.{wants_memory}
use Rattle.private_store.specs.declared.schedules.NodeEvent.{NodeEvent}
use Rattle.private_store.specs.declared.schedules.NodeEvent.TheVariants.{Own, Arrive}

-- an input of a job at the node
pub record JobInput : Type 0 where
  pub job : ℕ
  pub input : Input

-- what a node knows of what was before: whether a work of a job is out, what the bytes of an object are in the
-- private store of its own job, and the standing grants, oldest first
pub record Before : Type 0 where
  pub out : (job number : ℕ) → Bool
  pub bytes : ObjectId → List ℕ
  pub grants : List StandingGrant

-- what a trace tells of a place
abbrev pub before_at : ℕ → ℕ → List Traced → Before
before_at nodes place history =
    record {
      out = λ job number. is_out place job number history;
      bytes = granted_bytes nodes place (λ other. inputs_until nodes other history);
      grants = grants_at place history;
    }

abbrev pub unless_wanting : Reply (List ℕ) → Option JobInput → Option JobInput
unless_wanting response o = if wants_memory response then None else o

abbrev pub of_job : ℕ → Input → Option JobInput
of_job job x = Some (record { job = job; input = x })

-- ---- the own input

-- what an event of a schedule is to its own job: an admission, a change of quota or an end that was accepted; a
-- Finish of a work that is out; each command. What had no memory is nothing
abbrev pub own_event : Before → Event → Reply (List ℕ) → Option JobInput
own_event before (event.Admit job quota key) reply.Ok = of_job job.0 (input.Begin quota)
own_event before (event.Requota job quota) reply.Ok = of_job job.0 (input.Requota quota)
own_event before (event.JobEnd job) reply.Ok = of_job job.0 input.End
own_event before (event.Finish job number a) response =
    unless_wanting response (if before.out job.0 number then of_job job.0 (input.Answer number a) else None)
own_event before (event.Call job session c) response = unless_wanting response (of_job job.0 (input.Call session c))
own_event before _ _ = None

-- the same of an arrival too
abbrev pub own_here : Before → NodeEvent → Reply (List ℕ) → Option JobInput
own_here before (Own e) response = own_event before e response
own_here before (Arrive job a) response = unless_wanting response (of_job job.0 (input.Arrive a))

-- the same where the answer isn't NoMemory, which no node gives: it is an error there
abbrev pub own_due : Before → NodeEvent → Reply (List ℕ) → Option JobInput
own_due before (Own (event.Finish job number a)) response = if before.out job.0 number then of_job job.0 (input.Answer number a) else None
own_due before (Own (event.Call job session c)) response = of_job job.0 (input.Call session c)
own_due before (Own e) response = own_event before e response
own_due before (Arrive job a) response = of_job job.0 (input.Arrive a)

-- ---- the notes

-- what a new grant is to its grantee
abbrev pub received_here : (ObjectId → List ℕ) → StandingGrant → JobInput
received_here bytes grant =
    record { job = grant.grantee; input = input.Received grant.id (bytes grant.id) (record { 0 = grant.grantor }) grant.depth }

-- what the end of a grant is to its grantee
abbrev pub withdrawn_here : StandingGrant → JobInput
withdrawn_here grant = record { job = grant.grantee; input = input.Withdrawn grant.id (record { 0 = grant.grantor }) grant.depth }

-- what an accepted event is to the grantees: grants that end are announced by depth, id, grantor and grantee
abbrev pub notes_of : Before → Event → List JobInput
notes_of before (event.Call job session (command.Grant id target)) = received_here before.bytes (new_grant before.grants id job.0 target.0) ∷ []
notes_of before e = option_map_or (λ test. map withdrawn_here (grants_ended test before.grants)) (ends e) []

abbrev pub notes_here : Before → NodeEvent → Reply (List ℕ) → List JobInput
notes_here before (Own e) reply.Ok = notes_of before e
notes_here before _ _ = []

-- the standing grants afterwards
abbrev pub grants_after : List StandingGrant → NodeEvent → Reply (List ℕ) → List StandingGrant
grants_after grants (Own e) reply.Ok = grants_by grants e
grants_after grants _ _ = grants

-- ---- all of it

-- what the event is to all jobs: the own input first, then the notes
abbrev pub inputs_here : Before → NodeEvent → Reply (List ℕ) → List JobInput
inputs_here before e response = option_to_list (own_here before e response) ++ notes_here before e response

-- those of one job
abbrev pub only_of : ℕ → List JobInput → List Input
only_of job xs = map (λ x. x.input) (filter (λ x. x.job == job) xs)

-- what the event is to the job
abbrev pub inputs_to : Before → NodeEvent → Reply (List ℕ) → ℕ → List Input
inputs_to before e response job = only_of job (inputs_here before e response)
