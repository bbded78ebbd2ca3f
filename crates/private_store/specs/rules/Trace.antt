-- What a trace says of one job: its inputs and its replies. They are read off steps and answers, and
-- never off a node's state.
use Rattle.std.specs.Prelude.{◌≡◌, ℕ, ◌==◌, Bool, true, false, not, ◌&&◌, ◌||◌, if◌then◌else◌, List, [], ◌∷◌, ◌++◌, map, reverse, filter, filter_map, slice_get, Option, Some, None, option_to_list}
use Rattle.std.specs.Option.{option_map_or}
use Rattle.obj_id.specs.declared.ids.ObjectId.{ObjectId}
use Rattle.obj_id.specs.declared.refusals.Refusal.TheVariants.{NoMemory}
use Rattle.obj_id.specs.declared.commands.Command.TheVariants as command
use Rattle.obj_id.specs.declared.commands.Reply.TheVariants as reply
use Rattle.private_store.specs.declared.inputs.Input.{Input}
use Rattle.private_store.specs.declared.inputs.Input.TheVariants as input
use Rattle.private_store.specs.declared.schedules.Event.{Event}
use Rattle.private_store.specs.declared.schedules.Event.TheVariants as event
use Rattle.private_store.specs.declared.schedules.Step.{Step}
use Rattle.private_store.specs.declared.schedules.Step.TheVariants as «step»
use Rattle.private_store.specs.declared.schedules.StepAnswer.{StepAnswer}
use Rattle.private_store.specs.declared.schedules.StepAnswer.TheVariants as answer
use Rattle.private_store.specs.declared.schedules.Traced.{Traced}
use Rattle.private_store.specs.rules.Contents.{bytes_at}
use Rattle.private_store.specs.rules.Cluster.{Cluster, ClusterInput, at_node, deliver, Response, cluster_from, no_cluster, private_run}
use Rattle.private_store.specs.rules.Grants.{StandingGrant, new_grant, with_grant, grants_ended, grants_left, is_withdrawn, is_of_task, is_given_by}

-- ---- grants

-- which grants an accepted event ends of its grantor's own accord
abbrev pub ends : Event → Option (StandingGrant → Bool)
ends (event.Call job session (command.Withdraw id target)) = Some (is_withdrawn job.0 id target.0)
ends (event.Call job session (command.EndTask task)) = Some (is_of_task job.0 task)
ends (event.JobEnd job) = Some (is_given_by job.0)
ends _ = None

-- a node's standing grants after an accepted event
abbrev pub grants_by : List StandingGrant → Event → List StandingGrant
grants_by grants (event.Call job session (command.Grant id target)) = with_grant grants id job.0 target.0
grants_by grants e = option_map_or (λ test. grants_left test grants) (ends e) grants

abbrev pub grants_step : ℕ → List StandingGrant → Step → StepAnswer → List StandingGrant
grants_step node grants («step».At at e) (answer.Response reply.Ok) = if at == node then grants_by grants e else grants
grants_step node grants _ _ = grants

-- the standing grants at a node, oldest first. A history is a trace, newest first
abbrev pub grants_at : ℕ → List Traced → List StandingGrant
grants_at node [] = []
grants_at node (entry ∷ before) = grants_step node (grants_at node before) entry.step entry.answer

-- ---- inputs

-- an input with its job
pub record Given : Type 0 where
  pub job : ℕ
  pub input : ClusterInput

-- whether the answer is that there is no memory
abbrev pub is_no_memory : StepAnswer → Bool
is_no_memory (answer.Response (reply.Refused NoMemory)) = true
is_no_memory _ = false

-- whether the work is out after the step: a Take gives it out; a Finish, or its job's end, takes it in
abbrev pub out_after : ℕ → ℕ → ℕ → Bool → Step → StepAnswer → Bool
out_after node job number was («step».At at event.Take) (answer.Response (reply.Work work)) =
    was || (at == node && work.job.0 == job && work.number == number)
out_after node job number was («step».At at (event.Finish j n a)) response =
    was && not (at == node && j.0 == job && n == number && not (is_no_memory response))
out_after node job number was («step».At at (event.JobEnd j)) (answer.Response reply.Ok) = was && not (at == node && j.0 == job)
out_after node job number was _ _ = was

-- whether the work was taken, and neither finished since nor its job ended
abbrev pub is_out : ℕ → ℕ → ℕ → List Traced → Bool
is_out node job number [] = false
is_out node job number (entry ∷ before) = out_after node job number (is_out node job number before) entry.step entry.answer

-- an input of the job at the node
abbrev pub given_at : ℕ → ℕ → Input → Option Given
given_at node job x = Some (record { job = job; input = at_node node x })

abbrev pub unless_no_memory : StepAnswer → Option Given → Option Given
unless_no_memory response given = if is_no_memory response then None else given

-- the input that the step is to its own job: an admission, a change of quota or an end that was
-- accepted; the first Finish of a work that is out; each command and each Deliver. A step that had no
-- memory is no input
abbrev pub own_input : List Traced → Step → StepAnswer → Option Given
own_input before («step».At node (event.Admit job quota key)) (answer.Response reply.Ok) = given_at node job.0 (input.Begin quota)
own_input before («step».At node (event.Requota job quota)) (answer.Response reply.Ok) = given_at node job.0 (input.Requota quota)
own_input before («step».At node (event.JobEnd job)) (answer.Response reply.Ok) = given_at node job.0 input.End
own_input before («step».At node (event.Finish job number a)) response =
    unless_no_memory response (if is_out node job.0 number before then given_at node job.0 (input.Answer number a) else None)
own_input before («step».At node (event.Call job session c)) response = unless_no_memory response (given_at node job.0 (input.Call session c))
own_input before («step».Deliver job from to m damage) response =
    unless_no_memory response (Some (record { job = job.0; input = deliver from to m damage }))
own_input before _ _ = None

-- the bytes that an object has in the private store of its own job at a node
abbrev pub granted_bytes : ℕ → ℕ → (ℕ → List ClusterInput) → ObjectId → List ℕ
granted_bytes nodes node inputs id =
    option_map_or (λ store. bytes_at store.contents.bytes id)
    (slice_get (cluster_from (no_cluster id.job.0 nodes) (inputs id.job.0)).stores node) []

-- what a new grant is to its grantee
abbrev pub received_note : ℕ → ℕ → (ℕ → List ClusterInput) → StandingGrant → Given
received_note nodes node inputs grant =
    record {
      job = grant.grantee;
      input = at_node node (input.Received grant.id (granted_bytes nodes node inputs grant.id) (record { 0 = grant.grantor }) grant.depth);
    }

-- what the end of a grant is to its grantee
abbrev pub withdrawn_note : ℕ → StandingGrant → Given
withdrawn_note node grant =
    record { job = grant.grantee; input = at_node node (input.Withdrawn grant.id (record { 0 = grant.grantor }) grant.depth) }

-- what an accepted event at a node is to the grantees
abbrev pub notes_by : ℕ → ℕ → (ℕ → List ClusterInput) → List StandingGrant → Event → List Given
notes_by nodes node inputs grants (event.Call job session (command.Grant id target)) =
    received_note nodes node inputs (new_grant grants id job.0 target.0) ∷ []
notes_by nodes node inputs grants e = option_map_or (λ test. map (withdrawn_note node) (grants_ended test grants)) (ends e) []

abbrev pub notes : ℕ → (ℕ → List ClusterInput) → List Traced → Step → StepAnswer → List Given
notes nodes inputs before («step».At node e) (answer.Response reply.Ok) = notes_by nodes node inputs (grants_at node before) e
notes nodes inputs before _ _ = []

abbrev pub for_job : ℕ → List Given → List ClusterInput
for_job job given = map (λ g. g.input) (filter (λ g. g.job == job) given)

-- the inputs of a job in a history: what each step is to it, the step's own input first
abbrev pub inputs_until : ℕ → ℕ → List Traced → List ClusterInput
inputs_until nodes job [] = []
inputs_until nodes job (entry ∷ before) =
    inputs_until nodes job before
    ++ for_job job (option_to_list (own_input before entry.step entry.answer) ++ notes nodes (λ other. inputs_until nodes other before) before entry.step entry.answer)

-- the inputs of a job in a trace
abbrev pub inputs_of : ℕ → ℕ → List Traced → List ClusterInput
inputs_of nodes job trace = inputs_until nodes job (reverse trace)

-- the job's private cluster after a history
abbrev pub cluster_until : ℕ → ℕ → List Traced → Cluster
cluster_until nodes job before = cluster_from (no_cluster job nodes) (inputs_until nodes job before)

-- ---- replies

abbrev pub reply_of : ℕ → Step → StepAnswer → Option Response
reply_of job («step».At node (event.Call j session c)) (answer.Response response) =
    if j.0 == job then Some (record { node = node; session = session; reply = response }) else None
reply_of job _ _ = None

-- the answers to a job's commands, with node and session
abbrev pub replies_of : ℕ → List Traced → List Response
replies_of job trace = filter_map (λ entry. reply_of job entry.step entry.answer) trace

-- two runs agree for a job where its inputs are the same
abbrev pub Agree : ℕ → ℕ → List Traced → List Traced → Type 0
Agree nodes job first second = inputs_of nodes job first ≡ inputs_of nodes job second

abbrev pub is_answered : Response → Bool
is_answered t = not (is_no_memory (answer.Response t.reply))

-- the headline of one trace: the job's replies, but for NoMemory, are those of its private cluster
-- on its own inputs
abbrev pub IsPrivate : ℕ → ℕ → List Traced → Type 0
IsPrivate nodes job trace = filter is_answered (replies_of job trace) ≡ private_run job nodes (inputs_of nodes job trace)
