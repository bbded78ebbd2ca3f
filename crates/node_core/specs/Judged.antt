-- What an event was to its own job, without contents, and which replies have a frame.
use Rattle.std.specs.Prelude.{◌≡◌, ◌≤◌, List, length, ℕ, Bool, true, false, Option, Some, None, is_some, option_map}
use Rattle.obj_id.specs.declared.commands.Reply.{Reply}
use Rattle.obj_id.specs.declared.commands.Reply.TheVariants as reply
use Rattle.obj_id.specs.declared.ids.JobNo.{JobNo}
use Rattle.obj_id.specs.declared.messages.Arrival.{Arrival}
use Rattle.private_store.specs.declared.inputs.Input.{Input}
use Rattle.private_store.specs.declared.inputs.Input.TheVariants as input
use Rattle.private_store.specs.declared.inputs.Judged.{Judged}
use Rattle.private_store.specs.declared.inputs.Judged.TheVariants as judged
use Rattle.private_store.specs.declared.schedules.Event.{Event}
use Rattle.private_store.specs.declared.schedules.Event.TheVariants as event
use Rattle.private_store.specs.rules.Contents.{View, without_payload, judge}
use Rattle.private_store.specs.laws.Answers.{is_small_reply, AreGrantedWithin}
use Rattle.node_core.specs.Hosted.{Hosted, Shows, ShowsAll, row_at}
use Rattle.node_core.specs.OneJob.{event_input_of}
use Rattle.node_core.specs.Steps.{job_of_event}

-- an input, if the event was answered Ok
abbrev pub if_ok : Reply (List ℕ) → Judged → Option Judged
if_ok reply.Ok x = Some x
if_ok _ x = None

-- whether it is a Finish, of which the event and its answer don't tell
abbrev pub is_finish : Event → Bool
is_finish (event.Finish job number a) = true
is_finish _ = false

-- what an event with this answer was, if it is no Finish
abbrev pub judged_as : Event → Reply (List ℕ) → Option Judged
judged_as (event.Admit job quota key) response = if_ok response (judged.Begin quota)
judged_as (event.Requota job quota) response = if_ok response (judged.Requota quota)
judged_as (event.JobEnd job) response = if_ok response judged.End
judged_as (event.Call job session c) response = Some (judged.Call session (without_payload c))
judged_as _ response = None

-- of a command it is told whatever the views are
abbrev pub IsCallJudged : Event → Option Judged → Type 0
IsCallJudged (event.Call job session c) was = was ≡ Some (judged.Call session (without_payload c))
IsCallJudged _ was = was ≡ was

-- this is what the event with this answer was to its job
pub record IsJudged (old : Hosted) (e : Event) (response : Reply (List ℕ)) (was : Option Judged) : Type 0 where
  pub by_view : (view : View) → Shows old (job_of_event e) view → option_map (judge old.number view) (event_input_of e response) ≡ was
  pub by_call : IsCallJudged e was

-- ---- messages

-- what an arrival with this answer is to its job: nothing if it is stale
abbrev pub arrived : Arrival → Reply (List ℕ) → Option Input
arrived a reply.Ok = Some (input.Arrive a)
arrived a _ = None

-- this is what the arrival with this answer was to its job
abbrev pub IsArrivalJudged : Hosted → JobNo → Arrival → Reply (List ℕ) → Option Judged → Type 0
IsArrivalJudged old job a response was = (view : View) → Shows old job.0 view → option_map (judge old.number view) (arrived a response) ≡ was

-- ---- small enough for a frame

-- what others granted to a live job is no more than a frame has room for
abbrev pub SeesFew : Hosted → Type 0
SeesFew node = (v : ℕ → View) → ShowsAll node v → (job : ℕ) → is_some (row_at node (record { 0 = job })) ≡ true → AreGrantedWithin (v job).shape.received

-- no more than 4,096 grants stand
abbrev pub GivesFew : Hosted → Type 0
GivesFew node = (v : ℕ → View) → ShowsAll node v → length node.grants ≤ 4096

-- no more than 4,096 jobs are told of grants
abbrev pub TellsFew : Hosted → List JobNo → Type 0
TellsFew node grantees = (v : ℕ → View) → ShowsAll node v → length grantees ≤ 4096

abbrev pub IsSmallCall : Event → Reply (List ℕ) → Type 0
IsSmallCall (event.Call job session c) response = is_small_reply response ≡ true
IsSmallCall _ response = response ≡ response

-- the reply to a command has a frame, if the node shows a view of each job
abbrev pub IsSmall : Hosted → Event → Reply (List ℕ) → Type 0
IsSmall old e response = (v : ℕ → View) → ShowsAll old v → IsSmallCall e response
