-- What an event that moves no grant does at a node, told of one job at a time: it is an input of its own job alone.
use Rattle.std.specs.Prelude.{◌≡◌, ℕ, ◌==◌, if◌then◌else◌, not, ◌&&◌, List, [], filter, Option, Some, None}
use Rattle.std.specs.Option.{option_map_or}
use Rattle.obj_id.specs.declared.commands.Reply.{Reply}
use Rattle.obj_id.specs.declared.commands.Reply.TheVariants as reply
use Rattle.private_store.specs.declared.inputs.Input.{Input}
use Rattle.private_store.specs.declared.inputs.Input.TheVariants as input
use Rattle.private_store.specs.declared.schedules.Event.{Event}
use Rattle.private_store.specs.declared.schedules.Event.TheVariants as event
use Rattle.private_store.specs.rules.Contents.{View}
use Rattle.private_store.specs.rules.Private.{view_step}
use Rattle.spill_work.specs.Line.{WorkLine, is_of, is_at, marked_taken}
use Rattle.room_commands.specs.Asked.{HasAsked}
use Rattle.row_steps.specs.Shown.{RowGiven}
use Rattle.private_store.specs.declared.schedules.NodeEvent.TheVariants.{Own}
use Rattle.node_core.specs.Hosted.{Hosted, Shows, ShowsAll}
use Rattle.node_core.specs.Steps.{job_of_event, is_taken, answer_of_check, end_check, requota_check, stale_unless, take_response, admissions_after, live_jobs_after}
use Rattle.job_admission.specs.Admissions.{lives_of, admit_check}
use Rattle.node_core.specs.Quotas.{requota_refusal}

-- what an event with this answer is to its own job: an admission, a change of quota, an end or a Finish that was refused is
-- nothing
abbrev pub event_input_of : Event → Reply (List ℕ) → Option Input
event_input_of (event.Admit job quota key) reply.Ok = Some (input.Begin quota)
event_input_of (event.Requota job quota) reply.Ok = Some (input.Requota quota)
event_input_of (event.JobEnd job) reply.Ok = Some input.End
event_input_of (event.Finish job number a) reply.Ok = Some (input.Answer number a)
event_input_of (event.Call job session c) response = Some (input.Call session c)
event_input_of _ _ = None

-- the job's view after an event that is this to it
abbrev pub view_by : ℕ → View → Option Input → View
view_by node view o = option_map_or (λ x. (view_step node view x).view) o view

-- the view of any job after an event with this answer
abbrev pub one_view_after : ℕ → ℕ → View → Event → Reply (List ℕ) → View
one_view_after node job view e response = if job == job_of_event e then view_by node view (event_input_of e response) else view

-- the reply, the messages and the keys are those of the private step
pub record IsStepOf (node : ℕ) (view : View) (x : Input) (given : RowGiven) : Type 0 where
  pub reply : given.reply ≡ (view_step node view x).reply
  pub posts : given.posts ≡ (view_step node view x).posts
  pub erased : given.erased ≡ (view_step node view x).erased

-- an event that is no input sends and erases nothing
pub record IsSilent (given : RowGiven) : Type 0 where
  pub posts : given.posts ≡ []
  pub erased : given.erased ≡ []

abbrev pub IsGiven : ℕ → View → Option Input → RowGiven → Type 0
IsGiven node view (Some x) given = IsStepOf node view x given
IsGiven node view None given = IsSilent given

-- what the operator is answered
abbrev pub IsOperatorAnswer : Hosted → Event → Reply (List ℕ) → Type 0
IsOperatorAnswer node (event.Admit job quota key) response = response ≡ answer_of_check (admit_check node.admissions job quota)
IsOperatorAnswer node (event.Requota job quota) response = response ≡ answer_of_check (requota_refusal node job quota)
IsOperatorAnswer node (event.JobEnd job) response = response ≡ answer_of_check (end_check node.admissions job)
IsOperatorAnswer node _ response = response ≡ response

-- what is answered by what the views say: a Take, a Finish, and a change of quota
abbrev pub IsAnswerByViews : Hosted → (ℕ → View) → Event → Reply (List ℕ) → Type 0
IsAnswerByViews node v (event.Requota job quota) response = response ≡ answer_of_check (requota_check node.admissions (v job.0) job quota)
IsAnswerByViews node v event.Take response = response ≡ take_response node.works.works v
IsAnswerByViews node v (event.Finish job number a) response = response ≡ answer_of_check (stale_unless (is_taken node.works.works job.0 number))
IsAnswerByViews node v _ response = response ≡ response

-- the line of works: a Take marks the work that it gives, a Finish takes its taken work out, an end takes the job's works out,
-- and a command's works come last
abbrev pub IsLineAfter : WorkLine → Event → Reply (List ℕ) → WorkLine → Type 0
IsLineAfter old event.Take (reply.Work work) new = new.works ≡ marked_taken work.job work.number old.works
IsLineAfter old (event.JobEnd job) reply.Ok new = new.works ≡ filter (λ work. not (is_of job work)) old.works
IsLineAfter old (event.Finish job number a) response new = new.works ≡ filter (λ work. not (is_at job number work && work.taken)) old.works
IsLineAfter old (event.Call job session c) response new = HasAsked old job new
IsLineAfter old _ _ new = new.works ≡ old.works

pub record NodeStepOne (old : Hosted) (e : Event) (given : RowGiven) (new : Hosted) : Type 0 where
  pub number : new.number ≡ old.number
  -- every job's view is the private step of the view before on what the event is to that job
  pub views : (v : ℕ → View) → ShowsAll old v → (job : ℕ) → Shows new job (one_view_after old.number job (v job) e given.reply)
  -- and what it gives is that step's
  pub response : (view : View) → Shows old (job_of_event e) view → IsGiven old.number view (event_input_of e given.reply) given
  pub operator : IsOperatorAnswer old e given.reply
  pub by_views : (v : ℕ → View) → ShowsAll old v → IsAnswerByViews old v e given.reply
  pub admissions : new.admissions ≡ admissions_after old.admissions (Own e) given.reply
  pub lives : lives_of new.admissions.live ≡ live_jobs_after old.admissions.memory (lives_of old.admissions.live) (Own e) given.reply
  pub line : (v : ℕ → View) → ShowsAll old v → IsLineAfter old.works e given.reply new.works
  -- the grants stand as they stood
  pub grants : new.grants ≡ old.grants
