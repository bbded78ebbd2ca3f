-- The answers that neighbours share, to the operator, to device workers and of deliveries: what each
-- must be, by the steps and answers before it.
use Rattle.std.specs.Prelude.{◌≡◌, ℕ, ◌==◌, nat_le, Bool, true, false, not, ◌&&◌, ◌||◌, if◌then◌else◌, List, [], ◌∷◌, ◌++◌, length, map, reverse, filter, find, slice_get, Option, Some, None, is_none, unwrap_or, option_map}
use Rattle.std.specs.Option.{option_map_or, option_and_then}
use Rattle.std.specs.List.{list_any, list_all}
use Rattle.obj_id.specs.declared.works.Extent.{Extent}
use Rattle.obj_id.specs.declared.works.Quota.{Quota}
use Rattle.obj_id.specs.declared.works.WorkKind.TheVariants as kind
use Rattle.obj_id.specs.declared.works.Work.{Work}
use Rattle.obj_id.specs.declared.messages.Endpoint.{Endpoint}
use Rattle.obj_id.specs.declared.messages.Endpoint.TheVariants.{Node, Directory}
use Rattle.obj_id.specs.declared.refusals.Refusal.{Refusal}
use Rattle.obj_id.specs.declared.refusals.Refusal.TheVariants.{NotAdmitted, BadId, Exists, BadSize, Full, NoRoom, Stale}
use Rattle.obj_id.specs.declared.commands.Reply.TheVariants as reply
use Rattle.private_store.specs.declared.schedules.Event.TheVariants as event
use Rattle.private_store.specs.declared.schedules.Step.{Step}
use Rattle.private_store.specs.declared.schedules.Step.TheVariants as steps
use Rattle.private_store.specs.declared.schedules.StepAnswer.{StepAnswer}
use Rattle.private_store.specs.declared.schedules.StepAnswer.TheVariants as answer
use Rattle.private_store.specs.declared.schedules.Traced.{Traced}
use Rattle.private_store.specs.rules.Limits.{is_quota, most_live_jobs}
use Rattle.private_store.specs.rules.Tables.{at}
use Rattle.private_store.specs.rules.Extents.{first, end_of, is_apart}
use Rattle.private_store.specs.rules.Shape.{Copy, WorkInFlight}
use Rattle.private_store.specs.rules.Copies.{fits_quota}
use Rattle.private_store.specs.rules.Contents.{bytes_at}
use Rattle.private_store.specs.rules.Private.{Store, Outcome, key_of}
use Rattle.private_store.specs.rules.Cluster.{ClusterInput, at_node, deliver, cluster_step, message_at, damaged}
use Rattle.private_store.specs.rules.Trace.{Given, own_input, cluster_until, is_out, is_no_memory}

-- a live job at a node, and its window in the node's memory
pub record LiveJob : Type 0 where
  pub job : ℕ
  pub window : Extent

abbrev pub job_is : ℕ → LiveJob → Bool
job_is job live = live.job == job

abbrev pub windows_without : ℕ → List LiveJob → List Extent
windows_without job lives = map (λ live. live.window) (filter (λ live. not (job_is job live)) lives)

abbrev pub widened : ℕ → ℕ → LiveJob → LiveJob
widened job window live =
    if job_is job live then record live { window = record live.window { length = window } } else live

abbrev pub admitted : ℕ → ℕ → ℕ → List LiveJob → List LiveJob
admitted memory job window lives =
    option_map_or (λ offset. lives ++ record { job = job; window = record { offset = offset; length = window } } ∷ [])
    (first (map (λ live. live.window) lives) memory window) lives

abbrev pub lives_step : ℕ → ℕ → List LiveJob → Step → StepAnswer → List LiveJob
lives_step memory node lives (steps.At n (event.Admit job quota key)) (answer.Response reply.Ok) =
    if n == node then admitted memory job.0 quota.window lives else lives
lives_step memory node lives (steps.At n (event.Requota job quota)) (answer.Response reply.Ok) =
    if n == node then map (widened job.0 quota.window) lives else lives
lives_step memory node lives (steps.At n (event.JobEnd job)) (answer.Response reply.Ok) =
    if n == node then filter (λ live. not (job_is job.0 live)) lives else lives
lives_step memory node lives _ _ = lives

-- the live jobs at the node with their windows
abbrev pub lives_after : ℕ → ℕ → List Traced → List LiveJob
lives_after memory node [] = []
lives_after memory node (entry ∷ before) = lives_step memory node (lives_after memory node before) entry.step entry.answer

abbrev pub is_admission : ℕ → ℕ → Step → StepAnswer → Bool
is_admission node job (steps.At n (event.Admit j quota key)) (answer.Response reply.Ok) = n == node && nat_le job j.0
is_admission node job _ _ = false

abbrev pub first_refusal : List (Bool × Refusal) → Option Refusal
first_refusal [] = None
first_refusal (check ∷ checks) = if check.0 then Some check.1 else first_refusal checks

abbrev pub ok_unless : List (Bool × Refusal) → StepAnswer
ok_unless checks = answer.Response (option_map_or reply.Refused (first_refusal checks) reply.Ok)

abbrev pub admit_answer : ℕ → ℕ → List Traced → ℕ → Quota → StepAnswer
admit_answer memory node before job quota =
    let lives = lives_after memory node before in
    ok_unless (
    (job == 0, BadId)
    ∷ (not (is_quota quota), BadSize)
    ∷ (list_any (λ entry. is_admission node job entry.step entry.answer) before, Exists)
    ∷ (nat_le most_live_jobs (length lives) || is_none (first (map (λ live. live.window) lives) memory quota.window), NoRoom)
    ∷ [])

abbrev pub is_live_at : ℕ → ℕ → List Traced → ℕ → Bool
is_live_at memory node before job = list_any (job_is job) (lives_after memory node before)

-- the private store of a job at a node after its inputs so far
abbrev pub store_at : ℕ → ℕ → List Traced → ℕ → Option Store
store_at nodes node before job = slice_get (cluster_until nodes job before).stores node

-- whether what the job uses is within the quota
abbrev pub holds_quota : Quota → Option Store → Bool
holds_quota quota o = option_map_or (λ store. fits_quota store.shape quota) o false

-- whether the window can have this length where it lies
abbrev pub can_widen : ℕ → ℕ → ℕ → List LiveJob → Bool
can_widen memory job window lives =
    option_map_or (λ live. let wide : Extent = record live.window { length = window } in
    nat_le (end_of wide) memory && list_all (is_apart wide) (windows_without job lives))
    (find (job_is job) lives) false

abbrev pub requota_answer : ℕ → ℕ → ℕ → List Traced → ℕ → Quota → StepAnswer
requota_answer nodes memory node before job quota =
    let lives = lives_after memory node before in
    ok_unless (
    (not (list_any (job_is job) lives), NotAdmitted)
    ∷ (not (is_quota quota), BadSize)
    ∷ (not (holds_quota quota (store_at nodes node before job)), Full)
    ∷ (not (can_widen memory job quota.window lives), NoRoom)
    ∷ [])

-- ---- works

-- a work that was asked for
pub record AskedWork : Type 0 where
  pub job : ℕ
  pub number : ℕ

-- the node at which the cluster takes the input, if it is one
abbrev pub taken_at : ClusterInput → Option ℕ
taken_at (at_node node x) = Some node
taken_at (deliver from (Node node) m damage) = Some node
taken_at (deliver from Directory m damage) = None

abbrev pub outcome_works : ℕ → Option Outcome → List AskedWork
outcome_works job o = option_map_or (λ outcome. map (λ w. record { job = job; number = w.number }) outcome.works) o []

-- the works that an input of a job asks for at the node
abbrev pub works_asked_by : ℕ → ℕ → List Traced → Given → List AskedWork
works_asked_by nodes node before given =
    if option_map_or (λ n. n == node) (taken_at given.input) false
    then outcome_works given.job (cluster_step (cluster_until nodes given.job before) given.input).outcome
    else []

-- the works that the step asks for at the node
abbrev pub asked_by : ℕ → ℕ → List Traced → Traced → List AskedWork
asked_by nodes node before entry =
    option_map_or (works_asked_by nodes node before) (own_input before entry.step entry.answer) []

-- whether the work waits no more: it was taken, or its job ended
abbrev pub leaves : ℕ → AskedWork → Step → StepAnswer → Bool
leaves node asked (steps.At n event.Take) (answer.Response (reply.Work work)) = n == node && work.job.0 == asked.job && work.number == asked.number
leaves node asked (steps.At n (event.JobEnd job)) (answer.Response reply.Ok) = n == node && job.0 == asked.job
leaves node asked _ _ = false

-- the works of the node that no Take has given, in the order asked
abbrev pub waiting : ℕ → ℕ → List Traced → List AskedWork
waiting nodes node [] = []
waiting nodes node (entry ∷ before) =
    filter (λ asked. not (leaves node asked entry.step entry.answer)) (waiting nodes node before) ++ asked_by nodes node before entry

-- a work with its key, its length and a write's bytes
abbrev pub work_given : ℕ → Store → WorkInFlight → Copy → Work (List ℕ)
work_given job store w copy =
    record {
      job = record { 0 = job };
      number = w.number;
      kind = if w.writes then kind.Write else kind.Read;
      key = key_of job (if w.writes then w.number else unwrap_or copy.backed 0);
      length = copy.length;
      payload = if w.writes then Some (bytes_at store.contents.bytes w.id) else None;
    }

abbrev pub given_of : ℕ → ℕ → Option Store → Option (Work (List ℕ))
given_of job number o =
    option_and_then (λ store.
    option_and_then (λ w. option_map (work_given job store w) (at store.shape.copies w.id))
    (find (λ w. w.number == number) store.shape.works)) o

abbrev pub take_answer : ℕ → ℕ → List Traced → StepAnswer
take_answer nodes node before =
    answer.Response (elim (waiting nodes node before) [
      | [] ↦ reply.NoWork
      | asked ∷ _ ↦ option_map_or reply.Work (given_of asked.job asked.number (store_at nodes node before asked.job)) reply.NoWork
    ])

-- ---- messages

abbrev pub goes_to_live : ℕ → List Traced → ℕ → Endpoint → Bool
goes_to_live memory before job (Node node) = is_live_at memory node before job
goes_to_live memory before job Directory = true

abbrev pub deliver_answer : ℕ → ℕ → List Traced → ℕ → Endpoint → Endpoint → ℕ → Bool → StepAnswer
deliver_answer nodes memory before job from to m damage =
    elim (message_at (cluster_until nodes job before) from to m) [
      | None ↦ answer.NoMessage
      | Some message ↦
          if goes_to_live memory before job to
          then answer.HandedOver (if damage then damaged message else message)
          else answer.Response (reply.Refused Stale)
    ]

-- ---- all

-- what a step that isn't a command is answered, if there is memory
abbrev pub shared_answer : ℕ → ℕ → List Traced → Step → Option StepAnswer
shared_answer nodes memory before (steps.At node (event.Admit job quota key)) = Some (admit_answer memory node before job.0 quota)
shared_answer nodes memory before (steps.At node (event.Requota job quota)) = Some (requota_answer nodes memory node before job.0 quota)
shared_answer nodes memory before (steps.At node (event.JobEnd job)) = Some (ok_unless ((not (is_live_at memory node before job.0), NotAdmitted) ∷ []))
shared_answer nodes memory before (steps.At node event.Take) = Some (take_answer nodes node before)
shared_answer nodes memory before (steps.At node (event.Finish job number a)) = Some (ok_unless ((not (is_out node job.0 number before), Stale) ∷ []))
shared_answer nodes memory before (steps.At node (event.Call job session c)) = None
shared_answer nodes memory before (steps.Deliver job from to m damage) = Some (deliver_answer nodes memory before job.0 from to m damage)

-- what the step must have been answered: a command by its job's private store, which is said of the
-- job; NoMemory as it was
abbrev pub answer_due : ℕ → ℕ → List Traced → Traced → StepAnswer
answer_due nodes memory before entry =
    if is_no_memory entry.answer then entry.answer else unwrap_or (shared_answer nodes memory before entry.step) entry.answer

-- of a history
abbrev pub answers_due : ℕ → ℕ → List Traced → List StepAnswer
answers_due nodes memory [] = []
answers_due nodes memory (entry ∷ before) = answer_due nodes memory before entry ∷ answers_due nodes memory before

-- each shared answer of a trace is the one that is due
abbrev pub AreSharedAnswers : ℕ → ℕ → List Traced → Type 0
AreSharedAnswers nodes memory trace = map (λ entry. entry.answer) (reverse trace) ≡ answers_due nodes memory (reverse trace)
