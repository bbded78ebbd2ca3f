-- What an entry of a trace must be, that a node's step with this answer be it.
use Rattle.std.proofs.Common.{◌≡◌, ◌≢◌, ℕ, Bool, false, not, ◌||◌, List, [], ◌∷◌, map, filter, option_to_list}
use Rattle.std.specs.Prelude.{nat_le}
use Rattle.std.specs.Option.{option_map_or}
use Rattle.obj_id.specs.declared.commands.Reply.{Reply}
use Rattle.private_store.specs.declared.schedules.Traced.{Traced}
use Rattle.private_store.specs.rules.Grants.{StandingGrant}
use Rattle.private_store.specs.rules.Contents.{View}
use Rattle.private_store.specs.rules.Private.{view_step}
use Rattle.private_store.specs.rules.Cluster.{at_node, cluster_from, responses_from}
use Rattle.private_store.specs.rules.Trace.{grants_at, grants_step, out_after, cluster_until, reply_of, is_answered}
use Rattle.private_store.specs.rules.Shared.{AskedWork, LiveJob, leaves, asked_by, lives_step, is_admission, answer_due}
use Rattle.store_facts.proofs.Runs.{inputs_now}
use Rattle.spill_work.specs.declared.queue.Queued.{Queued}
use Rattle.job_admission.specs.Admissions.{Admissions}
use Rattle.private_store.specs.declared.schedules.NodeEvent.{NodeEvent}
use Rattle.private_store.specs.laws.NodeInputs.{own_here, inputs_to, grants_after}
use Rattle.node_core.specs.Steps.{is_taken, line_left, admissions_after, live_jobs_after}
use Rattle.world_core.specs.Worlds.{untaken}
use Rattle.private_store.specs.laws.NodeInputs.{before_at}

-- grants and works
pub record IsTableEntry (nodes place : ℕ) (e : NodeEvent) (response : Reply (List ℕ)) (v : ℕ → View) (works : List Queued) (history : List Traced) (entry : Traced) : Type 0 where
  pub grants_here : grants_step place (grants_at place history) entry.step entry.answer ≡ grants_after (grants_at place history) e response
  pub grants_there : (other : ℕ) → place ≢ other → (grants : List StandingGrant) → grants_step other grants entry.step entry.answer ≡ grants
  pub out_here : (job number : ℕ) → is_taken (line_left works e response) job number ≡ out_after place job number (is_taken works job number) entry.step entry.answer
  pub out_there : (other : ℕ) → place ≢ other → (job number : ℕ) (was : Bool) → out_after other job number was entry.step entry.answer ≡ was
  pub left_here : untaken (line_left works e response) ≡ filter (λ asked. not (leaves place asked entry.step entry.answer)) (untaken works)
  pub left_there : (other : ℕ) → place ≢ other → (waiting : List AskedWork) → filter (λ asked. not (leaves other asked entry.step entry.answer)) waiting ≡ waiting
  pub asked_here : asked_by nodes place history entry
      ≡ option_map_or (λ x. map (λ w. record { job = x.job; number = w.number }) (view_step place (v x.job) x.input).works) (own_here (before_at nodes place history) e response) []
  pub asked_there : (other : ℕ) → place ≢ other → asked_by nodes other history entry ≡ []

-- live jobs
pub record IsLivesEntry (memory place : ℕ) (e : NodeEvent) (response : Reply (List ℕ)) (a : Admissions) (entry : Traced) : Type 0 where
  pub lives_here : (lives : List LiveJob) → live_jobs_after memory lives e response ≡ lives_step memory place lives entry.step entry.answer
  pub lives_there : (other : ℕ) → place ≢ other → (lives : List LiveJob) → lives_step memory other lives entry.step entry.answer ≡ lives
  pub greatest : (job : ℕ) (before : Bool) → before ≡ nat_le job a.greatest → (is_admission place job entry.step entry.answer || before) ≡ nat_le job (admissions_after a e response).greatest
  pub admission_there : (other job : ℕ) → place ≢ other → is_admission other job entry.step entry.answer ≡ false

pub record IsEntry (nodes memory place : ℕ) (e : NodeEvent) (response : Reply (List ℕ)) (v : ℕ → View) (works : List Queued) (a : Admissions) (history : List Traced) (entry : Traced) : Type 0 where
  pub tables : IsTableEntry nodes place e response v works history entry
  pub lives : IsLivesEntry memory place e response a entry
  -- the job's cluster moves by what the event is to the job
  pub moves : (job : ℕ) → cluster_until nodes job (entry ∷ history) ≡ cluster_from (cluster_until nodes job history) (map (at_node place) (inputs_to (before_at nodes place history) e response job))
  -- what is answered is the private cluster's
  pub replies : (job : ℕ) → filter is_answered (option_to_list (reply_of job entry.step entry.answer)) ≡ responses_from (cluster_until nodes job history) (inputs_now nodes job entry history)
  pub due : entry.answer ≡ answer_due nodes memory history entry
