-- What the operator is shown of a node's live jobs.
use Rattle.std.specs.Prelude.{◌≡◌, ℕ, ◌==◌, Bool, true, List, All, map, filter, is_some, Result, is_ok, IfOk}
use Rattle.std.specs.List.{list_any, IsDistinct}
use Rattle.std.specs.List.Sorted.{IsNonDecreasingBy}
use Rattle.obj_id.specs.declared.ids.JobNo.{JobNo}
use Rattle.obj_id.specs.declared.commands.Usage.{Usage}
use Rattle.obj_id.specs.declared.refusals.Refusal.{Refusal}
use Rattle.private_store.specs.rules.Jobs.{same_job}
use Rattle.private_store.specs.rules.Commands.{usage_of}
use Rattle.private_store.specs.rules.Contents.{View}
use Rattle.job_admission.specs.Admissions.{live_at}
use Rattle.node_core.specs.Hosted.{Hosted, Shows}
use Rattle.node_journal.specs.Logs.{JobLog, journal_of, was_kept}
use Rattle.node_gate.specs.declared.journaled.LiveJob.{LiveJob}

abbrev pub is_live_now : Hosted → JobNo → Bool
is_live_now node job = is_some (live_at node.admissions job)

-- its quotas, and what it uses of them
pub record IsUsageShown (node : Hosted) (live : LiveJob) : Type 0 where
  pub response : (view : View) → Shows node live.job.0 view → live.usage ≡ usage_of view.shape

-- the live jobs among those of which the journal has something, each once and by rising number
pub record AreLive (node : Hosted) (logs : List (JobNo × JobLog)) (live : List LiveJob) : Type 0 where
  pub jobs : List JobNo
  pub kept : (job : ℕ) → list_any (λ own. own.0 == job) jobs ≡ was_kept (journal_of logs job)
  pub once : IsDistinct same_job jobs
  pub rising : IsNonDecreasingBy (λ (job : JobNo). job.0) jobs
  pub listed : map (λ (l : LiveJob). l.job) live ≡ filter (is_live_now node) jobs
  pub used : All (IsUsageShown node) live

-- what a job uses of its quotas, if it is live, and otherwise that it isn't
pub record IsUsageTold (node : Hosted) (job : JobNo) (told : Result Usage Refusal) : Type 0 where
  pub response : IfOk told (λ usage. (view : View) → Shows node job.0 view → usage ≡ usage_of view.shape)
  pub live : is_ok told ≡ is_live_now node job
