-- What the operator is shown of a node.
use Rattle.std.specs.Prelude.{◌≡◌, ℕ, List, Result}
use Rattle.obj_id.specs.declared.ids.JobNo.{JobNo}
use Rattle.obj_id.specs.declared.commands.Usage.{Usage}
use Rattle.obj_id.specs.declared.refusals.Refusal.{Refusal}
use Rattle.node_gate.specs.declared.journaled.LiveJob.{LiveJob}

-- a node with this number shows that these jobs are live
pub record AreLiveAt {N : Type 0} (number_of : N → ℕ) (shows_live : N → List LiveJob → Type 0) (number : ℕ) (live : List LiveJob) : Type 0 where
  pub node : N
  pub numbered : number_of node ≡ number
  pub shown : shows_live node live

-- a node with this number shows this of this job: its quotas, with what it uses of them, or that it isn't live
pub record IsUsageAt {N : Type 0} (number_of : N → ℕ) (shows_usage : N → JobNo → Result Usage Refusal → Type 0) (number : ℕ) (job : JobNo) (told : Result Usage Refusal) : Type 0 where
  pub node : N
  pub numbered : number_of node ≡ number
  pub shown : shows_usage node job told
