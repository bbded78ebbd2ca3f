-- The end of a job: what it gives, and what of the node it leaves.
use Rattle.std.specs.Prelude.{◌≡◌, not, if◌then◌else◌, filter, Some, None}
use Rattle.std.specs.Map.{lookup}
use Rattle.obj_id.specs.declared.ids.JobNo.{JobNo}
use Rattle.obj_id.specs.declared.messages.DirectoryMessage.TheVariants.{EndJob}
use Rattle.obj_id.specs.declared.commands.Reply.TheVariants as reply
use Rattle.private_store.specs.rules.Grants.{grants_left, is_given_by}
use Rattle.private_store.specs.rules.Jobs.{same_job}
use Rattle.private_store.specs.rules.Private.{to_directory}
use Rattle.private_store.specs.rules.Shared.{job_is}
use Rattle.private_store.specs.rules.Tables.{ids_of}
use Rattle.spill_work.specs.Line.{Drops}
use Rattle.job_admission.specs.Admissions.{lives_of, finished}
use Rattle.job_row.specs.Ending.{keys_backed}
use Rattle.job_row.specs.Row.{Row}
use Rattle.row_steps.specs.Shown.{RowGiven}
use Rattle.node_core.specs.Hosted.{Hosted, row_at}

-- what it gives to the job itself, which is live: the directory is notified, and the keys of its backed copies are to be erased
pub record IsOwnEnd (node : Hosted) (job : JobNo) (given : RowGiven) : Type 0 where
  pub row : Row
  pub found : row_at node job ≡ Some row
  pub is : given ≡ record { reply = reply.Ok; posts = to_directory (EndJob node.number); erased = keys_backed row (ids_of row.copies) }

-- nothing of the job is left, and no grant that it gave
pub record LetsJobGo (old : Hosted) (job : JobNo) (new : Hosted) : Type 0 where
  pub number : new.number ≡ old.number
  pub admissions : new.admissions ≡ finished old.admissions job
  pub lives : lives_of new.admissions.live ≡ filter (λ live. not (job_is job.0 live)) (lives_of old.admissions.live)
  pub works : Drops old.works job new.works
  pub grants : new.grants ≡ grants_left (is_given_by job.0) old.grants
  pub rows : (q : JobNo) → lookup (same_job q) new.rows ≡ (if same_job job q then None else lookup (same_job q) old.rows)
