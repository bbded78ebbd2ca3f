-- Works that a job asked for, after those that were in the line.
use Rattle.std.specs.Prelude.{◌≡◌, List, ◌++◌}
use Rattle.obj_id.specs.declared.ids.JobNo.{JobNo}
use Rattle.obj_id.specs.declared.ids.ObjectId.{ObjectId}
use Rattle.obj_id.specs.declared.works.WorkKind.{WorkKind}
use Rattle.spill_work.specs.Line.{WorkLine, works_of, used_by, numbered, numbered_works}

-- the line is the old one, and after it the job's works of these objects, perhaps none, which nobody has taken
pub record HasAsked (old : WorkLine) (job : JobNo) (new : WorkLine) : Type 0 where
  pub kind : WorkKind
  pub ids : List ObjectId
  pub works : new.works ≡ old.works ++ numbered job kind (used_by old job) ids
  -- the job's own part
  pub own_works : works_of new job ≡ works_of old job ++ numbered_works kind (used_by old job) ids
