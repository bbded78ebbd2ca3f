-- What a contract sees of an object's id.
use Rattle.std.specs.Prelude.{ℕ}
use Rattle.obj_id.specs.declared.ids.TaskNo.{TaskNo}
use Rattle.obj_id.specs.declared.ids.JobNo.{JobNo}

pub record Parts : Type 0 where
  pub task : TaskNo
  pub job : JobNo
  pub index : ℕ
