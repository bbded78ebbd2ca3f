use Rattle.obj_id.specs.Texts.{task_number}
use Rattle.obj_id.proofs.ids.TaskNo.number.Goals as goal

pub returns : goal.returns
unfolding task_number
returns c = c.back.ensures
