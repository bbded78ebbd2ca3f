use Rattle.std.proofs.Common.{List, ap, ◌∙◌}
use Rattle.obj_id.specs.declared.ids.TaskNo.{TaskNo}
use Rattle.private_store.specs.laws.Invariants.{is_remembered}
use Rattle.job_row.specs.Row.{Row}
use Rattle.pins_holds.proofs.ForCallers.{any_task}
use Rattle.job_row.proofs.row.JobRow.has_ended.Goals as goal

pub returns : goal.returns
returns c =
    c.contains.ensures ∙ any_task c.args.task c.self.inside.ended_tasks.keys ∙ ap (λ (ts : List TaskNo). is_remembered ts c.args.task) (ap (λ (r : Row). r.ended_tasks) c.self.view_is)
