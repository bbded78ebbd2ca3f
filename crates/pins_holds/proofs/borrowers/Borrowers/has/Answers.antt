use Rattle.std.proofs.Common.{ap, ◌∙◌}
use Rattle.std.specs.List.{list_any}
use Rattle.obj_id.specs.Ids.{same_task}
use Rattle.pins_holds.proofs.TaskLemmas.{any_task}
use Rattle.pins_holds.proofs.borrowers.Borrowers.has.Goals as goal

pub returns : goal.returns
returns c = c.contains.ensures ∙ any_task c.args.task c.self.inside.tasks.keys ∙ ap (list_any (same_task c.args.task)) c.self.view_is
