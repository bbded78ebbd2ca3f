use Rattle.std.proofs.Common.{not, filter, ap, ◌∙◌}
use Rattle.obj_id.specs.Ids.{same_task}
use Rattle.pins_holds.proofs.TaskLemmas.{remove_key-filter}
use Rattle.pins_holds.proofs.borrowers.Borrowers.remove.Goals as goal

pub returns : goal.returns
returns c =
    let t = c.args.task in
    c.shift_remove.ensures.keys
    ∙ remove_key-filter t c.self.inside.tasks.keys c.len-count.ensures.unique
    ∙ ap (filter (λ x. not (same_task t x))) c.self.view_is
