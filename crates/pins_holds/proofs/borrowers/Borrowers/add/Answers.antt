use Rattle.std.proofs.Common.{◌++◌, ◌∷◌, [], ap, ◌∙◌}
use Rattle.std.specs.List.{list_any}
use Rattle.obj_id.specs.Ids.{same_task}
use Rattle.pins_holds.proofs.TaskLemmas.{insert_key-new}
use Rattle.pins_holds.proofs.borrowers.Borrowers.add.Goals as goal

pub returns-clause-ok : goal.returns-clause-ok
returns-clause-ok c =
    let t = c.args.task in
    c.in_ok-insert.ensures.keys
    ∙ insert_key-new t c.self.inside.tasks.keys (ap (list_any (same_task t)) c.self.view_is ∙ c.requires)
    ∙ ap (λ ts. ts ++ t ∷ []) c.self.view_is
