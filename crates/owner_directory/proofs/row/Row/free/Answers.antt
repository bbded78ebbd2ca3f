use Rattle.std.proofs.Common.{ap, ◌∙◌}
use Rattle.private_store.specs.rules.Tables.{without_entry}
use Rattle.store_facts.proofs.ObjectMaps.{without_entry-remove}
use Rattle.owner_directory.proofs.row.Row.free.Goals as goal

pub returns : goal.returns
returns c =
    c.remove.ensures.entries ∙ without_entry-remove c.args.id c.self.inside.objects.entries c.self.invariant
    ∙ ap (λ t. without_entry t c.args.id) c.self.view_is
