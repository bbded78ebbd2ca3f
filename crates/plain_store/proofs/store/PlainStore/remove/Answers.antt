use Rattle.std.proofs.Common.{◌∙◌, ap}
use Rattle.store_facts.proofs.ObjectMaps.{without_entry-remove}
use Rattle.plain_store.specs.Lending.{without_copy}
use Rattle.plain_store.specs.contracts.store.PlainStore.{the_view}
use Rattle.plain_store.proofs.Changing.{with_copies}
use Rattle.plain_store.proofs.store.PlainStore.remove.Goals as goal

pub returns : goal.returns
returns c =
    ap (with_copies (the_view c.self.inside)) (c.remove.ensures.entries ∙ without_entry-remove c.args.id c.self.inside.copies.entries c.len-count.ensures.ordered)
    ∙ ap (λ replay_state. without_copy replay_state c.args.id) c.self.view_is
