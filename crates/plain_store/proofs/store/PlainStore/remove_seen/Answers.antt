use Rattle.std.proofs.Common.{◌∙◌, ap}
use Rattle.store_facts.proofs.ObjectMaps.{without_entry-remove}
use Rattle.plain_store.specs.Granted.{without_seen}
use Rattle.plain_store.specs.contracts.store.PlainStore.{the_view}
use Rattle.plain_store.proofs.Fields.{with_received}
use Rattle.plain_store.proofs.store.PlainStore.remove_seen.Goals as goal

pub returns : goal.returns
returns c =
    ap (with_received (the_view c.self.inside)) (c.remove.ensures.entries ∙ without_entry-remove c.args.id c.self.inside.received.entries c.len-count.ensures.ordered)
    ∙ ap (λ replay_state. without_seen replay_state c.args.id) c.self.view_is
