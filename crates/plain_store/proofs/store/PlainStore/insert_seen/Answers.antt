use Rattle.std.proofs.Common.{◌∙◌, ap}
use Rattle.store_facts.proofs.ObjectMaps.{with_entry-insert}
use Rattle.plain_store.specs.Granted.{store_with_seen}
use Rattle.plain_store.specs.contracts.store.PlainStore.{the_view}
use Rattle.plain_store.proofs.Fields.{with_received}
use Rattle.plain_store.proofs.store.PlainStore.insert_seen.Goals as goal

pub returns : goal.returns
returns c = ap (with_received (the_view c.self.inside)) (c.in_ok-insert.ensures.entries ∙ with_entry-insert c.args.id c.self.inside.received.entries c.args.seen) ∙ ap (λ replay_state. store_with_seen replay_state c.args.id c.args.seen) c.self.view_is
