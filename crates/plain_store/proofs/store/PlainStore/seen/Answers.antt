use Rattle.std.proofs.Common.{◌∙◌, sym, ap}
use Rattle.private_store.specs.rules.Tables.{at}
use Rattle.store_facts.proofs.ObjectMaps.{at-lookup}
use Rattle.plain_store.proofs.store.PlainStore.seen.Goals as goal

pub returns : goal.returns
returns c = c.get.ensures.value ∙ sym (at-lookup c.args.id c.self.inside.received.entries) ∙ ap (λ replay_state. at replay_state.shape.received c.args.id) c.self.view_is
