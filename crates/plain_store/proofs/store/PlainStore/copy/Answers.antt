use Rattle.std.proofs.Common.{◌∙◌, sym, ap}
use Rattle.private_store.specs.rules.Tables.{at}
use Rattle.store_facts.proofs.ObjectMaps.{at-lookup}
use Rattle.plain_store.proofs.store.PlainStore.copy.Goals as goal

pub returns : goal.returns
returns c = c.get.ensures.value ∙ sym (at-lookup c.args.id c.self.inside.copies.entries) ∙ ap (λ replay_state. at replay_state.shape.copies c.args.id) c.self.view_is
