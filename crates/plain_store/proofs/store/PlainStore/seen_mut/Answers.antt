use Rattle.std.proofs.Common.{◌∙◌, sym, ap}
use Rattle.std.specs.Option.{option_copied_mut}
use Rattle.private_store.specs.rules.Tables.{at}
use Rattle.store_facts.proofs.ObjectMaps.{at-lookup, with_entry-set}
use Rattle.plain_store.specs.Granted.{store_with_seen}
use Rattle.plain_store.specs.contracts.store.PlainStore.{the_view}
use Rattle.plain_store.proofs.Changing.{lent}
use Rattle.plain_store.proofs.Fields.{with_received}
use Rattle.plain_store.proofs.store.PlainStore.seen_mut.Goals as goal

pub returns : goal.returns
returns c = (
  lent c.get_mut.result _ _ _ _
      (λ r is w. ap (with_received (the_view c.self.inside)) ((c.get_mut.follows.holds w).0 ∙ with_entry-set c.args.id c.self.inside.received.entries r.now w c.get_mut.ensures.ordered (sym c.get_mut.ensures.value ∙ ap option_copied_mut is))
      ∙ ap (λ replay_state. store_with_seen replay_state c.args.id w) c.self.view_is)
      (λ none. ap (λ m. with_received (the_view c.self.inside) m.entries) c.get_mut.follows.holds-at-none ∙ c.self.view_is),
  record {
    writes_back = tt;
    value = c.get_mut.ensures.value ∙ sym (at-lookup c.args.id c.self.inside.received.entries) ∙ ap (λ replay_state. at replay_state.shape.received c.args.id) c.self.view_is;
  },
)
