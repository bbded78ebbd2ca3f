use Rattle.std.proofs.Common.{◌==◌, ◌∙◌, ap, filter, not, rules}
use Rattle.std.proofs.lemmas.Fn.{filter_same}
use Rattle.private_store.specs.rules.Shape.{WorkInFlight}
use Rattle.plain_store.specs.contracts.store.PlainStore.{the_view}
use Rattle.plain_store.proofs.Fields.{with_works}
use Rattle.plain_store.proofs.store.PlainStore.without_work.Goals as goal

pub returns : goal.returns
returns c =
    ap (with_works (the_view c.self.inside)) (filter_same _ (λ work. not (work.number == c.args.number)) _ (λ x b f' k. search rules) _ _ c.retain.ensures.filtered)
    ∙ ap (λ replay_state. with_works replay_state (filter (λ (work : WorkInFlight). not (work.number == c.args.number)) replay_state.shape.works)) c.self.view_is
