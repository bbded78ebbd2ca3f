use Rattle.std.proofs.Common.{◌∙◌, ap, not, rules}
use Rattle.std.proofs.lemmas.Fn.{filter_same}
use Rattle.private_store.specs.rules.Events.{is_child_of}
use Rattle.plain_store.specs.Granted.{without_hanging}
use Rattle.plain_store.specs.contracts.store.PlainStore.{the_view}
use Rattle.plain_store.proofs.Fields.{with_given}
use Rattle.plain_store.proofs.store.PlainStore.drop_hanging.Goals as goal

pub returns : goal.returns
returns c =
    ap (with_given (the_view c.self.inside)) (filter_same _ (λ grant. not (is_child_of c.args.id c.args.grantor.0 grant)) _ (λ x b f' k. search rules) _ _ c.retain.ensures.filtered)
    ∙ ap (λ replay_state. without_hanging replay_state c.args.id c.args.grantor.0) c.self.view_is
