use Rattle.std.proofs.Common.{◌==◌, ◌&&◌, ◌∙◌, ap, filter, not, rules}
use Rattle.std.proofs.lemmas.Fn.{filter_same}
use Rattle.obj_id.specs.Ids.{same_id}
use Rattle.private_store.specs.rules.Shape.{GrantGiven}
use Rattle.plain_store.specs.contracts.store.PlainStore.{the_view}
use Rattle.plain_store.proofs.Fields.{with_given}
use Rattle.plain_store.proofs.store.PlainStore.take_back.Goals as goal

pub returns : goal.returns
returns c =
    ap (with_given (the_view c.self.inside)) (filter_same _ (λ grant. not (same_id c.args.id grant.id && grant.target == c.args.target.0)) _ (λ x b f' k. search rules) _ _ c.retain.ensures.filtered)
    ∙ ap (λ replay_state. with_given replay_state (filter (λ (grant : GrantGiven). not (same_id c.args.id grant.id && grant.target == c.args.target.0)) replay_state.shape.given)) c.self.view_is
