use Rattle.std.proofs.Common.{◌==◌, ◌&&◌, ◌++◌, ◌∷◌, [], ◌∙◌, ap, filter, not, rules}
use Rattle.std.proofs.lemmas.Fn.{filter_same}
use Rattle.obj_id.specs.Ids.{same_task}
use Rattle.private_store.specs.rules.Shape.{GrantGiven}
use Rattle.plain_store.specs.contracts.store.PlainStore.{the_view}
use Rattle.plain_store.proofs.Fields.{with_ended}
use Rattle.plain_store.proofs.store.PlainStore.task_ended.Goals as goal

pub returns : goal.returns
returns c =
    let v = the_view c.self.inside in
    ap (with_ended v c.push.new.list.items) (filter_same _ (λ grant. not (grant.id.job.0 == c.self.inside.job.0 && same_task c.args.task grant.id.task)) _ (λ x b f' k. search rules) _ _ c.retain.ensures.filtered)
    ∙ ap (λ ended. with_ended v ended (filter (λ (grant : GrantGiven). not (grant.id.job.0 == v.shape.job && same_task c.args.task grant.id.task)) v.shape.given)) c.in_ok-push.ensures.items
    ∙ ap (λ replay_state. with_ended replay_state (replay_state.shape.ended_tasks ++ c.args.task ∷ []) (filter (λ (grant : GrantGiven). not (grant.id.job.0 == replay_state.shape.job && same_task c.args.task grant.id.task)) replay_state.shape.given)) c.self.view_is
