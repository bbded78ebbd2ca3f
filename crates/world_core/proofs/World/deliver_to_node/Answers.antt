use Rattle.std.proofs.Common.{None, [], sym, ap, subst, refl, ◌∙◌}
use Rattle.obj_id.specs.declared.messages.Endpoint.TheVariants as places
use Rattle.private_store.specs.declared.schedules.Step.TheVariants as steps
use Rattle.private_store.specs.rules.Cluster.{arrival_of}
use Rattle.world_core.specs.WorldSteps.{handed, IsDelivered, past_node}
use Rattle.world_core.specs.Noting.{IsNoted, keeps_arrival, passes_node}
use Rattle.world_core.proofs.HandedOver.{arrived, message_again}
use Rattle.world_core.proofs.Places.{found_within}
use Rattle.world_core.proofs.World.deliver_to_node.Goals as goal

pub returns-in_ok-given-in-Ok-clause-ok : goal.returns-in_ok-given-in-Ok-clause-ok
returns-in_ok-given-in-Ok-clause-ok c =
    arrived c.args.self.now c.arrive.new.self c.args.place c.args.job c.args.from c.args.message c.in-Ok.arriving c.in_ok-given-in-Ok.given.reply c.handed.result c.in-Ok.ensures.made c.in_ok-given-in-Ok.ensures.ok
    (c.handed.ensures ∙ ap (λ m. handed m c.in_ok-given-in-Ok.given.reply) (c.message_of.ensures ∙ message_again c.args.from c.args.message c.in-Ok.arriving c.in-Ok.ensures.made))

pub returns-in-Err-clause-ok : goal.returns-in-Err-clause-ok
returns-in-Err-clause-ok c =
    let node = found_within c.args.self.now.nodes c.args.place c.requires in
    subst (λ response. IsDelivered c.args.self.now c.args.job c.args.from c.args.message c.args.self.now (places.Node c.args.place) response)
    (sym (ap (λ s. s.answer) c.alone.ensures ∙ c.handed-answer.ensures ∙ (λ i. handed (c.in-Err.ensures.same i) (c.reply_to_nothing.ensures node.0 node.1 i))))
    (past_node c.args.place node.0 node.1 c.in-Err.ensures.none refl)

pub returns-in_ok-given-in-Ok-clause-kept : goal.returns-in_ok-given-in-Ok-clause-kept
returns-in_ok-given-in-Ok-clause-kept c = λ number damaged.
    let given = c.in_ok-given-in-Ok.given in
    subst (λ response. IsNoted c.args.self.now c.arrive.new.self given.judged given.notes (steps.Deliver c.args.job c.args.from (places.Node c.args.place) number damaged) response)
    (sym (c.handed.ensures ∙ ap (λ m. handed m given.reply) c.message_of.ensures))
    (keeps_arrival c.args.job c.args.from c.args.place number damaged c.in-Ok.arriving given.reply
    (ap (arrival_of c.args.from) (message_again c.args.from c.args.message c.in-Ok.arriving c.in-Ok.ensures.made) ∙ c.in-Ok.ensures.made)
    c.in_ok-given-in-Ok.ensures.kept)

pub returns-in-Err-clause-kept : goal.returns-in-Err-clause-kept
returns-in-Err-clause-kept c = λ number damaged.
    subst (λ s. IsNoted c.args.self.now c.args.self.now s.judged s.notes (steps.Deliver c.args.job c.args.from (places.Node c.args.place) number damaged) s.answer) (sym c.alone.ensures)
    (subst (λ response. IsNoted c.args.self.now c.args.self.now None [] (steps.Deliver c.args.job c.args.from (places.Node c.args.place) number damaged) response)
    (sym (c.handed-answer.ensures ∙ ap (λ m. handed m c.reply_to_nothing.result) c.in-Err.ensures.same))
    (passes_node c.args.job c.args.from c.args.place number damaged c.args.message c.reply_to_nothing.result c.in-Err.ensures.none (record { none = refl; nobody = refl; nodes = refl })))
