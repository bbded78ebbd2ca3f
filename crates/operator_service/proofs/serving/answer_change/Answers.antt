use Rattle.std.proofs.Common.{subst}
use Rattle.operator_service.specs.Servings.{IsCarriedOut, IsOrderedAt}
use Rattle.operator_service.proofs.Stepping.{replied}
use Rattle.operator_service.proofs.serving.answer_change.Goals as goal

pub returns-clause-ok : goal.returns-clause-ok
returns-clause-ok g c =
    let made = c.carry_out-reply.ensures in
    let response = c.carry_out-reply.result.0 in
    let receipt = c.carry_out-reply.result.1 in
    let ordered = IsOrderedAt g.K.JournaledNode.receipt_of g.K.JournaledNode.made_at in
    let carried = subst (λ node. IsCarriedOut ordered node c.args.change response receipt) c.requires made.carried in
    replied ordered c.args.node c.args.change response receipt _ _ _ _ _ carried made.acts c.write_answer.ensures.ok
