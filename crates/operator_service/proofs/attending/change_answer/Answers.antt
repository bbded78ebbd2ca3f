use Rattle.std.proofs.Common.{refl, subst}
use Rattle.operator_service.specs.Servings.{IsCarriedOut, IsOrderedAt}
use Rattle.operator_service.proofs.Stepping.{stepped_for}
use Rattle.operator_service.proofs.attending.change_answer.Goals as goal

pub returns-clause-changed : goal.returns-clause-changed
returns-clause-changed g c =
    let made = c.carry_out-reply.ensures in
    let response = c.carry_out-reply.result.0 in
    let receipt = c.carry_out-reply.result.1 in
    let carried = subst (λ node. IsCarriedOut (IsOrderedAt g.K.JournaledNode.receipt_of g.K.JournaledNode.made_at) node c.args.change response receipt) c.requires made.carried in
    (record { events = _; steps = stepped_for c.args.change receipt _ _ made.acts; is = record { response = response; receipt = receipt; carried = carried; steps = refl; is = c.in_ok-answer_line.ensures } }, refl)
