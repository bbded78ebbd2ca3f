use Rattle.std.proofs.Common.{subst, sym}
use Rattle.program_lines.specs.declared.operator.Change.{Change}
use Rattle.program_lines.specs.declared.operator.Change.TheVariants as change
use Rattle.operator_service.specs.Servings.{IsCarriedOut, IsOrderedAt}
use Rattle.operator_service.proofs.Stepping.{carried_at}
use Rattle.operator_service.proofs.serving.carry_out.Goals as goal

pub returns-in-Admit-clause-carried : goal.returns-in-Admit-clause-carried
returns-in-Admit-clause-carried g c =
    let receipt_of = g.K.JournaledNode.receipt_of in
    let made_at = g.K.JournaledNode.made_at in
    subst (λ (asked : Change). IsCarriedOut (IsOrderedAt receipt_of made_at) c.args.shared.now.number asked c.admit.result.0 c.admit.result.1) (sym c.in-Admit.is)
    (carried_at receipt_of made_at c.args.shared.now.number (change.Admit c.in-Admit.job c.in-Admit.quota c.in-Admit.key) c.admit.result.0 c.admit.result.1 c.admit.ensures.receipt c.admit.ensures.node)

pub returns-in-Requota-clause-carried : goal.returns-in-Requota-clause-carried
returns-in-Requota-clause-carried g c =
    let receipt_of = g.K.JournaledNode.receipt_of in
    let made_at = g.K.JournaledNode.made_at in
    subst (λ (asked : Change). IsCarriedOut (IsOrderedAt receipt_of made_at) c.args.shared.now.number asked c.requota.result.0 c.requota.result.1) (sym c.in-Requota.is)
    (carried_at receipt_of made_at c.args.shared.now.number (change.Requota c.in-Requota.job c.in-Requota.quota) c.requota.result.0 c.requota.result.1 c.requota.ensures.receipt c.requota.ensures.node)

pub returns-in-End-clause-carried : goal.returns-in-End-clause-carried
returns-in-End-clause-carried g c =
    let receipt_of = g.K.JournaledNode.receipt_of in
    let made_at = g.K.JournaledNode.made_at in
    subst (λ (asked : Change). IsCarriedOut (IsOrderedAt receipt_of made_at) c.args.shared.now.number asked c.end_job.result.0 c.end_job.result.1) (sym c.in-End.is)
    (carried_at receipt_of made_at c.args.shared.now.number (change.End c.in-End.job) c.end_job.result.0 c.end_job.result.1 c.end_job.ensures.receipt c.end_job.ensures.node)
