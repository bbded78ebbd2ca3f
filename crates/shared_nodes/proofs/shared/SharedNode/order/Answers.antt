use Rattle.shared_nodes.proofs.Answering.{answered}
use Rattle.shared_nodes.proofs.shared.SharedNode.order.Goals as goal

pub returns-clause-receipt : goal.returns-clause-receipt
returns-clause-receipt g c = answered c.step_order-stepped.result c.answer.result.0 c.answer.result.1 (g.K.JournaledNode.receipt_of c.args.event.now) c.answer.ensures c.step_order-stepped.ensures.stepped
