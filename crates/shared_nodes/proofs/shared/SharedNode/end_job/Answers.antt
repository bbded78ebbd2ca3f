use Rattle.private_store.specs.declared.schedules.Event.TheVariants.{JobEnd}
use Rattle.shared_nodes.proofs.Answering.{answered}
use Rattle.shared_nodes.proofs.shared.SharedNode.end_job.Goals as goal

pub returns-clause-receipt : goal.returns-clause-receipt
returns-clause-receipt g c = answered c.step_end-stepped.result c.answer-reply.result.0 c.answer-reply.result.1 (g.K.JournaledNode.receipt_of (JobEnd c.args.job)) c.answer-reply.ensures c.step_end-stepped.ensures.stepped
