use Rattle.std.specs.Prelude.{None}
use Rattle.private_store.specs.declared.schedules.Event.TheVariants as event
use Rattle.private_store.specs.rules.Frames.{tried}
use Rattle.shared_nodes.proofs.Answering.{called_of}
use Rattle.shared_nodes.proofs.shared.SharedNode.call_wait.Goals as goal

pub returns-clause-called : goal.returns-clause-called
returns-clause-called g c =
    called_of g.K.JournaledNode.called_by g.K.JournaledNode.rises None (event.Call c.args.job c.args.session (tried c.args.awaited)) c.call_wait_next.result.0 c.call_wait_next.result.1
    c.call_wait_next.ensures.called
