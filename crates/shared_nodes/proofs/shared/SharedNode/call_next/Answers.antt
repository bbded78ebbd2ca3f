use Rattle.std.specs.Prelude.{◌≡◌}
use Rattle.private_store.specs.declared.schedules.Event.TheVariants as event
use Rattle.node_gate.specs.Calls.{IsNext}
use Rattle.shared_nodes.proofs.Answering.{answered, answered_at, answered_small}
use Rattle.shared_nodes.proofs.shared.SharedNode.call_next.Goals as goal

pub returns-clause-called : goal.returns-clause-called
returns-clause-called g c =
    answered c.step_command-stepped.result c.answer.result.0 c.answer.result.1
    (IsNext g.K.JournaledNode.called_by g.K.JournaledNode.rises c.args.last.now (event.Call c.args.job c.args.session c.args.command)) c.answer.ensures c.step_command-stepped.ensures.called

pub returns-clause-small : goal.returns-clause-small
returns-clause-small g c = answered_small c.step_command-stepped.result c.answer.result.0 c.answer.result.1 c.answer.ensures c.step_command-stepped.ensures.small

pub returns-clause-node : goal.returns-clause-node
returns-clause-node g c =
    answered_at c.step_command-stepped.result c.answer.result.0 c.answer.result.1 (λ r. g.K.JournaledNode.made_at r ≡ c.args.self.now.number) c.answer.ensures c.step_command-stepped.ensures.node
