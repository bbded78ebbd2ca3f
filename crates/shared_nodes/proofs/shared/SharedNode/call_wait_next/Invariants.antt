use Rattle.std.specs.Prelude.{None}
use Rattle.private_store.specs.declared.schedules.Event.TheVariants as event
use Rattle.private_store.specs.rules.Frames.{tried}
use Rattle.node_gate.specs.Actors.{HasTried}
use Rattle.shared_nodes.proofs.shared.SharedNode.call_wait_next.Given as goal

abbrev pub invariant-loop : goal.invariant-loop
invariant-loop g l = HasTried g.K.JournaledNode.called_by None (event.Call l.fn.job l.fn.session (tried l.fn.awaited)) l.fn.actor l.actor
