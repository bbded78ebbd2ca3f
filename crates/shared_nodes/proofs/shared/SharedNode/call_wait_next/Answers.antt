use Rattle.private_store.specs.declared.schedules.Event.TheVariants as event
use Rattle.private_store.specs.rules.Frames.{tried}
use Rattle.shared_nodes.proofs.Trying.{tried_again, tried_last, tried_never}
use Rattle.shared_nodes.proofs.shared.SharedNode.call_wait_next.Goals as goal

pub loop-init : goal.loop-init
loop-init g c = tried_never g.K.JournaledNode.called_by (event.Call c.args.job c.args.session (tried c.args.awaited)) c.args.actor.now

pub returns-in-Some-last_try-clause-acts : goal.returns-in-Some-last_try-clause-acts
returns-in-Some-last_try-clause-acts g c =
    tried_last g.K.JournaledNode.called_by (event.Call c.args.job c.args.session (tried c.args.awaited)) c.args.actor.now c.in-Some-last_try.answer.1 c.loop.actor c.try_once-last_try.new.actor c.loop.invariant c.in-Some-last_try.ensures.acts

pub loop-preserved : goal.loop-preserved
loop-preserved g c =
    tried_again g.K.JournaledNode.called_by (event.Call c.args.job c.args.session (tried c.args.awaited)) c.args.actor.now c.loop.actor c.try_once-last_try.new.actor c.loop.invariant c.in_default.ensures.acts c.in_default.ensures.pending.0 c.in_default.ensures.pending.1
