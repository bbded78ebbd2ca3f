use Rattle.fetch_link.proofs.Steps.{Pops-received}
use Rattle.fetch_link.proofs.receiver.LinkReceiver.receive_next.Goals as goal

pub recv_as-requires-clause-rule : goal.recv_as-requires-clause-rule
recv_as-requires-clause-rule g c = (Pops-received _ _ c.args.self.now.receives, λ _ _ _ _. tt)
