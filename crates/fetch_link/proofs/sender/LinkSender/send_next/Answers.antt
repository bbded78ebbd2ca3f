use Rattle.std.proofs.Common.{rules}
use Rattle.fetch_link.proofs.Steps.{Pushes-accepted, Learns-last}
use Rattle.fetch_link.proofs.sender.LinkSender.send_next.Goals as goal

pub try_send_as-requires-clause-rule : goal.try_send_as-requires-clause-rule
try_send_as-requires-clause-rule g c = (Pushes-accepted _ _ _ _ (search rules) c.args.self.now.sends, Learns-last _ _ c.args.self.now.sends)
