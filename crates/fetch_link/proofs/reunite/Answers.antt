use Rattle.std.proofs.Common.{rules}
use Rattle.fetch_link.proofs.Steps.{Merges-roles, Learns-whole}
use Rattle.fetch_link.proofs.reunite.Goals as goal

pub absorb-requires-clause-rule : goal.absorb-requires-clause-rule
absorb-requires-clause-rule g c = Merges-roles _ _ _ _ c.args.sender.sends c.args.receiver.receives

pub learn_as-requires-clause-rule : goal.learn_as-requires-clause-rule
learn_as-requires-clause-rule g c = Learns-whole _ _ (search rules) (search rules)
