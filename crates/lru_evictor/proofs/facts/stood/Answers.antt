use Rattle.lru_evictor.proofs.Spread.{may-stay}
use Rattle.lru_evictor.proofs.facts.stood.Goals as goal

pub returns-else-may_stand-clause-stands : goal.returns-else-may_stand-clause-stands
returns-else-may_stand-clause-stands c = may-stay c.args.before.extent
