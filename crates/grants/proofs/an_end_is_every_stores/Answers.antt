use Rattle.grants.proofs.Ends.{rest_alike, ends_alike}
use Rattle.grants.proofs.an_end_is_every_stores.Goals as goal

pub returns-clause-rest : goal.returns-clause-rest
returns-clause-rest c lengths grants store has = rest_alike lengths grants store has

pub returns-clause-left : goal.returns-clause-left
returns-clause-left c lengths grants are test = ends_alike lengths grants are test
