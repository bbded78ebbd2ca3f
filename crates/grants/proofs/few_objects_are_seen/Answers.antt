use Rattle.grants.proofs.Few.{few_granted}
use Rattle.grants.proofs.few_objects_are_seen.Goals as goal

pub returns : goal.returns
returns c lengths grants lives job are all few there = few_granted lengths grants lives job are all few there
