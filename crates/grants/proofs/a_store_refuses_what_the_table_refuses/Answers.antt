use Rattle.grants.proofs.Private.{refuses_alike}
use Rattle.grants.proofs.a_store_refuses_what_the_table_refuses.Goals as goal

pub returns : goal.returns
returns c lengths grants = refuses_alike lengths grants
