use Rattle.grants.proofs.Private.{grants_alike}
use Rattle.grants.proofs.a_grant_is_every_stores.Goals as goal

pub returns : goal.returns
returns c lengths grants grantor id grantee = grants_alike lengths grants grantor id grantee
