use Rattle.grants.proofs.Taken.{has_grants, taken_is}
use Rattle.grants.proofs.a_store_has_what_the_table_has.Goals as goal

pub returns-clause-has : goal.returns-clause-has
returns-clause-has c lengths grants store given received = has_grants lengths grants store given received

pub returns-clause-taken : goal.returns-clause-taken
returns-clause-taken c lengths grants store has sorted = taken_is lengths grants store has sorted
