use Rattle.private_store.specs.rules.Private.{no_store}
use Rattle.store_facts.proofs.Stamped.{view_of_run, replies_of_run, no_store_IsStamped}
use Rattle.store_laws.proofs.stamps_are_the_order_of_use.Goals as goal

pub returns-clause-order : goal.returns-clause-order
returns-clause-order c = λ node job xs. view_of_run node (no_store job) xs (no_store_IsStamped job)

pub returns-clause-replies : goal.returns-clause-replies
returns-clause-replies c = λ node job xs. replies_of_run node (no_store job) xs (no_store_IsStamped job)
