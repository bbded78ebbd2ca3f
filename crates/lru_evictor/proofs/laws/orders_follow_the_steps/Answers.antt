use Rattle.lru_evictor.proofs.Reorders.{reordered-used, reordered-removed, reordered-unused}
use Rattle.lru_evictor.proofs.laws.orders_follow_the_steps.Goals as goal

pub returns-clause-used : goal.returns-clause-used
returns-clause-used c = reordered-used

pub returns-clause-removed : goal.returns-clause-removed
returns-clause-removed c = λ order copies id h. reordered-removed copies id order h

pub returns-clause-neither : goal.returns-clause-neither
returns-clause-neither c = reordered-unused
