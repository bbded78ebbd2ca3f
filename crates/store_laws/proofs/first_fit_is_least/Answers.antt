use Rattle.store_facts.proofs.FirstFit.{first-free, first-least, first-units}
use Rattle.store_laws.proofs.first_fit_is_least.Goals as goal

pub returns-clause-free : goal.returns-clause-free
returns-clause-free c = first-free

pub returns-clause-least : goal.returns-clause-least
returns-clause-least c = first-least

pub returns-clause-units : goal.returns-clause-units
returns-clause-units c = first-units
