use Rattle.store_facts.proofs.AnswersAre.{never_wants, view_never_wants}
use Rattle.store_laws.proofs.no_step_wants_memory.Goals as goal

pub returns-clause-never : goal.returns-clause-never
returns-clause-never c = never_wants

pub returns-clause-whole : goal.returns-clause-whole
returns-clause-whole c = view_never_wants
