use Rattle.store_facts.proofs.AnswersAre.{sends_its_own, silent_step}
use Rattle.store_laws.proofs.each_input_sends_its_own.Goals as goal

pub returns-clause-own : goal.returns-clause-own
returns-clause-own c = sends_its_own

pub returns-clause-silent : goal.returns-clause-silent
returns-clause-silent c = silent_step
