use Rattle.store_facts.proofs.EachStep.{step_made}
use Rattle.store_laws.proofs.every_step_is_made_of_edits.Goals as goal

pub returns : goal.returns
returns c = step_made
