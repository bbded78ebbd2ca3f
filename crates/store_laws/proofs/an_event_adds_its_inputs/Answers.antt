use Rattle.store_facts.proofs.StepInputs.{inputs_until-at}
use Rattle.store_laws.proofs.an_event_adds_its_inputs.Goals as goal

pub returns : goal.returns
returns c = inputs_until-at
