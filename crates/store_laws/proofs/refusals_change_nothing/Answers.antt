use Rattle.store_laws.proofs.RefusingLemmas.{step_clean}
use Rattle.store_laws.proofs.refusals_change_nothing.Goals as goal

pub returns : goal.returns
returns c = λ order store x. step_clean store order x
