use Rattle.run_laws.proofs.Replied.{grants_of_run}
use Rattle.run_laws.proofs.grants_of_a_run.Goals as goal

pub returns : goal.returns
returns c = grants_of_run
