use Rattle.run_laws.proofs.Lengths.{have_grants}
use Rattle.run_laws.proofs.grant_laws.grants_of_a_trace_are_a_table.Goals as goal

pub returns : goal.returns
returns c = have_grants
