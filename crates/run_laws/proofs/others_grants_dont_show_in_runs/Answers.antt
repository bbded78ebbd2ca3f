use Rattle.run_laws.proofs.Replied.{others_dont_show_in_runs}
use Rattle.run_laws.proofs.others_grants_dont_show_in_runs.Goals as goal

pub returns : goal.returns
returns c = others_dont_show_in_runs
