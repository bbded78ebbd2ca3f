use Rattle.run_laws.proofs.WhatIsSeen.{ends_there}
use Rattle.run_laws.proofs.grant_laws.a_withdrawal_ends_what_hangs_on_it.Goals as goal

pub returns : goal.returns
returns c = ends_there
