use Rattle.run_laws.proofs.Beginnings.{beginning_private}
use Rattle.run_laws.proofs.grant_laws.beginnings_are_private.Goals as goal

pub returns : goal.returns
returns c = beginning_private
