use Rattle.run_laws.proofs.Moments.{each_moment}
use Rattle.run_laws.proofs.grant_laws.laws_hold_at_every_moment.Goals as goal

pub returns : goal.returns
returns c = each_moment
