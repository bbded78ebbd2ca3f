use Rattle.fast_sha256.proofs.Lanes.{shifts}
use Rattle.fast_sha256.proofs.schedule.shift_lanes.Goals as goal

pub returns : goal.returns
returns c = shifts c.args.by c.args.a c.fits-a.0
