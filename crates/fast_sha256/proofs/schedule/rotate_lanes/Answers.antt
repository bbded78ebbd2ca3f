use Rattle.fast_sha256.proofs.Lanes.{turns}
use Rattle.fast_sha256.proofs.schedule.rotate_lanes.Goals as goal

pub returns : goal.returns
returns c = turns c.args.by c.requires.0 c.requires.1 c.args.a c.fits-a.0
