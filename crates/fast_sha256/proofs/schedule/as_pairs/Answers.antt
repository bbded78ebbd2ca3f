use Rattle.std.proofs.Common.{w32}
use Rattle.std.proofs.lemmas.Simd.{below_from_Fits}
use Rattle.fast_sha256.proofs.Twins.{joins}
use Rattle.fast_sha256.proofs.schedule.as_pairs.Goals as goal

pub returns : goal.returns
returns c = joins c.args.a c.fits-a.0 (below_from_Fits w32 c.args.a c.fits-a.1)
