use Rattle.std.proofs.Common.{w64}
use Rattle.std.proofs.lemmas.Simd.{below_from_Fits}
use Rattle.fast_sha256.proofs.Twins.{low_halves}
use Rattle.fast_sha256.proofs.schedule.low_halves.Goals as goal

pub returns : goal.returns
returns c = low_halves c.args.a c.fits-a.0 (below_from_Fits w64 c.args.a c.fits-a.1)
