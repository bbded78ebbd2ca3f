use Rattle.std.proofs.Common.{◌∙◌, arith}
use Rattle.std.proofs.lemmas.Simd.{length-zip2}
use Rattle.fast_sha256.proofs.schedule.add_lanes.Goals as goal

pub returns-clause-len : goal.returns-clause-len
returns-clause-len c = length-zip2 _ c.args.a c.args.b (omega (arith, c.fits-a.0, c.fits-b.0)) ∙ c.fits-a.0
