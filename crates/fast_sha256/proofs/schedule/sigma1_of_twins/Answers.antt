use Rattle.std.proofs.Common.{◌<◌, ◌^◌, slice_index, ◌∙◌, arith, w32}
use Rattle.std.proofs.lemmas.Simd.{below_from_Fits, Each1-get_or}
use Rattle.fast_sha256.proofs.Twins.{sigma1_beside}
use Rattle.fast_sha256.proofs.schedule.sigma1_of_twins.Goals as goal

pub returns : goal.returns
returns c =
    let a = c.args.a in
    let n0 : 0 < 4 = omega arith in
    let n2 : 2 < 4 = omega arith in
    let both = c.as_pairs.ensures in
    let cut = c.shifted_twice.ensures in
    let own = c.low_halves.ensures in
    let below = below_from_Fits w32 a c.fits-a.1 in
    let x0 : slice_index a 0 < 2 ^ 32 = Each1-get_or _ a 0 0 (omega (arith, c.fits-a.0)) below in
    let x2 : slice_index a 2 < 2 ^ 32 = Each1-get_or _ a 2 0 (omega (arith, c.fits-a.0)) below in (
      c.xor_lanes.ensures 0 n0 ∙ rw (own.0, cut.0, both.0, c.shift_lanes.ensures 0 n0) (sigma1_beside (slice_index a 0) (slice_index a 1) x0 c.requires.0),
      c.xor_lanes.ensures 2 n2 ∙ rw (own.1, cut.1, both.1, c.shift_lanes.ensures 2 n2) (sigma1_beside (slice_index a 2) (slice_index a 3) x2 c.requires.1),
    )
