use Rattle.std.proofs.Common.{◌∷◌, [], ap}
use Rattle.std.specs.Simd.Lanes.{chunk}
use Rattle.std.proofs.lemmas.Simd.{pick_l_left}
use Rattle.fast_sha256.proofs.Lanes.{each_of_four}
use Rattle.fast_sha256.proofs.schedule.each_reversed.Goals as goal

pub returns : goal.returns
returns c =
    let own = pick_l_left 0 c.args.bytes c.args.bytes 16 (3 ∷ 2 ∷ 1 ∷ 0 ∷ 7 ∷ 6 ∷ 5 ∷ 4 ∷ 11 ∷ 10 ∷ 9 ∷ 8 ∷ 15 ∷ 14 ∷ 13 ∷ 12 ∷ []) c.fits-bytes.0 tt in
    each_of_four _ (ap (chunk 0 4) own) (ap (chunk 4 4) own) (ap (chunk 8 4) own) (ap (chunk 12 4) own)
