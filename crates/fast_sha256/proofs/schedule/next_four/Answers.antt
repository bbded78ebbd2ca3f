use Rattle.std.proofs.Common.{◌≡◌, ◌+◌, ◌<◌, slice_index, sym, refl, ap, ap₂, ◌∙◌, arith}
use Rattle.sha2.specs.Sha256.{add32, small_sigma0, schedule}
use Rattle.fast_sha256.proofs.Lanes.{each_of_four, lane, next_word_is, add_none, same_place}
use Rattle.fast_sha256.proofs.schedule.next_four.Goals as goal

pub returns : goal.returns
returns c = λ block t room wa wb wc wd.
    let words = schedule block 48 in
    let a = c.args.a in
    let b = c.args.b in
    let w = c.args.c in
    let d = c.args.d in
    let n0 : 0 < 4 = omega arith in
    let n1 : 1 < 4 = omega arith in
    let n2 : 2 < 4 = omega arith in
    let n3 : 3 < 4 = omega arith in
    let p = c.from_second.ensures in
    let q = c.from_second-2.ensures in
    let up = c.sigma1_of_upper.ensures in
    let low = c.sigma1_of_lower.ensures in
    let sum0 = c.add_lanes-sums.ensures.lanes 0 n0 ∙ ap₂ add32 (c.add_lanes.ensures.lanes 0 n0 ∙ ap₂ add32 refl (c.sigma0_of_each.ensures 0 n0 ∙ ap small_sigma0 p.0)) q.0 in
    let sum1 = c.add_lanes-sums.ensures.lanes 1 n1 ∙ ap₂ add32 (c.add_lanes.ensures.lanes 1 n1 ∙ ap₂ add32 refl (c.sigma0_of_each.ensures 1 n1 ∙ ap small_sigma0 p.1)) q.1 in
    let sum2 = c.add_lanes-sums.ensures.lanes 2 n2 ∙ ap₂ add32 (c.add_lanes.ensures.lanes 2 n2 ∙ ap₂ add32 refl (c.sigma0_of_each.ensures 2 n2 ∙ ap small_sigma0 p.2)) q.2 in
    let sum3 = c.add_lanes-sums.ensures.lanes 3 n3 ∙ ap₂ add32 (c.add_lanes.ensures.lanes 3 n3 ∙ ap₂ add32 refl (c.sigma0_of_each.ensures 3 n3 ∙ ap small_sigma0 p.3)) q.3 in
    let half0 : slice_index c.add_lanes-half.result 0 ≡ slice_index words (t + 16 + 0) =
    c.add_lanes-half.ensures.lanes 0 n0 ∙ ap₂ add32 sum0 up.0
    ∙ next_word_is block (t + 16 + 0) (slice_index a 0) (slice_index a 1) (slice_index w 1) (slice_index d 2) (omega arith) (omega arith)
    (lane a words t 0 _ wa n0 (omega arith)) (lane a words t 1 _ wa n1 (omega arith))
    (lane w words (t + 8) 1 _ wc n1 (omega arith)) (lane d words (t + 12) 2 _ wd n2 (omega arith)) in
    let half1 : slice_index c.add_lanes-half.result 1 ≡ slice_index words (t + 16 + 1) =
    c.add_lanes-half.ensures.lanes 1 n1 ∙ ap₂ add32 sum1 up.1
    ∙ next_word_is block (t + 16 + 1) (slice_index a 1) (slice_index a 2) (slice_index w 2) (slice_index d 3) (omega arith) (omega arith)
    (lane a words t 1 _ wa n1 (omega arith)) (lane a words t 2 _ wa n2 (omega arith))
    (lane w words (t + 8) 2 _ wc n2 (omega arith)) (lane d words (t + 12) 3 _ wd n3 (omega arith)) in
    let out0 : slice_index c.add_lanes-2.result 0 ≡ slice_index words (t + 16 + 0) =
    c.add_lanes-2.ensures.lanes 0 n0 ∙ ap₂ add32 (c.add_lanes-half.ensures.lanes 0 n0) low.0 ∙ add_none _ _ ∙ sym (c.add_lanes-half.ensures.lanes 0 n0) ∙ half0 in
    let out1 : slice_index c.add_lanes-2.result 1 ≡ slice_index words (t + 16 + 1) =
    c.add_lanes-2.ensures.lanes 1 n1 ∙ ap₂ add32 (c.add_lanes-half.ensures.lanes 1 n1) low.1 ∙ add_none _ _ ∙ sym (c.add_lanes-half.ensures.lanes 1 n1) ∙ half1 in
    let out2 : slice_index c.add_lanes-2.result 2 ≡ slice_index words (t + 16 + 2) =
    c.add_lanes-2.ensures.lanes 2 n2 ∙ ap₂ add32 (c.add_lanes-half.ensures.lanes 2 n2 ∙ ap₂ add32 sum2 up.2 ∙ add_none _ _) low.2
    ∙ next_word_is block (t + 16 + 2) (slice_index a 2) (slice_index a 3) (slice_index w 3) (slice_index c.add_lanes-half.result 0) (omega arith) (omega arith)
    (lane a words t 2 _ wa n2 (omega arith)) (lane a words t 3 _ wa n3 (omega arith))
    (lane w words (t + 8) 3 _ wc n3 (omega arith)) (half0 ∙ same_place words _ _ (omega arith)) in
    let out3 : slice_index c.add_lanes-2.result 3 ≡ slice_index words (t + 16 + 3) =
    c.add_lanes-2.ensures.lanes 3 n3 ∙ ap₂ add32 (c.add_lanes-half.ensures.lanes 3 n3 ∙ ap₂ add32 sum3 up.3 ∙ add_none _ _) low.3
    ∙ next_word_is block (t + 16 + 3) (slice_index a 3) (slice_index b 0) (slice_index d 0) (slice_index c.add_lanes-half.result 1) (omega arith) (omega arith)
    (lane a words t 3 _ wa n3 (omega arith)) (lane b words (t + 4) 0 _ wb n0 (omega arith))
    (lane d words (t + 12) 0 _ wd n0 (omega arith)) (half1 ∙ same_place words _ _ (omega arith)) in
    each_of_four _ out0 out1 out2 out3
