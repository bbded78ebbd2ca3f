use Rattle.std.proofs.Common.{◌≡◌, ◌+◌, ap, ◌∙◌, arith}
use Rattle.sha2.specs.Sha256.{rounds}
use Rattle.fast_sha256.proofs.OneRound.{round_on}
use Rattle.fast_sha256.proofs.rounds.four_rounds.Goals as goal

pub returns : goal.returns
returns c = λ h words held start.
    let t = c.args.t in
    let after = rounds h words in
    let e2 : t + 1 + 1 ≡ t + 2 = omega arith in
    let e3 : t + 2 + 1 ≡ t + 3 = omega arith in
    let e4 : t + 3 + 1 ≡ t + 4 = omega arith in
    let s1 = round_on h words _ _ t start (c.round-v.ensures _ _ (held t (omega arith))) in
    let s2 = round_on h words _ _ (t + 1) s1 (c.round-v-2.ensures _ _ (held (t + 1) (omega arith))) ∙ ap after e2 in
    let s3 = round_on h words _ _ (t + 2) s2 (c.round-v-3.ensures _ _ (held (t + 2) (omega arith))) ∙ ap after e3 in
    round_on h words _ _ (t + 3) s3 (c.round.ensures _ _ (held (t + 3) (omega arith))) ∙ ap after e4
