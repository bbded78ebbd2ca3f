use Rattle.std.proofs.Common.{◌≡◌, ◌+◌, ◌*◌, refl, ap, ◌∙◌, arith}
use Rattle.sha2.specs.Sha256.{add_state, compress, rounds, schedule}
use Rattle.fast_sha256.specs.Words.{AreSums}
use Rattle.fast_sha256.proofs.Lanes.{words_at, fewer_sums}
use Rattle.fast_sha256.proofs.rounds.take_in.Goals as goal

pub turns-init : goal.turns-init
unfolding rounds
turns-init c =
    let words = schedule c.args.block.now 48 in
    let s1 = c.store_sums.ensures.sums words (λ k lt. absurd (omega arith)) c.block_words-w0.ensures in
    let s2 = c.store_sums-2.ensures.sums words s1 c.block_words-w1.ensures in
    let s3 = c.store_sums-3.ensures.sums words s2 c.block_words-w2.ensures in
    let s4 = c.store_sums-4.ensures.sums words s3 c.block_words-w3.ensures in
    (c.block_words-w0.ensures, c.block_words-w1.ensures, c.block_words-w2.ensures, c.block_words-w3.ensures, s4, refl)

pub turns-preserved : goal.turns-preserved
turns-preserved c =
    let block = c.args.block.now in
    let words = schedule block 48 in
    let h = c.args.state.now in
    let after = rounds h words in
    let t = 16 * c.turns.turn in
    let i = c.turns.invariant in
    let w0 = c.next_four-w0.ensures block t (omega arith) i.0 i.1 i.2 i.3 in
    let w1 = c.next_four-w1.ensures block (t + 4) (omega arith) i.1 (words_at _ words (t + 8) (t + 4 + 4) (omega arith) i.2)
    (words_at _ words (t + 12) (t + 4 + 8) (omega arith) i.3) (words_at _ words (t + 16) (t + 4 + 12) (omega arith) w0) in
    let w2 = c.next_four-w2.ensures block (t + 8) (omega arith) i.2 (words_at _ words (t + 12) (t + 8 + 4) (omega arith) i.3)
    (words_at _ words (t + 16) (t + 8 + 8) (omega arith) w0) (words_at _ words (t + 4 + 16) (t + 8 + 12) (omega arith) w1) in
    let w3 = c.next_four-w3.ensures block (t + 12) (omega arith) i.3 (words_at _ words (t + 16) (t + 12 + 4) (omega arith) w0)
    (words_at _ words (t + 4 + 16) (t + 12 + 8) (omega arith) w1) (words_at _ words (t + 8 + 16) (t + 12 + 12) (omega arith) w2) in
    let s1 = c.store_sums-in-turns.ensures.sums words i.4 w0 in
    let s2 = c.store_sums-in-turns-2.ensures.sums words (fewer_sums _ words (t + 16 + 4) (t + 20) (omega arith) s1)
    (words_at _ words (t + 4 + 16) (t + 20) (omega arith) w1) in
    let s3 = c.store_sums-in-turns-3.ensures.sums words (fewer_sums _ words (t + 20 + 4) (t + 24) (omega arith) s2)
    (words_at _ words (t + 8 + 16) (t + 24) (omega arith) w2) in
    let s4 = c.store_sums-in-turns-4.ensures.sums words (fewer_sums _ words (t + 24 + 4) (t + 28) (omega arith) s3)
    (words_at _ words (t + 12 + 16) (t + 28) (omega arith) w3) in
    let r1 = c.four_rounds-v.ensures h words (fewer_sums _ words (t + 16 + 4) (t + 4) (omega arith) s1) i.5 in
    let e2 : t + 4 + 4 ≡ t + 8 = omega arith in
    let e3 : t + 8 + 4 ≡ t + 12 = omega arith in
    let e4 : t + 12 + 4 ≡ 16 * (c.turns.turn + 1) = omega arith in
    let r2 = c.four_rounds-v-in-turns.ensures h words (fewer_sums _ words (t + 20 + 4) (t + 4 + 4) (omega arith) s2) r1 in
    let r3 = c.four_rounds-v-in-turns-2.ensures h words (fewer_sums _ words (t + 24 + 4) (t + 8 + 4) (omega arith) s3) (r2 ∙ ap after e2) in
    let r4 = c.four_rounds-v-in-turns-3.ensures h words (fewer_sums _ words (t + 28 + 4) (t + 12 + 4) (omega arith) s4) (r3 ∙ ap after e3) in (
      words_at _ words (t + 16) (16 * (c.turns.turn + 1)) (omega arith) w0,
      words_at _ words (t + 4 + 16) (16 * (c.turns.turn + 1) + 4) (omega arith) w1,
      words_at _ words (t + 8 + 16) (16 * (c.turns.turn + 1) + 8) (omega arith) w2,
      words_at _ words (t + 12 + 16) (16 * (c.turns.turn + 1) + 12) (omega arith) w3,
      fewer_sums _ words (t + 28 + 4) (16 * (c.turns.turn + 1) + 16) (omega arith) s4,
      r4 ∙ ap after e4,
    )

pub returns : goal.returns
unfolding compress
returns c =
    let words = schedule c.args.block.now 48 in
    let h = c.args.state.now in
    let after = rounds h words in
    let done : 16 * c.turns.turn ≡ 48 = omega arith in
    let sums : AreSums c.turns.sums 64 words = fewer_sums _ words (16 * c.turns.turn + 16) 64 (omega arith) c.turns.invariant.4 in
    let r1 = c.four_rounds-v-2.ensures h words (fewer_sums _ words 64 52 (omega arith) sums) (c.turns.invariant.5 ∙ ap after done) in
    let r2 = c.four_rounds-v-3.ensures h words (fewer_sums _ words 64 56 (omega arith) sums) r1 in
    let r3 = c.four_rounds-v-4.ensures h words (fewer_sums _ words 64 60 (omega arith) sums) r2 in
    let r4 = c.four_rounds-v-5.ensures h words sums r3 in
    ap (add_state h) r4
