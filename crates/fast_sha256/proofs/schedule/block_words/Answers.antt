use Rattle.std.proofs.Common.{◌≡◌, ◌+◌, ◌*◌, slice_index, sym, ap, ◌∙◌, arith}
use Rattle.std.specs.Simd.Lanes.{chunk, number_l}
use Rattle.std.proofs.lemmas.Simd.{get_or-chunk}
use Rattle.sha2.proofs.Schedule256.{slice_index-schedule_first}
use Rattle.fast_sha256.proofs.Lanes.{be_word, same_place}
use Rattle.fast_sha256.proofs.schedule.block_words.Goals as goal

pub returns : goal.returns
returns c = λ j lt.
    let block = c.args.block.now in
    let t = c.args.t in
    let bytes = chunk (4 * t) 16 block in
    let b0 : slice_index bytes (4 * j) ≡ slice_index block (4 * (t + j)) =
    get_or-chunk (4 * t) 16 block (4 * j) 0 (omega arith) ∙ same_place block _ _ (omega arith) in
    let b1 : slice_index bytes (4 * j + 1) ≡ slice_index block (4 * (t + j) + 1) =
    get_or-chunk (4 * t) 16 block (4 * j + 1) 0 (omega arith) ∙ same_place block _ _ (omega arith) in
    let b2 : slice_index bytes (4 * j + 2) ≡ slice_index block (4 * (t + j) + 2) =
    get_or-chunk (4 * t) 16 block (4 * j + 2) 0 (omega arith) ∙ same_place block _ _ (omega arith) in
    let b3 : slice_index bytes (4 * j + 3) ≡ slice_index block (4 * (t + j) + 3) =
    get_or-chunk (4 * t) 16 block (4 * j + 3) 0 (omega arith) ∙ same_place block _ _ (omega arith) in
    c.as_words.ensures j lt ∙ ap (number_l 256) (c.each_reversed.ensures j lt)
    ∙ rw (b0, b1, b2, b3)
    (be_word (slice_index block (4 * (t + j))) (slice_index block (4 * (t + j) + 1)) (slice_index block (4 * (t + j) + 2)) (slice_index block (4 * (t + j) + 3)))
    ∙ sym (slice_index-schedule_first block 48 (t + j) (omega (arith, c.requires.t)))
