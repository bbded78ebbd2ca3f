-- A part of a frame is made whole, and the stream goes on after it.
use Rattle.std.proofs.Common.{◌≡◌, ◌==◌, ℕ, ◌+◌, ◌-◌, ◌<◌, ◌≤◌, ◌⊎◌, Bool, true, false, List, [], ◌∷◌, ◌++◌, length, take, drop, inl, inr, refl, sym, ap, subst, ◌∙◌, arith, append_assoc, length-append, length-drop}
use Rattle.std.proofs.lemmas.Bool.{eqb-true}
use Rattle.std.proofs.lemmas.List.{take-append-drop}
use Rattle.std.proofs.Math.Seq.{take-add, take-length}
use Rattle.store_facts.proofs.Tests.{true_false}
use Rattle.private_store.specs.declared.frames.Item.{Item}
use Rattle.private_store.specs.rules.Frames.{malformed, Stream, stopped, after_item, is_command_length, number_at, stream_of}
use Rattle.wire_frames.specs.Filled.{filled_item}
use Rattle.wire_frames.specs.Finishing.{IsCompleted, IsFilled, IsWholeFrame}
use Rattle.wire_frames.specs.Heads.{IsPart, stream_read}
use Rattle.wire_frames.specs.Reading.{Fed, unfinished, answer_of, fed, fed_by, reading_after, reading_fed}
use Rattle.wire_frames.specs.declared.bodies.FrameBody.{FrameBody}
use Rattle.wire_frames.proofs.Pieces.{IsKept, IsKept-reading_after, onward, stream_of-append}
use Rattle.wire_frames.proofs.Streams.{number_at-append}

pub rest_taken : (bytes : List ℕ) (n : ℕ) → take (length bytes - n) (drop n bytes) ≡ drop n bytes
rest_taken bytes n = ap (λ k. take k (drop n bytes)) (sym (length-drop n bytes)) ∙ take-length (drop n bytes)

-- ---- what a piece gives

-- what a reader tells of a stream, and what it keeps
abbrev told_of : Stream → Fed
told_of s = reading_fed (answer_of s) (reading_after s)

stream_read-response : (items : List Item) (faulty : Bool) (rest : List ℕ) → told_of (stream_read items faulty rest) ≡ fed_by items faulty rest
stream_read-response items true rest = refl
stream_read-response items false [] = refl
stream_read-response items false (b ∷ bs) = refl

pub fed-stream_read : (before piece : List ℕ) (items : List Item) (faulty : Bool) (rest : List ℕ)
    → stream_of (before ++ piece) ≡ stream_read items faulty rest → fed (unfinished before) piece ≡ fed_by items faulty rest
fed-stream_read before piece items faulty rest is = ap told_of is ∙ stream_read-response items faulty rest

-- what is kept after a piece is a part of a frame
pub IsPart-fed : (before piece : List ℕ) (items : List Item) (faulty : Bool) (rest : List ℕ)
    → fed (unfinished before) piece ≡ fed_by items faulty rest → faulty ≡ false → IsPart rest
IsPart-fed before piece items false rest is sound = subst (λ f. IsKept f.reader) is (IsKept-reading_after (before ++ piece))
IsPart-fed before piece items true rest is sound = true_false (sym sound)

-- where nothing was kept
pub fed-nothing_kept : (before piece : List ℕ) (items : List Item) (faulty : Bool) (used : ℕ) (after : List ℕ) → (length before == 0) ≡ true
    → stream_of piece ≡ stream_read items faulty (drop used piece) → after ≡ drop used piece → fed (unfinished before) piece ≡ fed_by items faulty after
fed-nothing_kept [] piece items faulty used after none is kept = fed-stream_read [] piece items faulty after (is ∙ ap (stream_read items faulty) (sym kept))
fed-nothing_kept (b ∷ bs) piece items faulty used after none is kept = absurd (let e : length (b ∷ bs) ≡ 0 = eqb-true (length (b ∷ bs)) 0 none in omega (arith, e))

-- ---- a part of a frame and what it lacks

-- all of the piece, or a whole length
all_or_long : (n size goal long : ℕ) → long < goal → (n ≡ size) ⊎ (goal ≤ long) → n ≡ size
all_or_long n size goal long short (inl all) = all
all_or_long n size goal long short (inr enough) = absurd (omega arith)

no_part : (bytes : List ℕ) → 4 ≤ length bytes → is_command_length (number_at bytes 0) ≡ false → IsPart bytes → ⊥
no_part bytes long h (inl short) = absurd (omega arith)
no_part bytes long h (inr (in_range, short)) = true_false (sym h ∙ in_range)

-- a part of a frame that has its length's bytes now has no more than the frame
short_enough : (before after : List ℕ) → IsPart before → 4 ≤ length after → (length after ≤ 4) ⊎ (after ≡ before) → length after ≤ 4 + number_at after 0
short_enough before after part long (inl few) = omega arith
short_enough before after (inl short) long (inr same) = absurd (let e : length after ≡ length before = ap length same in omega (arith, e))
short_enough before after (inr (_, short)) long (inr same) =
    let e : length after ≡ length before = ap length same in
    let n : number_at after 0 ≡ number_at before 0 = ap (λ b. number_at b 0) same in
    omega (arith, e, n)

short_still : (goal : ℕ) (middle after : List ℕ) → length middle ≤ goal → (length after ≤ goal) ⊎ (after ≡ middle) → length after ≤ goal
short_still goal middle after few (inl less) = less
short_still goal middle after few (inr same) = let e : length after ≡ length middle = ap length same in omega (arith, e)

part_takes_all : (size m : ℕ) (rest after : List ℕ) → 4 ≤ length after → number_at after 0 ≡ size
    → (m ≡ length rest) ⊎ (4 + size ≤ length after) → IsPart after → m ≡ length rest
part_takes_all size m rest after long number (inl all) part = all
part_takes_all size m rest after long number (inr whole) (inl short) = absurd (omega arith)
part_takes_all size m rest after long number (inr whole) (inr (_, short)) = absurd (omega (arith, number))

pub completed : (before piece : List ℕ) (n m size : ℕ) (middle after : List ℕ) → IsPart before → IsFilled 4 before piece n middle → 4 ≤ length middle
    → size ≡ number_at middle 0 → IsFilled (4 + size) middle (drop n piece) m after → IsCompleted before piece (n + m) after
completed before piece n m size middle after part f long number g =
    let more = take m (drop n piece) in
    let longer : length after ≡ length middle + length more = ap length g.bytes ∙ length-append middle more in
    let same : number_at after 0 ≡ size = ap (λ b. number_at b 0) g.bytes ∙ number_at-append middle more long ∙ sym number in
    let few : length middle ≤ 4 + size = subst (λ k. length middle ≤ 4 + k) (sym number) (short_enough before middle part long f.no_more) in
    let short : length after ≤ 4 + size = short_still (4 + size) middle after few g.no_more in
    let following : length (drop n piece) ≡ length piece - n = length-drop n piece in
    record {
      bytes = g.bytes ∙ ap (λ b. b ++ more) f.bytes ∙ append_assoc before (take n piece) more ∙ ap (λ b. before ++ b) (sym (take-add n m piece));
      within = omega (arith, f.within, g.within, following);
      all = λ still.
          let e : m ≡ length (drop n piece) = part_takes_all size m (drop n piece) after (omega (arith, longer)) same g.no_less still in
          omega (arith, e, f.within, following);
      no_more = λ _ whole. omega (arith, whole, short, same);
    }

-- ---- what is read of it

-- the bytes and the piece, parted after what was taken
parted : (before piece : List ℕ) (n : ℕ) (after : List ℕ) → after ≡ before ++ take n piece → before ++ piece ≡ after ++ drop n piece
parted before piece n after is =
    ap (λ b. before ++ b) (sym (take-append-drop n piece)) ∙ sym (append_assoc before (take n piece) (drop n piece)) ∙ ap (λ b. b ++ drop n piece) (sym is)

-- no frame, whatever follows
pub fed-fault : (before piece : List ℕ) (n : ℕ) (after rest : List ℕ) → IsCompleted before piece n after
    → stream_of after ≡ stopped after malformed → fed (unfinished before) piece ≡ fed_by [] true rest
fed-fault before piece n after rest c is =
    let following = drop n piece in
    fed-stream_read before piece [] true (after ++ following)
    (ap stream_of (parted before piece n after c.bytes) ∙ stream_of-append after following ∙ ap (λ s. onward s following) is)

after_item-stream_read : (x : Item) (items : List Item) (faulty : Bool) (rest : List ℕ)
    → after_item x (stream_read items faulty rest) ≡ stream_read (x ∷ items) faulty rest
after_item-stream_read x items true rest = refl
after_item-stream_read x items false rest = refl

-- a whole frame, and the frames after it
pub fed-whole_frame : (said : FrameBody) (kept following : List ℕ) (items : List Item) (faulty : Bool) (rest : List ℕ) → IsWholeFrame said kept
    → stream_of following ≡ stream_read items faulty rest → fed (unfinished kept) following ≡ fed_by (filled_item said (drop 5 kept) ∷ items) faulty rest
fed-whole_frame said kept following items faulty rest whole is =
    let x = filled_item said (drop 5 kept) in
    fed-stream_read kept following (x ∷ items) faulty rest
    (stream_of-append kept following ∙ ap (λ s. onward s following) whole.stream ∙ ap (after_item x) is ∙ after_item-stream_read x items faulty rest)
