-- A stream, frame by frame.
use Rattle.std.proofs.Common.{◌≡◌, ℕ, ◌+◌, ◌-◌, ◌<◌, ◌≤◌, Bool, true, false, nat_lt, List, [], ◌∷◌, ◌++◌, length, take, drop, Option, Some, None, inl, inr, zero, suc, refl, sym, ap, subst, ◌∙◌, arith, length-append, length-drop}
use Rattle.std.proofs.lemmas.Bool.{and_parts, le-ltb, leb-true, lt-ltb, ltb-false, ltb-true}
use Rattle.std.specs.Prelude.{nat_le, slice_index}
use Rattle.std.specs.Int.{from_be_bytes, w32}
use Rattle.std.proofs.lemmas.List.{drop-append-le, take-append-le}
use Rattle.std.proofs.Math.ListN.{get_or-append}
use Rattle.wire_frames.specs.Heads.{IsPart, cut_end}
use Rattle.private_store.specs.declared.frames.Item.{Item}
use Rattle.private_store.specs.rules.Frames.{clean, mid_frame, malformed, Stream, stopped, after_item, frames_of, is_command_length, item_of, number_at, stream_of}

-- the bytes after a frame
abbrev pub following : List ℕ → List ℕ
following bytes = drop (4 + number_at bytes 0) bytes

-- one step of the grammar, where what is after the frame says `rest`
abbrev pub step : List ℕ → Stream → Stream
step [] rest = stopped [] clean
step (b ∷ bs) rest =
    let bytes = b ∷ bs in
    let size = number_at bytes 0 in
    elim (nat_lt (length bytes) 4) [
      | true ↦ stopped bytes mid_frame
      | false ↦ elim (is_command_length size) [
        | false ↦ stopped bytes malformed
        | true ↦ elim (nat_lt (length bytes) (4 + size)) [
          | true ↦ stopped bytes mid_frame
          | false ↦ elim (item_of (slice_index bytes 4) (take (size - 1) (drop 5 bytes))) [
            | None ↦ stopped bytes malformed
            | Some x ↦ after_item x rest
          ]
        ]
      ]
    ]

frames_of-step : (n : ℕ) (bytes : List ℕ) → frames_of (suc n) bytes ≡ step bytes (frames_of n (following bytes))
frames_of-step n [] = refl
frames_of-step n (b ∷ bs) = refl

shorter : (b : ℕ) (bs : List ℕ) (size n : ℕ) → length (b ∷ bs) < suc n → length (drop (4 + size) (b ∷ bs)) < n
shorter b bs size n h = omega (arith, length-drop (4 + size) (b ∷ bs))

fuel : (n m : ℕ) (bytes : List ℕ) → length bytes < n → length bytes < m → frames_of n bytes ≡ frames_of m bytes
fuel zero m bytes h k = absurd (omega arith)
fuel (suc n) zero bytes h k = absurd (omega arith)
fuel (suc n) (suc m) [] h k = refl
fuel (suc n) (suc m) (b ∷ bs) h k =
    let size = number_at (b ∷ bs) 0 in
    frames_of-step n (b ∷ bs)
    ∙ ap (step (b ∷ bs)) (fuel n m (following (b ∷ bs)) (shorter b bs size n h) (shorter b bs size m k))
    ∙ sym (frames_of-step m (b ∷ bs))

-- a stream is its first frame and the stream after it
pub stream_of-step : (bytes : List ℕ) → stream_of bytes ≡ step bytes (stream_of (following bytes))
stream_of-step [] = refl
stream_of-step (b ∷ bs) =
    let size = number_at (b ∷ bs) 0 in
    let n = length (b ∷ bs) in
    frames_of-step n (b ∷ bs)
    ∙ ap (step (b ∷ bs)) (fuel n (suc (length (following (b ∷ bs)))) (following (b ∷ bs)) (shorter b bs size n (omega arith)) (omega arith))

-- so many bytes after a length stand at the head of these bytes, and are read so
pub record IsHead (bytes : List ℕ) (size : ℕ) (read : Option Item) : Type 0 where
  pub number : number_at bytes 0 ≡ size
  pub in_range : is_command_length size ≡ true
  pub whole : 4 + size ≤ length bytes
  pub reads : item_of (slice_index bytes 4) (take (size - 1) (drop 5 bytes)) ≡ read

-- the stream at such a head
abbrev pub headed : List ℕ → ℕ → Option Item → Stream
headed bytes size None = stopped bytes malformed
headed bytes size (Some x) = after_item x (stream_of (drop (4 + size) bytes))

at_its_length : (bytes : List ℕ) (size : ℕ) (x : Option Item) → IsHead bytes size x → IsHead bytes (number_at bytes 0) x
at_its_length bytes size x h = subst (λ n. IsHead bytes n x) (sym h.number) h

is_long : (bytes : List ℕ) → 4 ≤ length bytes → nat_lt (length bytes) 4 ≡ false
is_long bytes h = le-ltb (length bytes) 4 h

stream_of-own_head : (bytes : List ℕ) (x : Option Item) → IsHead bytes (number_at bytes 0) x → stream_of bytes ≡ headed bytes (number_at bytes 0) x
stream_of-own_head [] x h = absurd (omega (arith, h.whole))
stream_of-own_head (b ∷ bs) None h =
    let long = is_long (b ∷ bs) (omega (arith, h.whole)) in
    let whole = le-ltb (length (b ∷ bs)) (4 + number_at (b ∷ bs) 0) h.whole in
    rw (stream_of-step (b ∷ bs)) (rw (long, step) (rw (h.in_range, step) (rw (whole, step) (rw (h.reads, step)))))
stream_of-own_head (b ∷ bs) (Some x) h =
    let long = is_long (b ∷ bs) (omega (arith, h.whole)) in
    let whole = le-ltb (length (b ∷ bs)) (4 + number_at (b ∷ bs) 0) h.whole in
    rw (stream_of-step (b ∷ bs)) (rw (long, step) (rw (h.in_range, step) (rw (whole, step) (rw (h.reads, step)))))

pub stream_of-head : (bytes : List ℕ) (size : ℕ) (x : Option Item) → IsHead bytes size x → stream_of bytes ≡ headed bytes size x
stream_of-head bytes size x h = stream_of-own_head bytes x (at_its_length bytes size x h) ∙ ap (λ n. headed bytes n x) h.number

stream_of-short : (bytes : List ℕ) → nat_lt (length bytes) 4 ≡ true → stream_of bytes ≡ stopped bytes (cut_end bytes)
stream_of-short [] h = refl
stream_of-short (b ∷ bs) h = rw (stream_of-step (b ∷ bs)) (rw (h, step))

stream_of-out_of_range : (bytes : List ℕ) → 4 ≤ length bytes → is_command_length (number_at bytes 0) ≡ false → stream_of bytes ≡ stopped bytes malformed
stream_of-out_of_range [] long h = absurd (omega arith)
stream_of-out_of_range (b ∷ bs) long h = rw (stream_of-step (b ∷ bs)) (rw (is_long (b ∷ bs) long, step) (rw (h, step)))

stream_of-cut : (bytes : List ℕ) → 4 ≤ length bytes → is_command_length (number_at bytes 0) ≡ true
    → nat_lt (length bytes) (4 + number_at bytes 0) ≡ true → stream_of bytes ≡ stopped bytes (cut_end bytes)
stream_of-cut [] long h cut = absurd (omega arith)
stream_of-cut (b ∷ bs) long h cut = rw (stream_of-step (b ∷ bs)) (rw (is_long (b ∷ bs) long, step) (rw (h, step) (rw (cut, step))))

-- ---- what stands at the head of bytes stays there, whatever follows

pub number_at-append : (bytes more : List ℕ) → 4 ≤ length bytes → number_at (bytes ++ more) 0 ≡ number_at bytes 0
number_at-append bytes more long = ap (λ front. from_be_bytes w32 front) (take-append-le 4 bytes more long)

body-append : (bytes more : List ℕ) (size : ℕ) → 1 ≤ size → 4 + size ≤ length bytes
    → take (size - 1) (drop 5 (bytes ++ more)) ≡ take (size - 1) (drop 5 bytes)
body-append bytes more size some whole =
    let long : 5 ≤ length bytes = omega arith in
    ap (take (size - 1)) (drop-append-le 5 bytes more long)
    ∙ take-append-le (size - 1) (drop 5 bytes) more (omega (arith, length-drop 5 bytes))

pub has_bytes : (size : ℕ) → is_command_length size ≡ true → 1 ≤ size
has_bytes size h = leb-true 1 size (and_parts (nat_le 1 size) (nat_le size 65600) h).0

IsHead-append : (bytes more : List ℕ) (size : ℕ) (x : Option Item) → IsHead bytes size x → IsHead (bytes ++ more) size x
IsHead-append bytes more size x h =
    let some : 1 ≤ size = has_bytes size h.in_range in
    let kind : slice_index (bytes ++ more) 4 ≡ slice_index bytes 4 = get_or-append bytes more 0 4 (omega (arith, h.whole)) in
    record {
      number = number_at-append bytes more (omega (arith, h.whole)) ∙ h.number;
      in_range = h.in_range;
      whole = omega (arith, h.whole, length-append bytes more);
      reads = rw (kind, body-append bytes more size some h.whole) h.reads;
    }

-- no whole frame, or a fault, or a frame
pub data HeadOf (bytes : List ℕ) : Type 0 where
  cut : IsPart bytes → stream_of bytes ≡ stopped bytes (cut_end bytes) → HeadOf bytes
  fault : ((more : List ℕ) → stream_of (bytes ++ more) ≡ stopped (bytes ++ more) malformed) → HeadOf bytes
  whole : (size : ℕ) (x : Item) → IsHead bytes size (Some x)
      → ((more : List ℕ) → stream_of (bytes ++ more) ≡ after_item x (stream_of (drop (4 + size) (bytes ++ more)))) → HeadOf bytes

of_head : (bytes : List ℕ) (size : ℕ) (x : Option Item) → IsHead bytes size x → HeadOf bytes
of_head bytes size None h = fault (λ more. stream_of-head (bytes ++ more) size None (IsHead-append bytes more size None h))
of_head bytes size (Some x) h = whole size x h (λ more. stream_of-head (bytes ++ more) size (Some x) (IsHead-append bytes more size (Some x) h))

of_long : (bytes : List ℕ) (in_range : Bool) (is_cut : Bool) → 4 ≤ length bytes → is_command_length (number_at bytes 0) ≡ in_range
    → nat_lt (length bytes) (4 + number_at bytes 0) ≡ is_cut → HeadOf bytes
of_long bytes false is_cut long h k = fault (λ more.
    stream_of-out_of_range (bytes ++ more) (omega (arith, length-append bytes more)) (ap is_command_length (number_at-append bytes more long) ∙ h))
of_long bytes true true long h k = cut (inr (h, ltb-true (length bytes) (4 + number_at bytes 0) k)) (stream_of-cut bytes long h k)
of_long bytes true false long h k =
    of_head bytes (number_at bytes 0) (item_of (slice_index bytes 4) (take (number_at bytes 0 - 1) (drop 5 bytes)))
    (record { number = refl; in_range = h; whole = ltb-false (length bytes) (4 + number_at bytes 0) k; reads = refl })

of_bytes : (bytes : List ℕ) (is_short : Bool) → nat_lt (length bytes) 4 ≡ is_short → HeadOf bytes
of_bytes bytes true h = cut (inl (ltb-true (length bytes) 4 h)) (stream_of-short bytes h)
of_bytes bytes false h =
    of_long bytes (is_command_length (number_at bytes 0)) (nat_lt (length bytes) (4 + number_at bytes 0)) (ltb-false (length bytes) 4 h) refl refl

-- no frame stands at the head of a part of one
stream_of-beginning : (bytes : List ℕ) (is_short : Bool) → nat_lt (length bytes) 4 ≡ is_short → is_command_length (number_at bytes 0) ≡ true
    → length bytes < 4 + number_at bytes 0 → stream_of bytes ≡ stopped bytes (cut_end bytes)
stream_of-beginning bytes true h in_range short = stream_of-short bytes h
stream_of-beginning bytes false h in_range short = stream_of-cut bytes (ltb-false (length bytes) 4 h) in_range (lt-ltb (length bytes) (4 + number_at bytes 0) short)

pub stream_of-part : (bytes : List ℕ) → IsPart bytes → stream_of bytes ≡ stopped bytes (cut_end bytes)
stream_of-part bytes (inl few) = stream_of-short bytes (lt-ltb (length bytes) 4 few)
stream_of-part bytes (inr (in_range, short)) = stream_of-beginning bytes (nat_lt (length bytes) 4) refl in_range short

pub head_of : (bytes : List ℕ) → HeadOf bytes
head_of bytes = of_bytes bytes (nat_lt (length bytes) 4) refl
