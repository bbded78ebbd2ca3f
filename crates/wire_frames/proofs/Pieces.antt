-- A stream in pieces.
use Rattle.std.proofs.Common.{◌≡◌, ℕ, ◌+◌, ◌<◌, ◌≤◌, inl, inr, List, [], ◌∷◌, ◌++◌, length, drop, flat_map, zero, suc, refl, sym, ap, subst, ◌∙◌, arith, append_assoc, append-nil, length-drop}
use Rattle.std.proofs.lemmas.Bool.{and_parts, leb-true}
use Rattle.std.proofs.lemmas.List.{drop-append-le}
use Rattle.std.specs.Prelude.{nat_le}
use Rattle.private_store.specs.declared.frames.Item.{Item}
use Rattle.private_store.specs.rules.Frames.{End, clean, mid_frame, malformed, Stream, stopped, after_item, number_at, stream_of}
use Rattle.wire_frames.specs.Heads.{IsPart, after_items, cut_end}
use Rattle.wire_frames.specs.Laws.{Feeding, IsLessThanAFrame, feeding, frame_given_by, items_in}
use Rattle.wire_frames.specs.Reading.{Reading, unfinished, failed, answer_at, answer_of, continued, reading_after}
use Rattle.wire_frames.proofs.Streams.{HeadOf, cut, fault, whole, head_of}

-- a stream that goes on
abbrev pub onward_at : End → List Item → List ℕ → List ℕ → Stream
onward_at clean items rest more = after_items items (stream_of (rest ++ more))
onward_at mid_frame items rest more = after_items items (stream_of (rest ++ more))
onward_at malformed items rest more = record { items = items; rest = rest ++ more; end = malformed }

abbrev pub onward : Stream → List ℕ → Stream
onward s more = onward_at s.end s.items s.rest more

onward_at-cons : (end : End) (x : Item) (items : List Item) (rest more : List ℕ)
    → onward_at end (x ∷ items) rest more ≡ after_item x (onward_at end items rest more)
onward_at-cons clean x items rest more = refl
onward_at-cons mid_frame x items rest more = refl
onward_at-cons malformed x items rest more = refl

onward-cut : (bytes more : List ℕ) → onward (stopped bytes (cut_end bytes)) more ≡ stream_of (bytes ++ more)
onward-cut [] more = refl
onward-cut (b ∷ bs) more = refl

-- what is said of all that begins so is said of these bytes alone
pub alone : (S : List ℕ → Stream) (bytes : List ℕ) → ((more : List ℕ) → stream_of (bytes ++ more) ≡ S (bytes ++ more)) → stream_of bytes ≡ S bytes
alone S bytes is = subst (λ b. stream_of b ≡ S b) (append-nil bytes) (is [])

at_head : (n : ℕ) (bytes more : List ℕ) → length bytes < suc n → HeadOf bytes
    → ((others : List ℕ) → length others < n → stream_of (others ++ more) ≡ onward (stream_of others) more)
    → stream_of (bytes ++ more) ≡ onward (stream_of bytes) more
at_head n bytes more h (cut short is) later = sym (ap (λ s. onward s more) is ∙ onward-cut bytes more)
at_head n bytes more h (fault is) later = is more ∙ sym (ap (λ s. onward s more) (alone (λ b. stopped b malformed) bytes is))
at_head n bytes more h (whole size x at is) later =
    let rest = drop (4 + size) bytes in
    let shorter : length rest < n = omega (arith, at.whole, length-drop (4 + size) bytes) in
    is more
    ∙ ap (λ b. after_item x (stream_of b)) (drop-append-le (4 + size) bytes more at.whole)
    ∙ ap (after_item x) (later rest shorter)
    ∙ sym (onward_at-cons (stream_of rest).end x (stream_of rest).items (stream_of rest).rest more)
    ∙ sym (ap (λ s. onward s more) (alone (λ b. after_item x (stream_of (drop (4 + size) b))) bytes is))

going_on : (n : ℕ) (bytes more : List ℕ) → length bytes < n → stream_of (bytes ++ more) ≡ onward (stream_of bytes) more
going_on zero bytes more h = absurd (omega arith)
going_on (suc n) bytes more h = at_head n bytes more h (head_of bytes) (λ others. going_on n others more)

pub stream_of-append : (bytes more : List ℕ) → stream_of (bytes ++ more) ≡ onward (stream_of bytes) more
stream_of-append bytes more = going_on (suc (length bytes)) bytes more (omega arith)

-- ---- pieces

-- what is given after these items
abbrev given_onto : List Item → Feeding → Feeding
given_onto items f = record { items = items ++ f.items; reader = f.reader }

given-onward : (end : End) (items : List Item) (rest piece : List ℕ)
    → let s : Stream = record { items = items; rest = rest; end = end } in
    frame_given_by (onward s piece) ≡ given_onto items (frame_given_by (continued (reading_after s) piece))
given-onward clean items rest piece = refl
given-onward mid_frame items rest piece = refl
given-onward malformed items rest piece = λ i. record { items = sym (append-nil items) i; reader = failed }

pub given-append : (before piece : List ℕ)
    → frame_given_by (stream_of (before ++ piece)) ≡ given_onto (stream_of before).items (frame_given_by (continued (reading_after (stream_of before)) piece))
given-append before piece =
    let s = stream_of before in
    ap frame_given_by (stream_of-append before piece) ∙ given-onward s.end s.items s.rest piece

items_in-answer : (end : End) (items : List Item) → items_in (answer_at end items) ≡ items
items_in-answer clean items = refl
items_in-answer mid_frame items = refl
items_in-answer malformed [] = refl
items_in-answer malformed (x ∷ xs) = refl

fed_on : (pieces : List (List ℕ)) (before : List ℕ)
    → given_onto (stream_of before).items (feeding (reading_after (stream_of before)) pieces) ≡ frame_given_by (stream_of (before ++ flat_map (λ piece. piece) pieces))
fed_on [] before =
    let s = stream_of before in
    (λ i. record { items = append-nil s.items i; reader = reading_after s }) ∙ ap (λ b. frame_given_by (stream_of b)) (sym (append-nil before))
fed_on (piece ∷ pieces) before =
    let s = stream_of before in
    let t = continued (reading_after s) piece in
    let next = given-append before piece in
    let same : items_in (answer_of t) ≡ t.items = items_in-answer t.end t.items in
    let put = λ (items : List Item) (r : Reading). given_onto items (feeding r pieces) in
    ap (λ items. given_onto s.items (given_onto items (feeding (reading_after t) pieces))) same
    ∙ ap (λ items. record { items = items; reader = (feeding (reading_after t) pieces).reader }) (sym (append_assoc s.items t.items (feeding (reading_after t) pieces).items))
    ∙ ap (λ f. put f.items f.reader) (sym next)
    ∙ fed_on pieces (before ++ piece)
    ∙ ap (λ b. frame_given_by (stream_of b)) (append_assoc before piece (flat_map (λ p. p) pieces))

-- a new reader gives the items of the whole stream, and keeps what the whole stream leaves
pub feeding-stream : (pieces : List (List ℕ)) → feeding (unfinished []) pieces ≡ frame_given_by (stream_of (flat_map (λ piece. piece) pieces))
feeding-stream pieces = fed_on pieces []

-- ---- what is kept

-- what is kept is a part of a frame
abbrev pub IsKept : Reading → Type 0
IsKept (unfinished bytes) = IsPart bytes
IsKept failed = Unit {0}

kept_of_cut : (bytes : List ℕ) → IsPart bytes → IsKept (reading_after (stopped bytes (cut_end bytes)))
kept_of_cut [] part = part
kept_of_cut (b ∷ bs) part = part

kept_at : (n : ℕ) (bytes : List ℕ) → length bytes < suc n → HeadOf bytes
    → ((others : List ℕ) → length others < n → IsKept (reading_after (stream_of others))) → IsKept (reading_after (stream_of bytes))
kept_at n bytes less (cut part is) later = subst (λ s. IsKept (reading_after s)) (sym is) (kept_of_cut bytes part)
kept_at n bytes less (fault is) later = subst (λ s. IsKept (reading_after s)) (sym (alone (λ b. stopped b malformed) bytes is)) tt
kept_at n bytes less (whole size x at is) later =
    subst (λ s. IsKept (reading_after s)) (sym (alone (λ b. after_item x (stream_of (drop (4 + size) b))) bytes is))
    (later (drop (4 + size) bytes) (omega (arith, at.whole, length-drop (4 + size) bytes)))

kept_below : (n : ℕ) (bytes : List ℕ) → length bytes < n → IsKept (reading_after (stream_of bytes))
kept_below zero bytes less = absurd (omega arith)
kept_below (suc n) bytes less = kept_at n bytes less (head_of bytes) (kept_below n)

pub IsKept-reading_after : (bytes : List ℕ) → IsKept (reading_after (stream_of bytes))
IsKept-reading_after bytes = kept_below (suc (length bytes)) bytes (omega arith)

less_than_a_frame : (bytes : List ℕ) → IsPart bytes → length bytes < 65604
less_than_a_frame bytes (inl short) = omega arith
less_than_a_frame bytes (inr (in_range, short)) =
    let size = number_at bytes 0 in
    let most : size ≤ 65600 = leb-true size 65600 (and_parts (nat_le 1 size) (nat_le size 65600) in_range).1 in
    omega arith

IsLessThanAFrame-kept : (r : Reading) → IsKept r → IsLessThanAFrame r
IsLessThanAFrame-kept (unfinished bytes) part = less_than_a_frame bytes part
IsLessThanAFrame-kept failed part = tt

-- less than a frame is kept
pub IsLessThanAFrame-reading_after : (bytes : List ℕ) → IsLessThanAFrame (reading_after (stream_of bytes))
IsLessThanAFrame-reading_after bytes = IsLessThanAFrame-kept (reading_after (stream_of bytes)) (IsKept-reading_after bytes)
