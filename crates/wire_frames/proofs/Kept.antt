-- A stream is the frames of its items, and what is left.
use Rattle.std.proofs.Common.{◌≡◌, ℕ, ◌+◌, ◌-◌, ◌<◌, false, List, [], ◌∷◌, ◌++◌, length, take, drop, flat_map, Some, zero, suc, refl, sym, ap, subst, ◌∙◌, arith, append_assoc, length-drop}
use Rattle.std.specs.Prelude.{All, option_map, slice_index, unwrap_or}
use Rattle.std.proofs.Math.Seq.{drop-cons}
use Rattle.std.proofs.lemmas.List.{length-take-le, take-append-drop}
use Rattle.private_store.specs.declared.frames.Item.{Item}
use Rattle.private_store.specs.rules.Frames.{Stream, after_item, be4, frame, is_command_length, item_frame, malformed, stopped, stream_of}
use Rattle.wire_frames.specs.Items.{AreBytes, HasFrame, is_bad_id}
use Rattle.wire_frames.specs.Writing.{is_some_of_length}
use Rattle.wire_frames.proofs.Pieces.{alone}
use Rattle.wire_frames.proofs.Spelled.{IsSpelled, IsSpelled-item_of, bytes_drop, bytes_take, further, number_spelled}
use Rattle.wire_frames.proofs.Streams.{HeadOf, IsHead, cut, fault, has_bytes, head_of, whole}

abbrev body_at : List ℕ → ℕ → List ℕ
body_at bytes size = take (size - 1) (drop 5 bytes)

whole_length : (bytes : List ℕ) (size : ℕ) (x : Item) → IsHead bytes size (Some x) → suc (length (body_at bytes size)) ≡ size
whole_length bytes size x at =
    let some = has_bytes size at.in_range in
    let same_length : length (body_at bytes size) ≡ size - 1 = length-take-le (size - 1) (drop 5 bytes) (omega (arith, at.whole, length-drop 5 bytes)) in
    omega arith

body_spelled : (bytes : List ℕ) (size : ℕ) (x : Item) → AreBytes bytes → IsHead bytes size (Some x) → is_bad_id x ≡ false
    → IsSpelled (slice_index bytes 4) (body_at bytes size) x
body_spelled bytes size x h at ok =
    IsSpelled-item_of (slice_index bytes 4) (body_at bytes size) x (bytes_take (size - 1) (drop 5 bytes) (bytes_drop 5 bytes h)) at.reads ok

-- an item's frame is the bytes that it was read from
head_spelled : (bytes : List ℕ) (size : ℕ) (x : Item) → AreBytes bytes → IsHead bytes size (Some x) → is_bad_id x ≡ false → item_frame x ≡ take (4 + size) bytes
head_spelled bytes size x h at ok =
    let kind = slice_index bytes 4 in
    let body = body_at bytes size in
    let some = has_bytes size at.in_range in
    let four : be4 size ≡ take 4 bytes = ap be4 (sym at.number) ∙ number_spelled bytes 0 h (omega (arith, at.whole)) in
    let one_more : suc (size - 1) ≡ size = omega arith in
    let others : kind ∷ body ≡ take size (drop 4 bytes) =
    ap (take (suc (size - 1))) (sym (drop-cons bytes 4 0 (omega (arith, at.whole)))) ∙ ap (λ n. take n (drop 4 bytes)) one_more in
    ap (λ o. unwrap_or (option_map frame o) []) (body_spelled bytes size x h at ok).spelled
    ∙ ap (λ n. be4 n ++ (kind ∷ body)) (whole_length bytes size x at)
    ∙ (λ i. four i ++ others i)
    ∙ further 4 size (4 + size) bytes refl

-- and it has one
head_framed : (bytes : List ℕ) (size : ℕ) (x : Item) → AreBytes bytes → IsHead bytes size (Some x) → is_bad_id x ≡ false → HasFrame x
head_framed bytes size x h at ok =
    let s = body_spelled bytes size x h at ok in
    record {
      well = s.well;
      fits = ap (is_some_of_length is_command_length) s.spelled ∙ ap is_command_length (whole_length bytes size x at) ∙ at.in_range;
    }

-- the frames of a stream's items, and what is left
abbrev pub spelled_again : Stream → List ℕ
spelled_again s = flat_map item_frame s.items ++ s.rest

head_kept : (n : ℕ) (bytes : List ℕ) → length bytes < suc n → AreBytes bytes → HeadOf bytes
    → ((others : List ℕ) → length others < n → AreBytes others → All (λ x. is_bad_id x ≡ false) (stream_of others).items → spelled_again (stream_of others) ≡ others)
    → All (λ x. is_bad_id x ≡ false) (stream_of bytes).items → spelled_again (stream_of bytes) ≡ bytes
head_kept n bytes less h (cut short is) later ok = ap spelled_again is
head_kept n bytes less h (fault is) later ok = ap spelled_again (alone (λ b. stopped b malformed) bytes is)
head_kept n bytes less h (whole size x at is) later ok =
    let rest = drop (4 + size) bytes in
    let e = alone (λ b. after_item x (stream_of (drop (4 + size) b))) bytes is in
    let shorter : length rest < n = omega (arith, at.whole, length-drop (4 + size) bytes) in
    let oks = subst (λ s. All (λ y. is_bad_id y ≡ false) s.items) e ok in
    let tail = later rest shorter (bytes_drop (4 + size) bytes h) (λ k d l. oks (suc k) d (omega arith)) in
    ap spelled_again e
    ∙ append_assoc (item_frame x) (flat_map item_frame (stream_of rest).items) (stream_of rest).rest
    ∙ ap (λ b. item_frame x ++ b) tail
    ∙ ap (λ b. b ++ rest) (head_spelled bytes size x h at (oks 0 x (omega arith)))
    ∙ take-append-drop (4 + size) bytes

kept : (n : ℕ) (bytes : List ℕ) → length bytes < n → AreBytes bytes → All (λ x. is_bad_id x ≡ false) (stream_of bytes).items → spelled_again (stream_of bytes) ≡ bytes
kept zero bytes less h ok = absurd (omega arith)
kept (suc n) bytes less h ok = head_kept n bytes less h (head_of bytes) (kept n) ok

pub spelled_again-stream_of : (bytes : List ℕ) → AreBytes bytes → All (λ x. is_bad_id x ≡ false) (stream_of bytes).items
    → flat_map item_frame (stream_of bytes).items ++ (stream_of bytes).rest ≡ bytes
spelled_again-stream_of bytes h ok = kept (suc (length bytes)) bytes (omega arith) h ok

-- ---- each item has a frame

first_then : (x : Item) (xs : List Item) → HasFrame x → All HasFrame xs → All HasFrame (x ∷ xs)
first_then x xs h hs zero d less = h
first_then x xs h hs (suc k) d less = hs k d (omega arith)

head_framed_all : (n : ℕ) (bytes : List ℕ) → length bytes < suc n → AreBytes bytes → HeadOf bytes
    → ((others : List ℕ) → length others < n → AreBytes others → All (λ x. is_bad_id x ≡ false) (stream_of others).items → All HasFrame (stream_of others).items)
    → All (λ x. is_bad_id x ≡ false) (stream_of bytes).items → All HasFrame (stream_of bytes).items
head_framed_all n bytes less h (cut short is) later ok = subst (λ s. All HasFrame s.items) (sym is) (λ k d l. absurd (omega arith))
head_framed_all n bytes less h (fault is) later ok =
    subst (λ s. All HasFrame s.items) (sym (alone (λ b. stopped b malformed) bytes is)) (λ k d l. absurd (omega arith))
head_framed_all n bytes less h (whole size x at is) later ok =
    let rest = drop (4 + size) bytes in
    let e = alone (λ b. after_item x (stream_of (drop (4 + size) b))) bytes is in
    let shorter : length rest < n = omega (arith, at.whole, length-drop (4 + size) bytes) in
    let oks = subst (λ s. All (λ y. is_bad_id y ≡ false) s.items) e ok in
    let others = later rest shorter (bytes_drop (4 + size) bytes h) (λ k d l. oks (suc k) d (omega arith)) in
    subst (λ s. All HasFrame s.items) (sym e) (first_then x (stream_of rest).items (head_framed bytes size x h at (oks 0 x (omega arith))) others)

framed_all : (n : ℕ) (bytes : List ℕ) → length bytes < n → AreBytes bytes → All (λ x. is_bad_id x ≡ false) (stream_of bytes).items → All HasFrame (stream_of bytes).items
framed_all zero bytes less h ok = absurd (omega arith)
framed_all (suc n) bytes less h ok = head_framed_all n bytes less h (head_of bytes) (framed_all n) ok

pub HasFrame-stream_of : (bytes : List ℕ) → AreBytes bytes → All (λ x. is_bad_id x ≡ false) (stream_of bytes).items → All HasFrame (stream_of bytes).items
HasFrame-stream_of bytes h ok = framed_all (suc (length bytes)) bytes (omega arith) h ok
