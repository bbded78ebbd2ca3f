-- How a hash follows its message, block by block, and what the last blocks are.
use Rattle.std.proofs.Common.{◌≡◌, ℕ, suc, ◌+◌, ◌-◌, ◌*◌, ◌/◌, ◌%◌, ◌^◌, ◌<◌, ◌≤◌, List, [], ◌∷◌, ◌++◌, length, take, drop, replicate, slice_set, refl, sym, ap, ◌∙◌, arith, length-append}
use Rattle.std.proofs.lemmas.List.{append_assoc, drop-replicate, take-append-drop, take-replicate}
use Rattle.std.proofs.lemmas.Slice.{take-put_mid}
use Rattle.std.proofs.Math.Seq.{drop-append-add, set-append_seam}
use Rattle.std.specs.Int.{w64, to_be_bytes}
use Rattle.sha2.specs.Sha256.{compress, hash_after, initial_hash_256, padded_message}
use Rattle.sha2.proofs.Absorbing256.{hash_after-append, hash_after_next}
use Rattle.fast_sha256.specs.Messages.{Holds}
use Rattle.fast_sha256.specs.declared.Sha256.{Sha256}
use borrow.Rule.Slice.PartMut.{put_mid}

pub Holds_whole : (hash : Sha256) (message : List ℕ) → Holds hash message → length message % 64 ≡ 0
unfolding Holds
Holds_whole hash message held = held.0

pub Holds_length : (hash : Sha256) (message : List ℕ) → Holds hash message → hash.length ≡ length message % 2 ^ 64
unfolding Holds
Holds_length hash message held = held.1

pub Holds_state : (hash : Sha256) (message : List ℕ) → Holds hash message → hash.state ≡ hash_after initial_hash_256 message (length message / 64)
unfolding Holds
Holds_state hash message held = held.2

pub Holds_from : (hash : Sha256) (message : List ℕ) → length message % 64 ≡ 0 → hash.length ≡ length message % 2 ^ 64
    → hash.state ≡ hash_after initial_hash_256 message (length message / 64) → Holds hash message
unfolding Holds
Holds_from hash message whole long state = (whole, long, state)

-- the next block of what follows a message of whole blocks
pub one_block_more : (message blocks h : List ℕ) (i : ℕ) → length message % 64 ≡ 0
    → h ≡ hash_after initial_hash_256 (message ++ blocks) (length message / 64 + i)
    → compress h (take 64 (drop (64 * i) blocks)) ≡ hash_after initial_hash_256 (message ++ blocks) (length message / 64 + (i + 1))
one_block_more message blocks h i whole held =
    let at : (length message / 64 + i) * 64 ≡ length message + 64 * i = omega arith in
    let block : drop ((length message / 64 + i) * 64) (message ++ blocks) ≡ drop (64 * i) blocks =
    ap (λ n. drop n (message ++ blocks)) at ∙ drop-append-add message blocks (64 * i) in
    let next : length message / 64 + i + 1 ≡ length message / 64 + (i + 1) = omega arith in
    ap (λ state. compress state (take 64 (drop (64 * i) blocks))) held
    ∙ ap (λ part. compress (hash_after initial_hash_256 (message ++ blocks) (length message / 64 + i)) (take 64 part)) (sym block)
    ∙ sym (hash_after_next initial_hash_256 (message ++ blocks) (length message / 64 + i)) ∙ ap (hash_after initial_hash_256 (message ++ blocks)) next

-- a message of whole blocks has the same hash when more follows
pub none_yet : (message blocks : List ℕ) → length message % 64 ≡ 0
    → hash_after initial_hash_256 message (length message / 64) ≡ hash_after initial_hash_256 (message ++ blocks) (length message / 64 + 0)
none_yet message blocks whole =
    let same : length message / 64 + 0 ≡ length message / 64 = omega arith in
    rw same (sym (hash_after-append initial_hash_256 message blocks (length message / 64) (omega arith)))

-- a bit is set after the tail
pub bit_set : (ys zs tail : List ℕ) → length tail < 64 → ys ≡ tail → zs ≡ replicate 128 0
    → slice_set (ys ++ drop (length tail) zs) (length tail) 128 ≡ tail ++ 128 ∷ replicate (127 - length tail) 0
bit_set ys zs tail short same zeros =
    let one : 128 - length tail ≡ suc (127 - length tail) = omega arith in
    rw (same, zeros, drop-replicate {X = ℕ} (length tail) 128 0, one) (set-append_seam tail 0 (replicate (127 - length tail) 0) 128)

-- the first of the zeros after the tail's bit
zeros_after : (tail : List ℕ) (zeros more : ℕ) → zeros ≤ more
    → take (length tail + suc zeros) (tail ++ 128 ∷ replicate more 0) ≡ tail ++ 128 ∷ replicate zeros 0
zeros_after [] zeros more h =
    let one : 0 + suc zeros ≡ suc zeros = omega arith in
    rw one (ap (λ rest. 128 ∷ rest) (take-replicate {X = ℕ} zeros more 0 h))
zeros_after (x ∷ tail) zeros more h =
    let one : suc (length tail) + suc zeros ≡ suc (length tail + suc zeros) = omega arith in
    rw one (ap (λ rest. x ∷ rest) (zeros_after tail zeros more h))

-- the message's length stands after these zeros
pub length_after : (tail last ys bytes : List ℕ) (a k zeros n : ℕ) → last ≡ tail ++ 128 ∷ replicate (127 - length tail) 0 → length last ≡ 128
    → ys ≡ bytes → n ≡ a + length ys → length tail + suc zeros ≡ a → a ≤ 128
    → take n (put_mid a k last ys) ≡ tail ++ 128 ∷ replicate zeros 0 ++ bytes
length_after tail last ys bytes a k zeros n held len same end at low =
    let front : take a last ≡ tail ++ 128 ∷ replicate zeros 0 = rw (held, ← at) (zeros_after tail zeros (127 - length tail) (omega arith)) in
    take-put_mid a k last ys n end (omega arith) ∙ rw (front, same) refl

-- the whole blocks, and the last ones, are the padded message
pub is_padded : (message rest last : List ℕ) (zeros bits end : ℕ) → length message % 64 ≡ 0 → bits ≡ length (message ++ rest) * 8 % 2 ^ 64
    → zeros ≡ (119 - length rest % 64) % 64
    → take end last ≡ drop (length rest / 64 * 64) rest ++ 128 ∷ replicate zeros 0 ++ to_be_bytes w64 bits
    → (message ++ take (length rest / 64 * 64) rest) ++ take end last ≡ padded_message (message ++ rest)
is_padded message rest last zeros bits end whole count few ends =
    let blocks : List ℕ = take (length rest / 64 * 64) rest in
    let tail : List ℕ = drop (length rest / 64 * 64) rest in
    let mark : List ℕ = 128 ∷ replicate zeros 0 in
    let cut : blocks ++ tail ≡ rest = take-append-drop (length rest / 64 * 64) rest in
    let same : zeros ≡ (119 - length (message ++ rest) % 64) % 64 = omega (arith, length-append message rest) in
    let joined : (message ++ blocks) ++ tail ≡ message ++ rest = append_assoc message blocks tail ∙ ap (λ end. message ++ end) cut in
    ap (λ end. (message ++ blocks) ++ end) (ends ∙ append_assoc tail mark (to_be_bytes w64 bits))
    ∙ sym (append_assoc (message ++ blocks) tail (mark ++ to_be_bytes w64 bits))
    ∙ ap (λ all. all ++ (mark ++ to_be_bytes w64 bits)) joined
    ∙ ap (λ n. (message ++ rest) ++ ((128 ∷ replicate n 0) ++ to_be_bytes w64 bits)) same
    ∙ ap (λ n. (message ++ rest) ++ ((128 ∷ replicate ((119 - length (message ++ rest) % 64) % 64) 0) ++ to_be_bytes w64 n)) count
