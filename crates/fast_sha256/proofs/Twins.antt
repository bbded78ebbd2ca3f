-- Lanes read as bytes and as other lanes, and a rotation as a shift_lanes of a word beside itself.
use Rattle.std.proofs.Common.{◌≡◌, ℕ, zero, suc, ◌<◌, ◌+◌, ◌*◌, ◌/◌, ◌%◌, ◌^◌, List, [], ◌∷◌, length, slice_index, bit_or, bit_xor, arith, refl, sym, ap, ◌∙◌}
use Rattle.std.proofs.lemmas.Nat.{xor_mod}
use Rattle.std.specs.Int.{w32, rotate_right}
use Rattle.std.specs.Int.Bits.{or_shifted_r}
use Rattle.std.specs.Simd.Lanes.{Each1, number_l, digits_l}
use Rattle.sha2.specs.Sha256.{small_sigma1}

number_digits : (n x : ℕ) → x < 256 ^ n → number_l 256 (digits_l 256 n x) ≡ x
number_digits zero x h = omega arith
number_digits (suc n) x h =
    let below : x / 256 < 256 ^ n = omega arith in
    rw (number_digits n (x / 256) below) (omega arith)

abbrev Below : List ℕ → ℕ → Type 0
Below xs m = Each1 (λ x. x < m) xs

-- four lanes of 32 bits, read as two of 64
abbrev Joins : List ℕ → Type 0
Joins a =
    (slice_index (digits_l (2 ^ 64) 2 (number_l 256 (digits_l 256 16 (number_l (2 ^ 32) a)))) 0 ≡ slice_index a 0 + 2 ^ 32 * slice_index a 1)
    × (slice_index (digits_l (2 ^ 64) 2 (number_l 256 (digits_l 256 16 (number_l (2 ^ 32) a)))) 1 ≡ slice_index a 2 + 2 ^ 32 * slice_index a 3)

joins_four : (a b c d : ℕ) → a < 2 ^ 32 → b < 2 ^ 32 → c < 2 ^ 32 → d < 2 ^ 32 → Joins (a ∷ b ∷ c ∷ d ∷ [])
joins_four a b c d ha hb hc hd =
    let x : ℕ = a + 4294967296 * (b + 4294967296 * (c + 4294967296 * (d + 4294967296 * 0))) in
    let same : number_l 256 (digits_l 256 16 x) ≡ x = number_digits 16 x (omega arith) in (
      ap (λ (n : ℕ). n % 2 ^ 64) same ∙ omega arith,
      ap (λ (n : ℕ). n / 2 ^ 64 % 2 ^ 64) same ∙ omega arith,
    )

pub joins : (a : List ℕ) → length a ≡ 4 → Each1 (λ x. x < 2 ^ 32) a → Joins a
joins (a ∷ b ∷ c ∷ d ∷ []) h f = joins_four a b c d f.0 f.1.0 f.1.1.0 f.1.1.1.0
joins [] h f = absurd (omega arith)
joins (a ∷ []) h f = absurd (omega arith)
joins (a ∷ b ∷ []) h f = absurd (omega arith)
joins (a ∷ b ∷ c ∷ []) h f = absurd (omega arith)
joins (a ∷ b ∷ c ∷ d ∷ e ∷ xs) h f = absurd (omega arith)

-- two lanes of 64 bits, read as four of 32
abbrev Halves : List ℕ → Type 0
Halves a =
    (slice_index (digits_l (2 ^ 32) 4 (number_l 256 (digits_l 256 16 (number_l (2 ^ 64) a)))) 0 ≡ slice_index a 0 % 2 ^ 32)
    × (slice_index (digits_l (2 ^ 32) 4 (number_l 256 (digits_l 256 16 (number_l (2 ^ 64) a)))) 2 ≡ slice_index a 1 % 2 ^ 32)

halves_two : (a b : ℕ) → a < 2 ^ 64 → b < 2 ^ 64 → Halves (a ∷ b ∷ [])
halves_two a b ha hb =
    let x : ℕ = a + 18446744073709551616 * (b + 18446744073709551616 * 0) in
    let same : number_l 256 (digits_l 256 16 x) ≡ x = number_digits 16 x (omega arith) in (
      ap (λ (n : ℕ). n % 2 ^ 32) same ∙ omega arith,
      ap (λ (n : ℕ). n / 2 ^ 32 / 2 ^ 32 % 2 ^ 32) same ∙ omega arith,
    )

pub low_halves : (a : List ℕ) → length a ≡ 2 → Each1 (λ x. x < 2 ^ 64) a → Halves a
low_halves (a ∷ b ∷ []) h f = halves_two a b f.0 f.1.0
low_halves [] h f = absurd (omega arith)
low_halves (a ∷ []) h f = absurd (omega arith)
low_halves (a ∷ b ∷ c ∷ xs) h f = absurd (omega arith)

-- in a word beside itself, shifted, the low half is the word turned
beside_17 : (x : ℕ) → x < 2 ^ 32 → (x + 2 ^ 32 * x) / 2 ^ 17 % 2 ^ 32 ≡ rotate_right w32 x 17
beside_17 x h =
    let shifted : (x + 4294967296 * x) / 131072 % 4294967296 ≡ x % 131072 * 32768 + x / 131072 = omega arith in
    let high : x * 32768 % 4294967296 ≡ x % 131072 * 32768 = omega arith in
    shifted ∙ sym (ap (bit_or (x / 131072)) high ∙ or_shifted_r (x % 131072) 15 (x / 131072) (omega arith))

beside_19 : (x : ℕ) → x < 2 ^ 32 → (x + 2 ^ 32 * x) / 2 ^ 19 % 2 ^ 32 ≡ rotate_right w32 x 19
beside_19 x h =
    let shifted : (x + 4294967296 * x) / 524288 % 4294967296 ≡ x % 524288 * 8192 + x / 524288 = omega arith in
    let high : x * 8192 % 4294967296 ≡ x % 524288 * 8192 = omega arith in
    shifted ∙ sym (ap (bit_or (x / 524288)) high ∙ or_shifted_r (x % 524288) 13 (x / 524288) (omega arith))

pub sigma1_beside : (x y : ℕ) → x < 2 ^ 32 → x ≡ y
    → bit_xor (bit_xor ((x + 2 ^ 32 * y) / 2 ^ 17) ((x + 2 ^ 32 * y) / 2 ^ 19) % 2 ^ 32) (x / 2 ^ 10) ≡ small_sigma1 x
sigma1_beside x y h e =
    rw (← e, xor_mod ((x + 2 ^ 32 * x) / 2 ^ 17) ((x + 2 ^ 32 * x) / 2 ^ 19) 32, beside_17 x h, beside_19 x h) refl
