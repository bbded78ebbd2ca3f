-- Differences of bytes, and when there are none.
use Rattle.std.proofs.Common.{◌≡◌, ℕ, sym, ap, ◌∙◌, arith, bit_or, Bool, false, Option, Some, None, subst}
use Rattle.std.specs.Prelude.{IsTrue, ◌↔◌, IsSomeAnd}
use Rattle.obj_id.specs.declared.works.JobKey.{JobKey}
use Rattle.store_facts.proofs.Tests.{true_false}
use Rattle.job_admission.specs.declared.Live.{Live}
use Rattle.std.specs.Int.Bits.{bit_xor, xor_add_and, xor_self, or_zero_l}
use Rattle.std.proofs.lemmas.Nat.{le_or_l, le_or_r, and_le_l, and_le_r}

-- two bytes differ nowhere only where they are equal
xor-zero : (a b : ℕ) → bit_xor a b ≡ 0 → a ≡ b
xor-zero a b h = omega (arith, h, xor_add_and a b, and_le_l a b, and_le_r a b)

-- no difference after one more byte: none before, and the bytes are equal
pub no_difference : (d a b : ℕ) → bit_or d (bit_xor a b) ≡ 0 → (d ≡ 0) × (a ≡ b)
no_difference d a b h = (omega (arith, h, le_or_l d (bit_xor a b)), xor-zero a b (omega (arith, h, le_or_r d (bit_xor a b))))

-- equal bytes add none
pub same_byte : (d a b : ℕ) → d ≡ 0 → a ≡ b → bit_or d (bit_xor a b) ≡ 0
same_byte d a b e f = ap (λ x. bit_or x (bit_xor a b)) e ∙ or_zero_l (bit_xor a b) ∙ ap (λ x. bit_xor x b) f ∙ xor_self b

same_key : (a b : JobKey) → a.0 ≡ b.0 → a ≡ b
same_key a b e = λ i. record { 0 = e i }

-- what the comparison of its key's bytes says of a live job
pub key_told : (o : Option Live) (x : Live) (key : JobKey) (equal : Bool) → o ≡ Some x → (IsTrue equal ↔ (x.key.0 ≡ key.0)) → IsTrue equal ↔ IsSomeAnd o (λ live. live.key ≡ key)
key_told o x key equal found response =
    let P : Option Live → Type 0 = λ s. IsTrue equal ↔ IsSomeAnd s (λ live. live.key ≡ key) in
    subst P (sym found) (λ t. same_key x.key key (response.0 t), λ e. response.1 (ap (λ k. k.0) e))

pub key_of_none : (o : Option Live) (key : JobKey) → o ≡ None → IsTrue false ↔ IsSomeAnd o (λ live. live.key ≡ key)
key_of_none o key none =
    let P : Option Live → Type 0 = λ s. IsTrue false ↔ IsSomeAnd s (λ live. live.key ≡ key) in
    subst P (sym none) (λ t. true_false t, λ e. absurd e)
