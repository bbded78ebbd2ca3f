-- A state that is written down word by word, high byte first.
use Rattle.std.proofs.Common.{◌≡◌, ℕ, List, ◌*◌, length, take, arith, sym, subst, ◌∙◌}
use Rattle.std.proofs.lemmas.List.{take_all}
use Rattle.sha2.specs.Sha256.{digest_bytes}

-- of 32 bytes the first ones are so many words of the state
abbrev pub Begins : List ℕ → ℕ → List ℕ → Type 0
Begins state words bytes = (length bytes ≡ 32) × (take (4 * words) bytes ≡ digest_bytes state words)

-- with all eight there is nothing else
pub all_eight : (state bytes : List ℕ) (words : ℕ) → words ≡ 8 → Begins state words bytes → bytes ≡ digest_bytes state 8
all_eight state bytes words full begun =
    let eight : take (4 * 8) bytes ≡ digest_bytes state 8 = subst (λ n. take (4 * n) bytes ≡ digest_bytes state n) full begun.1 in
    sym (take_all 32 bytes (omega (arith, begun.0))) ∙ eight
