-- The indexes of an object's chunks, one after the other.
use Rattle.std.proofs.Common.{◌≡◌, ℕ, zero, suc, ◌+◌, [], ◌∷◌, ◌++◌, ap, ◌∙◌, arith}
use Rattle.private_store.specs.rules.Marks.{counted}

counted-suc : (start n : ℕ) → counted start (suc n) ≡ counted start n ++ (start + n) ∷ []
counted-suc start zero = ap (λ k. k ∷ []) (omega arith)
counted-suc start (suc n) =
    let later : start + 1 + n ≡ start + suc n = omega arith in
    ap (λ is. start ∷ is) (counted-suc (start + 1) n ∙ ap (λ k. counted (start + 1) n ++ k ∷ []) later)

-- one more is the next
pub counted-next : (n : ℕ) → counted 0 (n + 1) ≡ counted 0 n ++ n ∷ []
counted-next n =
    let next : n + 1 ≡ suc n = omega arith in
    let same : 0 + n ≡ n = omega arith in
    ap (counted 0) next ∙ counted-suc 0 n ∙ ap (λ k. counted 0 n ++ k ∷ []) same
