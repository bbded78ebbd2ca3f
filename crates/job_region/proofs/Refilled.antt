-- Zeros that are added to zeros.
use Rattle.std.proofs.Common.{◌≡◌, ◌+◌, ◌-◌, ◌≤◌, ◌++◌, ℕ, List, length, take, replicate, arith}
use Rattle.std.proofs.lemmas.List.{take_all, length-replicate, replicate-append-replicate}

pub more_zeros : (bytes : List ℕ) (len made n : ℕ) → len ≡ length bytes → bytes ≡ replicate made 0 → made ≤ n
    → take n bytes ++ replicate (n - len) 0 ≡ replicate n 0
more_zeros bytes len made n counted is le =
    let many : length bytes ≡ made = rw (is, length-replicate {A = ℕ} made 0) in
    let whole : made + (n - made) ≡ n = omega arith in
    let all : take n bytes ≡ bytes = take_all n bytes (rw many le) in
    rw (counted, many, all, is, replicate-append-replicate {A = ℕ} made (n - made) 0, whole)
