-- The last turns of all, as many as a tree is over.
use Rattle.std.proofs.Common.{◌≡◌, ℕ, suc, ◌+◌, ◌*◌, ◌^◌, ◌<◌, ◌≤◌, true, false, refl, ap, ◌∙◌, arith}
use Rattle.std.specs.Prelude.{nat_lt}
use Rattle.std.proofs.lemmas.Bool.Decides.{nat_tests}
use Rattle.std.proofs.Math.Nat.{pow-succ'}
use Rattle.std.proofs.Math.Pow.{pow_mono}
use Rattle.augmented_tree.specs.Shape.{middle}
use Rattle.use_tree.specs.Uses.{start}

-- no more than there are
pub fits : (bits : ℕ) → bits ≤ 62 → 2 ^ bits ≤ 4611686018427387904
fits bits le = pow_mono le

-- half of twice as many
pub halved : (bits : ℕ) → bits < 62 → middle (start (bits + 1)) 4611686018427387904 ≡ start bits
halved bits lt =
    let most : 2 ^ (bits + 1) ≤ 4611686018427387904 = fits (bits + 1) (omega (arith, lt)) in
    let next : bits + 1 ≡ suc bits = omega arith in
    let twice : 2 ^ (bits + 1) ≡ 2 * 2 ^ bits = ap (λ n. 2 ^ n) next ∙ pow-succ' 2 bits in
    omega (arith, most, twice)

-- a turn before them leaves room for more
pub more : (bits turn : ℕ) → turn < start bits → bits < 62
more bits turn before = elim (nat_lt bits 62) as (λ b. nat_lt bits 62 ≡ b → bits < 62) [
  | true ↦ λ e. grind (arith, nat_tests, e)
  | false ↦ λ e.
      let most : 62 ≤ bits = grind (arith, nat_tests, e) in
      let all : 4611686018427387904 ≤ 2 ^ bits = pow_mono most in
      absurd (omega (arith, before, all))
] refl
