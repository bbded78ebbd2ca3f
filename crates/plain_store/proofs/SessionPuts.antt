-- An entry put in its place.
use Rattle.std.proofs.Common.{◌≡◌, ℕ, zero, suc, ◌<◌, ◌≤◌, true, List, [], ◌∷◌, length, take, get_or, set, refl, ap, ◌∙◌, sym, arith}
use Rattle.std.specs.Prelude.{nat_lt}
use Rattle.std.specs.List.{list_all, insert}
use Rattle.std.specs.Ordering.{nat_cmp}
use Rattle.std.specs.declared.cmp.Ordering.TheVariants.{Less, Equal, Greater}
use Rattle.std.specs.Cmp.{nat_cmp_is}
use Rattle.std.proofs.lemmas.Bool.{ltb-true}
use Rattle.std.specs.FinMap.{put}
use Rattle.std.specs.FinMap.Entries.{by_order}
use Rattle.store_facts.proofs.Tests.{both_left, both_right}

module _ (k v : ℕ) where
  past : (e : ℕ × ℕ) (es : List (ℕ × ℕ)) → nat_lt e.0 k ≡ true → put nat_cmp k v (e ∷ es) ≡ e ∷ put nat_cmp k v es
  past e es lt = ap (λ r. by_order r ((k, v) ∷ e ∷ es) ((e.0, v) ∷ es) (e ∷ put nat_cmp k v es)) (sym (nat_cmp_is k e.0 Greater (ltb-true e.0 k lt)))

  pub put-same : (es : List (ℕ × ℕ)) (i : ℕ) (d : ℕ × ℕ) → list_all (λ e. nat_lt e.0 k) (take i es) ≡ true → i < length es → (get_or es i d).0 ≡ k → put nat_cmp k v es ≡ set es i (k, v)
  put-same [] i d below within is = absurd (omega (arith, within))
  put-same (e ∷ es) zero d below within is =
      ap (λ r. by_order r ((k, v) ∷ e ∷ es) ((e.0, v) ∷ es) (e ∷ put nat_cmp k v es)) (sym (nat_cmp_is k e.0 Equal (sym is))) ∙ ap (λ x. (x, v) ∷ es) is
  put-same (e ∷ es) (suc i) d below within is =
      past e es (both_left _ _ below) ∙ ap (λ xs. e ∷ xs) (put-same es i d (both_right (nat_lt e.0 k) _ below) (omega (arith, within)) is)

  pub put-new : (es : List (ℕ × ℕ)) (i : ℕ) (d : ℕ × ℕ) → list_all (λ e. nat_lt e.0 k) (take i es) ≡ true → i ≤ length es → (i < length es → k < (get_or es i d).0) → put nat_cmp k v es ≡ insert es i (k, v)
  put-new [] zero d below within above = refl
  put-new [] (suc i) d below within above = absurd (omega (arith, within))
  put-new (e ∷ es) zero d below within above =
      ap (λ r. by_order r ((k, v) ∷ e ∷ es) ((e.0, v) ∷ es) (e ∷ put nat_cmp k v es)) (sym (nat_cmp_is k e.0 Less (above (omega arith))))
  put-new (e ∷ es) (suc i) d below within above =
      past e es (both_left _ _ below) ∙ ap (λ xs. e ∷ xs) (put-new es i d (both_right (nat_lt e.0 k) _ below) (omega (arith, within)) (λ lt. above (omega (arith, lt))))
