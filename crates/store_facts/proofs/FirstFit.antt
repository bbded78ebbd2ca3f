-- First fit gives the least multiple of 16 that is free, or none where none is.
use Rattle.std.proofs.Common.{◌≡◌, ℕ, zero, suc, ◌+◌, ◌*◌, ◌/◌, ◌%◌, ◌<◌, ◌≤◌, true, false, List, Some, refl, sym, ap, subst, ◌∙◌, arith}
use Rattle.obj_id.specs.declared.works.Extent.{Extent}
use Rattle.private_store.specs.rules.Extents.{rounded, is_free, first_from, first}
use Rattle.std.proofs.lemmas.Bool.{leb-true}
use Rattle.store_facts.proofs.Tests.{both_left, false_true, none_some, some_value}

next_unit : (n : ℕ) → n % 16 ≡ 0 → (n + 16) % 16 ≡ 0
next_unit n u = omega arith

module _ (extents : List Extent) (window n : ℕ) where
  -- what is found is free
  from-free : (offset k p : ℕ) → first_from extents window n offset k ≡ Some p → is_free extents window n p ≡ true
  from-free offset zero p e = none_some p e
  from-free offset (suc k) p e =
      elim (is_free extents window n offset) as (λ b. is_free extents window n offset ≡ b → elim b [ true ↦ Some offset | false ↦ first_from extents window n (offset + 16) k ] ≡ Some p → is_free extents window n p ≡ true) [
        | true ↦ λ t e. subst (λ x. is_free extents window n x ≡ true) (some_value offset p e) t
        | false ↦ λ _ e. from-free (offset + 16) k p e
      ] refl e

  -- and a whole number of units from where the search began
  from-units : (offset k p : ℕ) → offset % 16 ≡ 0 → first_from extents window n offset k ≡ Some p → p % 16 ≡ 0
  from-units offset zero p u e = none_some p e
  from-units offset (suc k) p u e =
      elim (is_free extents window n offset) as (λ b. elim b [ true ↦ Some offset | false ↦ first_from extents window n (offset + 16) k ] ≡ Some p → p % 16 ≡ 0) [
        | true ↦ λ e. ap (λ x. x % 16) (sym (some_value offset p e)) ∙ u
        | false ↦ λ e. from-units (offset + 16) k p (next_unit offset u) e
      ] e

  -- a free place within reach is found, at or before it
  from-least : (offset k i : ℕ) → i < k → is_free extents window n (offset + 16 * i) ≡ true
      → (p : ℕ) × (first_from extents window n offset k ≡ Some p) × (p ≤ offset + 16 * i)
  from-least offset zero i lt free = absurd (omega (arith, lt))
  from-least offset (suc k) i lt free =
      elim (is_free extents window n offset) as (λ b. is_free extents window n offset ≡ b → (p : ℕ) × (elim b [ true ↦ Some offset | false ↦ first_from extents window n (offset + 16) k ] ≡ Some p) × (p ≤ offset + 16 * i)) [
        | true ↦ λ _. (offset, refl, omega arith)
        | false ↦ λ taken. later i lt free taken (λ j l f. from-least (offset + 16) k j l f)
      ] refl
    where
      later : (i : ℕ) → i < suc k → is_free extents window n (offset + 16 * i) ≡ true → is_free extents window n offset ≡ false
          → ((j : ℕ) → j < k → is_free extents window n ((offset + 16) + 16 * j) ≡ true → (p : ℕ) × (first_from extents window n (offset + 16) k ≡ Some p) × (p ≤ (offset + 16) + 16 * j))
          → (p : ℕ) × (first_from extents window n (offset + 16) k ≡ Some p) × (p ≤ offset + 16 * i)
      later zero lt free taken ih =
          let e : offset + 16 * 0 ≡ offset = omega arith in
          false_true (sym (subst (λ x. is_free extents window n x ≡ true) e free) ∙ taken)
      later (suc j) lt free taken ih =
          let e : offset + 16 * suc j ≡ (offset + 16) + 16 * j = omega arith in
          let found = ih j (omega (arith, lt)) (subst (λ x. is_free extents window n x ≡ true) e free) in
          (found.0, found.1, omega (arith, found.2))

pub first-free : (extents : List Extent) (window n p : ℕ) → first extents window n ≡ Some p → is_free extents window n p ≡ true
first-free extents window n p e = from-free extents window n 0 (window / 16 + 1) p e

pub first-units : (extents : List Extent) (window n p : ℕ) → first extents window n ≡ Some p → p % 16 ≡ 0
first-units extents window n p e = from-units extents window n 0 (window / 16 + 1) p refl e

pub first-least : (extents : List Extent) (window n k : ℕ) → is_free extents window n (16 * k) ≡ true → (p : ℕ) × (first extents window n ≡ Some p) × (p ≤ 16 * k)
first-least extents window n k free =
    let ends : 16 * k + rounded n ≤ window = leb-true (16 * k + rounded n) window (both_left _ _ free) in
    let within : k < window / 16 + 1 = omega (arith, ends) in
    let from_zero : 0 + 16 * k ≡ 16 * k = omega arith in
    let found = from-least extents window n 0 (window / 16 + 1) k within (subst (λ o. is_free extents window n o ≡ true) (sym from_zero) free) in
    (found.0, found.1, omega (arith, found.2))
