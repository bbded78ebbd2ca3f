-- First fit by way of the ends of the extents that are met.
use Rattle.std.proofs.Common.{◌≡◌, ℕ, zero, suc, ◌+◌, ◌-◌, ◌*◌, ◌/◌, ◌%◌, ◌^◌, ◌<◌, ◌≤◌, Bool, true, false, not, ◌&&◌, ◌||◌, List, [], ◌∷◌, length, get_or, below_more, Some, None, refl, sym, ap, subst, ◌∙◌, arith}
use Rattle.std.specs.Prelude.{nat_le}
use Rattle.std.specs.List.{list_all, list_any}
use Rattle.std.specs.List.Sorted.{IsNonDecreasingBy, IsPermutation}
use Rattle.std.proofs.lemmas.List.Sorted.{list_any-IsPermutation}
use Rattle.private_store.specs.rules.Limits.{widest_window}
use Rattle.std.proofs.lemmas.List.Folds.{list_all_at}
use Rattle.std.proofs.lemmas.Bool.{leb-false, leb-true, le-leb, lt-leb}
use Rattle.obj_id.specs.declared.works.Extent.{Extent}
use Rattle.private_store.specs.rules.Extents.{rounded, end_of, is_apart, is_free, first_from, first}
use Rattle.store_facts.proofs.Tests.{both, or_right, false_true, neither, or_false_left, or_false_right}
use Rattle.plain_store.specs.Fits.{is_apart_at, IsEnd, IsPastMet}

-- what n bytes at an offset meet they meet until its end
met_until : (e : Extent) (n a o : ℕ) → is_apart_at e n a ≡ false → a ≤ o → o < end_of e → is_apart_at e n o ≡ false
met_until e n a o met le lt =
    let begins : e.offset < a + n = leb-false (a + n) e.offset (or_false_left _ _ met) in
    neither _ _ (lt-leb (o + n) e.offset (omega (arith, begins, le))) (lt-leb (end_of e) o lt)

pub past_met : (extents : List Extent) (i a n units : ℕ) (d : Extent) → i < length extents → a < 2 ^ 33 → IsEnd (end_of (get_or extents i d)) units → is_apart_at (get_or extents i d) n a ≡ false → IsPastMet extents a n units
past_met extents i a n units d within near end met = record {
  whole = end.whole;
  near = end.near;
  past = end.past a (leb-false (end_of (get_or extents i d)) a (or_false_right _ _ met)) near;
  met = λ o le lt whole. list_all_at (is_apart (record { offset = o; length = n })) extents i d within (met_until (get_or extents i d) n a o met le (end.least o whole lt));
}

not_both : (a b : Bool) → b ≡ false → a && b ≡ false
not_both true b e = e
not_both false b e = refl

module _ (extents : List Extent) (window n : ℕ) where
  -- what isn't free is passed
  passed : (offset k : ℕ) → is_free extents window n offset ≡ false → first_from extents window n offset (suc k) ≡ first_from extents window n (offset + 16) k
  passed offset k e = ap (λ b. elim b [ true ↦ Some offset | false ↦ first_from extents window n (offset + 16) k ]) e

  -- past the window there is nothing
  pub past_window : (offset k : ℕ) → window < offset + rounded n → first_from extents window n offset k ≡ None
  past_window offset zero lt = refl
  past_window offset (suc k) lt =
      passed offset k (ap (λ b. b && list_all (is_apart (record { offset = offset; length = rounded n })) extents) (lt-leb (offset + rounded n) window lt))
      ∙ past_window (offset + 16) k (omega (arith, lt))

  skipped : (all i d : ℕ) → ((j : ℕ) → i ≤ j → j < i + d → is_free extents window n (16 * j) ≡ false)
      → first_from extents window n (16 * i) (all - i) ≡ first_from extents window n (16 * (i + d)) (all - (i + d))
  skipped all i zero taken = let e : i + 0 ≡ i = omega arith in ap (λ j. first_from extents window n (16 * j) (all - j)) (sym e)
  skipped all i (suc d) taken =
      let e : i + 1 + d ≡ i + suc d = omega arith in
      by_left (all - i) refl (skipped all (i + 1) d (λ j le lt. taken j (omega (arith, le)) (omega (arith, lt))) ∙ ap (λ j. first_from extents window n (16 * j) (all - j)) e)
    where
      by_left : (k : ℕ) → all - i ≡ k → first_from extents window n (16 * (i + 1)) (all - (i + 1)) ≡ first_from extents window n (16 * (i + suc d)) (all - (i + suc d))
          → first_from extents window n (16 * i) k ≡ first_from extents window n (16 * (i + suc d)) (all - (i + suc d))
      by_left zero e later =
          let none : all - (i + suc d) ≡ 0 = omega (arith, e) in
          sym (ap (first_from extents window n (16 * (i + suc d))) none)
      by_left (suc k) e later =
          let left : all - (i + 1) ≡ k = omega (arith, e) in
          let next : 16 * i + 16 ≡ 16 * (i + 1) = omega arith in
          passed (16 * i) k (taken i (omega arith) (omega arith))
          ∙ ap (λ o. first_from extents window n o k) next
          ∙ sym (ap (first_from extents window n (16 * (i + 1))) left)
          ∙ later

  -- what lies before the end of an extent that is met is passed
  pub past_extent : (all offset end : ℕ) → offset % 16 ≡ 0 → IsPastMet extents offset (rounded n) end
      → first_from extents window n offset (all - offset / 16) ≡ first_from extents window n end (all - end / 16)
  past_extent all offset end whole met =
      let from : 16 * (offset / 16) ≡ offset = omega (arith, whole) in
      let ends = met.whole in
      let past = met.past in
      let to : 16 * (offset / 16 + (end / 16 - offset / 16)) ≡ end = omega (arith, ends, past) in
      let units : offset / 16 + (end / 16 - offset / 16) ≡ end / 16 = omega (arith, ends, past) in
      ap (λ o. first_from extents window n o (all - offset / 16)) (sym from)
      ∙ skipped all (offset / 16) (end / 16 - offset / 16) (λ j le lt. meets j le lt)
      ∙ ap (λ j. first_from extents window n (16 * (offset / 16 + (end / 16 - offset / 16))) (all - j)) units
      ∙ ap (λ o. first_from extents window n o (all - end / 16)) to
    where
      meets : (j : ℕ) → offset / 16 ≤ j → j < offset / 16 + (end / 16 - offset / 16) → is_free extents window n (16 * j) ≡ false
      meets j le lt =
          let ends = met.whole in
          let past = met.past in
          let unit : (16 * j) % 16 ≡ 0 = omega arith in
          let taken = met.met (16 * j) (omega (arith, le, whole)) (omega (arith, lt, ends, past)) unit in
          not_both (nat_le (16 * j + rounded n) window) _ taken

-- ---- a walk over extents by rising offset

abbrev nowhere : Extent
nowhere = record { offset = 0; length = 0 }

-- past the first i extents: none of them is met at the offset, and nothing is free before it
pub record IsWalked (extents : List Extent) (window n need offset i : ℕ) : Type 0 where
  pub whole : offset % 16 ≡ 0
  pub near : offset ≤ 2 ^ 33
  pub clear : offset < 2 ^ 33 → (j : ℕ) → j < i → is_apart_at (get_or extents j nowhere) need offset ≡ true
  pub same : first_from extents window n offset (window / 16 + 1 - offset / 16) ≡ first extents window n

all_of : (p : Extent → Bool) (extents : List Extent) → ((j : ℕ) → j < length extents → p (get_or extents j nowhere) ≡ true) → list_all p extents ≡ true
all_of p [] each = refl
all_of p (e ∷ es) each = both (p e) (list_all p es) (each 0 (omega arith)) (all_of p es (λ j lt. each (suc j) (omega (arith, lt))))

not_past : (a b : ℕ) → (b < a → ⊥) → nat_le a b ≡ true
not_past a b never = elim (nat_le a b) as (λ t. nat_le a b ≡ t → t ≡ true) [
  | true ↦ λ _. refl
  | false ↦ λ e. absurd (never (leb-false a b e))
] refl

-- an extent that begins no later than one that is met ends before
ended : (e met : Extent) (need offset later : ℕ) → e.offset ≤ met.offset → is_apart_at met need offset ≡ false → offset ≤ later → is_apart_at e need offset ≡ true → is_apart_at e need later ≡ true
ended e met need offset later rises meets le apart =
    let begins : met.offset < offset + need = leb-false (offset + need) met.offset (or_false_left _ _ meets) in
    let not_before : nat_le (offset + need) e.offset ≡ false = lt-leb (offset + need) e.offset (omega (arith, begins, rises)) in
    let ends : end_of e ≤ offset = leb-true (end_of e) offset (or_of (nat_le (offset + need) e.offset) _ not_before apart) in
    or_right (nat_le (later + need) e.offset) (nat_le (end_of e) later) (le-leb (end_of e) later (omega (arith, ends, le)))
  where
    or_of : (a b : Bool) → a ≡ false → a || b ≡ true → b ≡ true
    or_of true b e t = false_true e
    or_of false b e t = t

module _ (extents : List Extent) (window n need i : ℕ) where
  pub walk-start : IsWalked extents window n need 0 0
  walk-start =
      let all : window / 16 + 1 - 0 / 16 ≡ window / 16 + 1 = omega arith in
      record { whole = refl; near = omega arith; clear = λ _ j lt. absurd (omega (arith, lt)); same = ap (first_from extents window n 0) all }

  pub walk-clear : (offset : ℕ) → IsWalked extents window n need offset i → is_apart_at (get_or extents i nowhere) need offset ≡ true → IsWalked extents window n need offset (i + 1)
  walk-clear offset w apart = record { whole = w.whole; near = w.near; clear = λ near. below_more _ _ (w.clear near) apart; same = w.same }

  pub walk-met : (offset units : ℕ) → IsWalked extents window n need offset i → i < length extents → IsNonDecreasingBy (λ (e : Extent). e.offset) extents → need ≡ rounded n → offset < 2 ^ 33
      → IsEnd (end_of (get_or extents i nowhere)) units → is_apart_at (get_or extents i nowhere) need offset ≡ false → IsWalked extents window n need units (i + 1)
  walk-met offset units w within rising is near end meets =
      let past = past_met extents i offset need units nowhere within near end meets in
      let later = past.past in
      record {
        whole = past.whole;
        near = past.near;
        clear = λ small. below_more _ _ (λ j lt. ended (get_or extents j nowhere) (get_or extents i nowhere) need offset units (rising j i nowhere (omega (arith, lt)) within) meets (omega (arith, later)) (w.clear near j lt)) (reached small);
        same = sym (past_extent extents window n (window / 16 + 1) offset units w.whole (subst (λ m. IsPastMet extents offset m units) is past)) ∙ w.same;
      }
    where
      reached : units < 2 ^ 33 → is_apart_at (get_or extents i nowhere) need units ≡ true
      reached small = or_right (nat_le (units + need) (get_or extents i nowhere).offset) _ (not_past (end_of (get_or extents i nowhere)) units (λ lt. let no = end.past units lt small in omega (arith, no)))

  pub walk-end : (offset : ℕ) → IsWalked extents window n need offset i → length extents ≤ i → need ≡ rounded n → offset + need ≤ window → window ≤ widest_window → Some offset ≡ first extents window n
  walk-end offset w over is fits wide =
      let near : offset < 2 ^ 33 = omega (arith, fits, wide) in
      let whole = w.whole in
      let apart = subst (λ m. list_all (is_apart (record { offset = offset; length = m })) extents ≡ true) is (all_of (is_apart (record { offset = offset; length = need })) extents (λ j lt. w.clear near j (omega (arith, lt, over)))) in
      let free : is_free extents window n offset ≡ true = both _ _ (le-leb (offset + rounded n) window (omega (arith, fits, is))) apart in
      let left : window / 16 + 1 - offset / 16 ≡ suc (window / 16 - offset / 16) = omega (arith, fits, whole) in
      sym (ap (λ b. elim b [ true ↦ Some offset | false ↦ first_from extents window n (offset + 16) (window / 16 - offset / 16) ]) free)
      ∙ sym (ap (first_from extents window n offset) left)
      ∙ w.same

  pub walk-past : (offset : ℕ) → IsWalked extents window n need offset i → need ≡ rounded n → window < offset + need → None ≡ first extents window n
  walk-past offset w is past = sym (past_window extents window n offset (window / 16 + 1 - offset / 16) (omega (arith, past, is))) ∙ w.same

-- ---- the extents in another order

any_of : (p : Extent → Bool) (extents : List Extent) → list_all p extents ≡ not (list_any (λ e. not (p e)) extents)
any_of p [] = refl
any_of p (e ∷ es) = ap (λ b. p e && b) (any_of p es) ∙ de_morgan (p e) (list_any (λ e. not (p e)) es)
  where
    de_morgan : (a b : Bool) → a && not b ≡ not (not a || b)
    de_morgan true b = refl
    de_morgan false b = refl

module _ (extents sorted : List Extent) (moved : IsPermutation extents sorted) (window n : ℕ) where
  same_free : (offset : ℕ) → is_free sorted window n offset ≡ is_free extents window n offset
  same_free offset =
      let p : Extent → Bool = is_apart (record { offset = offset; length = rounded n }) in
      ap (λ b. nat_le (offset + rounded n) window && b) (any_of p sorted ∙ ap not (sym (list_any-IsPermutation (λ e. not (p e)) extents sorted moved)) ∙ sym (any_of p extents))

  same_from : (offset k : ℕ) → first_from sorted window n offset k ≡ first_from extents window n offset k
  same_from offset zero = refl
  same_from offset (suc k) =
      ap (λ b. elim b [ true ↦ Some offset | false ↦ first_from sorted window n (offset + 16) k ]) (same_free offset)
      ∙ ap (λ o. elim (is_free extents window n offset) [ true ↦ Some offset | false ↦ o ]) (same_from (offset + 16) k)

  pub first-permuted : first sorted window n ≡ first extents window n
  first-permuted = same_from 0 (window / 16 + 1)
