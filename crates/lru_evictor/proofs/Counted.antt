-- The plan that spills so many.
use Rattle.std.proofs.Common.{◌≡◌, ℕ, zero, suc, ◌+◌, ◌-◌, ◌<◌, ◌≤◌, Bool, true, false, List, [], ◌∷◌, ◌++◌, map, take, length, append_assoc, length-append, refl, sym, ap, subst, ◌∙◌, arith}
use Rattle.std.specs.Prelude.{nat_lt, ◌==◌, if◌then◌else◌, min}
use Rattle.std.proofs.lemmas.Bool.Decides.{nat_tests}
use Rattle.std.proofs.lemmas.List.{length-take}
use Rattle.std.proofs.lemmas.List.Sums.{sum_by-cons}
use Rattle.obj_id.specs.declared.ids.ObjectId.{ObjectId}
use Rattle.private_store.specs.rules.Limits.{most_works}
use Rattle.private_store.specs.rules.Room.{full, busy, spill}
use Rattle.lru_evictor.specs.declared.facts.DeviceRoom.{DeviceRoom}
use Rattle.lru_evictor.specs.declared.facts.Plan.TheVariants as found
use Rattle.lru_evictor.specs.Facts.{Looked, device_bytes_at, spilled_bytes}
use Rattle.lru_evictor.specs.Plans.{plan_kind_of, spill_here}

-- ---- the device quota

-- one more is counted
pub quota-step : (facts : Looked) (id : ObjectId) (rest now : List ObjectId) (left more : ℕ) → now ≡ id ∷ rest → 0 < more → device_bytes_at facts id ≤ left
    → nat_lt (left - device_bytes_at facts id) (spilled_bytes facts (take (more - 1) rest)) ≡ nat_lt left (spilled_bytes facts (take more now))
quota-step facts id rest now left zero is some within = absurd (omega (arith, some))
quota-step facts id rest now left (suc more) is some within =
    let one : suc more - 1 ≡ more = omega arith in
    ap (λ m. nat_lt (left - device_bytes_at facts id) (spilled_bytes facts (take m rest))) one
    ∙ by (nat_lt left (device_bytes_at facts id + spilled_bytes facts (take more rest))) refl
    ∙ ap (nat_lt left) (sym (sum_by-cons (λ n. n) (device_bytes_at facts id) (map (device_bytes_at facts) (take more rest))))
    ∙ ap (λ ids. nat_lt left (spilled_bytes facts (take (suc more) ids))) (sym is)
  where
    by : (b : Bool) → nat_lt left (device_bytes_at facts id + spilled_bytes facts (take more rest)) ≡ b → nat_lt (left - device_bytes_at facts id) (spilled_bytes facts (take more rest)) ≡ nat_lt left (device_bytes_at facts id + spilled_bytes facts (take more rest))
    by true t = let lt : left < device_bytes_at facts id + spilled_bytes facts (take more rest) = grind (arith, nat_tests, t) in let e : nat_lt (left - device_bytes_at facts id) (spilled_bytes facts (take more rest)) ≡ true = grind (arith, nat_tests, lt, within) in e ∙ sym t
    by false t = let le : device_bytes_at facts id + spilled_bytes facts (take more rest) ≤ left = grind (arith, nat_tests, t) in let e : nat_lt (left - device_bytes_at facts id) (spilled_bytes facts (take more rest)) ≡ false = grind (arith, nat_tests, le, within) in e ∙ sym t

-- one passes it
pub quota-passed : (facts : Looked) (id : ObjectId) (rest now : List ObjectId) (left more : ℕ) → now ≡ id ∷ rest → 0 < more → left < device_bytes_at facts id → nat_lt left (spilled_bytes facts (take more now)) ≡ true
quota-passed facts id rest now left zero is some past = absurd (omega (arith, some))
quota-passed facts id rest now left (suc more) is some past =
    let lt : left < device_bytes_at facts id + spilled_bytes facts (take more rest) = omega (arith, past) in
    let t : nat_lt left (device_bytes_at facts id + spilled_bytes facts (take more rest)) ≡ true = grind (arith, nat_tests, lt) in
    ap (λ ids. nat_lt left (spilled_bytes facts (take (suc more) ids))) is ∙ ap (nat_lt left) (sum_by-cons (λ n. n) (device_bytes_at facts id) (map (device_bytes_at facts) (take more rest))) ∙ t

pub quota-none : (left : ℕ) → nat_lt left 0 ≡ false
quota-none left = grind (arith, nat_tests)

-- ---- the first of those that may go

-- one more is listed
pub pushed-first : (ids new : List ObjectId) (id : ObjectId) (rest now : List ObjectId) (count : ℕ) (all : List ObjectId) → new ≡ ids ++ id ∷ [] → now ≡ id ∷ rest → length ids < count
    → ids ++ take (count - length ids) now ≡ all → (length new ≤ count) × (new ++ take (count - length new) rest ≡ all)
pushed-first ids new id rest now count all pushed step some whole =
    let long : length new ≡ length ids + 1 = ap length pushed ∙ length-append ids (id ∷ []) in
    let left : count - length ids ≡ suc (count - length new) = omega (arith, long, some) in (
      omega (arith, long, some),
      (λ i. pushed i ++ take (count - length new) rest)
          ∙ append_assoc ids (id ∷ []) (take (count - length new) rest)
          ∙ ap (λ xs. ids ++ xs) (sym ((λ i. take (left i) (step i))))
          ∙ whole,
    )

-- ---- the plan

module _ (device : DeviceRoom) (facts : Looked) (may : List ObjectId) (k : ℕ) where
  pub counted-none : k ≡ 0 → found.Wait ≡ plan_kind_of (spill_here device facts (take k may))
  counted-none none = ap (λ j. plan_kind_of (spill_here device facts (take j may))) (sym none)

  module _ (some : 0 < k) (within : k ≤ length may) where
    -- some are taken
    taken : (ids : List ObjectId) → take k may ≡ ids → (P : List ObjectId → Type 0) → ((x : ObjectId) (xs : List ObjectId) → take k may ≡ x ∷ xs → P (x ∷ xs)) → P (take k may)
    taken [] e P f = let n = length-take k may in let z = ap length e in absurd (omega (arith, n, z, some, within))
    taken (x ∷ xs) e P f = subst P (sym e) (f x xs e)

    pub counted-past : nat_lt device.quota (device.used + spilled_bytes facts (take k may)) ≡ true → found.Full ≡ plan_kind_of (spill_here device facts (take k may))
    counted-past over = taken (take k may) refl (λ ids. found.Full ≡ plan_kind_of (spill_here device facts ids)) (λ x xs e.
        sym (ap (λ b. plan_kind_of (if b then full else (if most_works - device.works == 0 then busy else spill (take (most_works - device.works) (x ∷ xs)))))
        (ap (λ ids. nat_lt device.quota (device.used + spilled_bytes facts ids)) (sym e) ∙ over)))

    module _ (fits : nat_lt device.quota (device.used + spilled_bytes facts (take k may)) ≡ false) where
      pub counted-busy : most_works ≤ device.works → found.Busy ≡ plan_kind_of (spill_here device facts (take k may))
      counted-busy all = taken (take k may) refl (λ ids. found.Busy ≡ plan_kind_of (spill_here device facts ids)) (λ x xs e.
          let no : (most_works - device.works == 0) ≡ true = grind (arith, nat_tests, all) in
          sym (λ i. plan_kind_of (if (ap (λ ids. nat_lt device.quota (device.used + spilled_bytes facts ids)) (sym e) ∙ fits) i then full else (if no i then busy else spill (take (most_works - device.works) (x ∷ xs))))))

      pub counted-spills : device.works < most_works → (n : ℕ) → n ≡ min k (most_works - device.works) → found.Spill n ≡ plan_kind_of (spill_here device facts (take k may))
      counted-spills left n is = taken (take k may) refl (λ ids. found.Spill n ≡ plan_kind_of (spill_here device facts ids)) (λ x xs e.
          let yes : (most_works - device.works == 0) ≡ false = grind (arith, nat_tests, left) in
          let long = length-take k may in
          let cut = length-take (most_works - device.works) (x ∷ xs) in
          let whole = ap length e in
          let many : n ≡ length (take (most_works - device.works) (x ∷ xs)) = omega (arith, is, long, cut, whole, within) in
          ap found.Spill many
          ∙ sym (λ i. plan_kind_of (if (ap (λ ids. nat_lt device.quota (device.used + spilled_bytes facts ids)) (sym e) ∙ fits) i then full else (if yes i then busy else spill (take (most_works - device.works) (x ∷ xs))))))
