-- How many have to go.
use Rattle.std.proofs.Common.{◌≡◌, ℕ, ◌-◌, ◌≤◌, Bool, true, false, List, [], ◌∷◌, ◌++◌, take, drop, length, Option, Some, None, refl, sym, ap, ◌∙◌, arith, cond, append_assoc, length-append, append-nil}
use Rattle.std.specs.Prelude.{IfSome, IfNone}
use Rattle.std.specs.Option.{option_map}
use Rattle.std.proofs.lemmas.List.{take-append-drop, take-take, take_all, take-append-le}
use Rattle.obj_id.specs.declared.ids.ObjectId.{ObjectId}
use Rattle.job_region.specs.Region.{Region}
use Rattle.private_store.specs.rules.Room.{shortest}
use Rattle.use_tree.specs.declared.classes.VictimClass.{VictimClass}
use Rattle.lru_evictor.specs.Searches.{AreEnough, AreMore}
use Rattle.lru_evictor.specs.Facts.{Looked, passes_at, chosen, fits_without}
use Rattle.lru_evictor.proofs.Free.{fits-more}
use Rattle.lru_evictor.proofs.Shortest.{shortest-found, shortest-none}

-- none at all are enough
pub found_at_once : (test : List ObjectId → Bool) (all : List ObjectId) (fits : Bool) → fits ≡ test [] → fits ≡ true → Some [] ≡ shortest test all
found_at_once test all fits is good = sym (shortest-found test all 0 (omega arith) (sym is ∙ good) (λ j lt. absurd (omega arith)))

module _ (test : List ObjectId → Bool) (more : AreMore test) (ids : List ObjectId) where
  -- a beginning that is too short has none shorter that would do
  fewer_fail : (k j : ℕ) → j ≤ k → test (take k ids) ≡ false → test (take j ids) ≡ false
  fewer_fail k j le bad = by (test (take j ids)) refl
    where
      split : take j ids ++ drop j (take k ids) ≡ take k ids
      split = ap (λ xs. xs ++ drop j (take k ids)) (sym (take-take j k ids le)) ∙ take-append-drop j (take k ids)

      by : (b : Bool) → test (take j ids) ≡ b → test (take j ids) ≡ false
      by false e = e
      by true e = let on = sym (ap test split) ∙ more (take j ids) (drop j (take k ids)) e in absurd (differ (sym on ∙ bad))
        where
          differ : true ≡ false → ⊥
          differ h = cc

  -- the ids are a beginning of all that may go
  module _ (rest all : List ObjectId) (whole : ids ++ rest ≡ all) where
    beginning_at : (j : ℕ) → j ≤ length ids → take j all ≡ take j ids
    beginning_at j le = ap (take j) (sym whole) ∙ take-append-le j ids rest le

    pub found_here : (k : ℕ) → k ≤ length ids → test (take k ids) ≡ true → test (take (k - 1) ids) ≡ false → Some (take k ids) ≡ shortest test all
    found_here k within good bad =
        let long : length ids ≤ length all = omega (arith, ap length whole, length-append ids rest) in
        ap Some (sym (beginning_at k within))
        ∙ sym (shortest-found test all k (omega (arith, long, within)) (ap test (beginning_at k within) ∙ good)
        (λ j lt. ap test (beginning_at j (omega (arith, within, lt))) ∙ fewer_fail (k - 1) j (omega (arith, lt)) bad))

    -- all of them are too few
    found_none : rest ≡ [] → test ids ≡ false → None ≡ shortest test all
    found_none done bad = sym (shortest-none test all none)
      where
        complete : ids ≡ all
        complete = sym (append-nil ids) ∙ ap (λ xs. ids ++ xs) (sym done) ∙ whole

        every : test (take (length ids) ids) ≡ false
        every = ap test (take_all (length ids) ids (omega arith)) ∙ bad

        none : (j : ℕ) → j ≤ length all → test (take j all) ≡ false
        none j le =
            let short : j ≤ length ids = omega (arith, le, ap length complete) in
            ap test (beginning_at j short) ∙ fewer_fail (length ids) j short every

-- all that may go are too few
pub too_few : (test : List ObjectId → Bool) → AreMore test → (all : List ObjectId) → test all ≡ false → None ≡ shortest test all
too_few test more all bad = found_none test more all [] all (append-nil all) refl bad

-- what the last test says, when the walk is at its end
pub found-last : (window : Region) (facts : Looked) (n : ℕ) (ids rest all : List ObjectId) → ids ++ rest ≡ all → rest ≡ []
    → (r : Option ℕ) → IfSome r (AreEnough window facts n ids) → IfNone r (fits_without window facts n ids ≡ false)
    → option_map (λ k. take k ids) r ≡ shortest (fits_without window facts n) all
found-last window facts n ids rest all whole done None some none = found_none (fits_without window facts n) (fits-more window facts n) ids rest all whole done none
found-last window facts n ids rest all whole done (Some k) some none = found_here (fits_without window facts n) (fits-more window facts n) ids rest all whole k some.within some.enough some.fewer

-- one more is chosen
pub whole-pushed : (facts : Looked) (class : VictimClass) (ids new : List ObjectId) (id : ObjectId) → new ≡ ids ++ id ∷ [] → (left next all : List ObjectId) → left ≡ id ∷ next → true ≡ passes_at facts class id
    → ids ++ chosen facts class left ≡ all → new ++ chosen facts class next ≡ all
whole-pushed facts class ids new id pushed left next all step passed whole =
    let here : chosen facts class left ≡ id ∷ chosen facts class next = ap (chosen facts class) step ∙ ap (λ b. cond b (id ∷ chosen facts class next) (chosen facts class next)) (sym passed) in
    ap (λ xs. xs ++ chosen facts class next) pushed
    ∙ append_assoc ids (id ∷ []) (chosen facts class next)
    ∙ ap (λ xs. ids ++ xs) (sym here)
    ∙ whole
