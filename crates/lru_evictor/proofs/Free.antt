-- First fit without some extents.
use Rattle.std.proofs.Common.{◌≡◌, ℕ, zero, suc, ◌+◌, ◌/◌, Bool, true, false, not, ◌&&◌, ◌||◌, List, [], ◌∷◌, ◌++◌, Some, refl, sym, ap, ◌∙◌, cond, nat_eq, is_some, length}
use Rattle.std.specs.Prelude.{nat_le}
use Rattle.std.specs.List.{list_any, list_all}
use Rattle.std.specs.List.Sorted.{IsPermutation}
use Rattle.std.proofs.lemmas.List.Sorted.{list_any-IsPermutation}
use Rattle.std.proofs.lemmas.List.Folds.{list_any-append}
use Rattle.std.proofs.lemmas.List.Elements.{filter_map-append}
use Rattle.obj_id.specs.declared.ids.ObjectId.{ObjectId}
use Rattle.obj_id.specs.declared.works.Extent.{Extent}
use Rattle.std.specs.Option.{option_and_then}
use Rattle.private_store.specs.rules.Extents.{rounded, end_of, is_apart, is_free, first, first_from}
use Rattle.job_region.specs.Region.{Region, extents_of, without}
use Rattle.lru_evictor.specs.Facts.{Looked, gone_of, fits_without}
use Rattle.lru_evictor.proofs.Truths.{each}

-- whether an extent that begins there goes
abbrev pub goes : List Extent → ℕ → Bool
goes gone offset = list_any (λ g. nat_eq g.offset offset) gone

-- only where extents begin that go decides what is left
pub without-same : (gone other : List Extent) → ((offset : ℕ) → goes gone offset ≡ goes other offset) → (placed : List (ℕ × List ℕ)) → without gone placed ≡ without other placed
without-same gone other h [] = refl
without-same gone other h (p ∷ ps) = λ i. cond (not (h p.0 i)) (p ∷ without-same gone other h ps i) (without-same gone other h ps i)

-- and so not their order
pub without-permuted : (gone sorted : List Extent) (placed : List (ℕ × List ℕ)) → IsPermutation gone sorted → without sorted placed ≡ without gone placed
without-permuted gone sorted placed moved = without-same sorted gone (λ offset. sym (list_any-IsPermutation (λ (g : Extent). nat_eq g.offset offset) gone sorted moved)) placed

-- and so whether bytes fit
pub first_in-same : (window : Region) (n : ℕ) (gone other : List Extent) → ((offset : ℕ) → goes gone offset ≡ goes other offset)
    → is_some (first (extents_of (without gone window.placed)) window.quota n) ≡ is_some (first (extents_of (without other window.placed)) window.quota n)
first_in-same window n gone other h = ap (λ ps. is_some (first (extents_of ps) window.quota n)) (without-same gone other h window.placed)

-- what passes a test of what is left
pub all-left : (test : Extent → Bool) (gone : List Extent) (placed : List (ℕ × List ℕ)) → list_all test (extents_of (without gone placed)) ≡ list_all (λ e. goes gone e.offset || test e) (extents_of placed)
all-left test gone [] = refl
all-left test gone (p ∷ ps) =
    elim (goes gone p.0) as (λ b. list_all test (extents_of (cond (not b) (p ∷ without gone ps) (without gone ps))) ≡ (b || test (record { offset = p.0; length = length p.1 })) && list_all (λ e. goes gone e.offset || test e) (extents_of ps)) [
      | true ↦ all-left test gone ps
      | false ↦ ap (λ b. test (record { offset = p.0; length = length p.1 }) && b) (all-left test gone ps)
    ]

-- first fit sees where bytes are free, and nothing else
pub first-same : (es fs : List Extent) (window n : ℕ) → ((o : ℕ) → is_free es window n o ≡ is_free fs window n o) → first es window n ≡ first fs window n
first-same es fs window n h = from 0 (window / 16 + 1)
  where
    from : (o k : ℕ) → first_from es window n o k ≡ first_from fs window n o k
    from o zero = refl
    from o (suc k) = λ i. elim (h o i) [ true ↦ Some o | false ↦ from (o + 16) k i ]

-- where more is free, there is a place as well
pub first-more : (es fs : List Extent) (window n : ℕ) → ((o : ℕ) → is_free es window n o ≡ true → is_free fs window n o ≡ true) → is_some (first es window n) ≡ true → is_some (first fs window n) ≡ true
first-more es fs window n h = from 0 (window / 16 + 1)
  where
    from : (o k : ℕ) → is_some (first_from es window n o k) ≡ true → is_some (first_from fs window n o k) ≡ true
    from o zero e = e
    from o (suc k) e = by (from (o + 16) k) (is_free fs window n o) (is_free es window n o) refl refl e
      where
        by : (is_some (first_from es window n (o + 16) k) ≡ true → is_some (first_from fs window n (o + 16) k) ≡ true) → (b a : Bool) → is_free fs window n o ≡ b → is_free es window n o ≡ a → is_some (elim a [ true ↦ Some o | false ↦ first_from es window n (o + 16) k ]) ≡ true
            → is_some (elim b [ true ↦ Some o | false ↦ first_from fs window n (o + 16) k ]) ≡ true
        by rest true a p q e = refl
        by rest false true p q e = let t = sym p ∙ h o q in cc
        by rest false false p q e = rest e

pub all_more : {X : Type 0} (p q : X → Bool) → ((x : X) → p x ≡ true → q x ≡ true) → (xs : List X) → list_all p xs ≡ true → list_all q xs ≡ true
all_more p q h [] e = refl
all_more p q h (x ∷ xs) e =
    let here = each (p x) (list_all p xs) e in
    ap (λ b. b && list_all q xs) (h x here.0) ∙ all_more p q h xs here.1

or_more : (a b c : Bool) → a || c ≡ true → (a || b) || c ≡ true
or_more true b c e = refl
or_more false true c e = refl
or_more false false c e = e

module _ (window : Region) (facts : Looked) (n : ℕ) where
  -- where bytes fit without some copies, they fit without more of them
  pub fits-more : (out more : List ObjectId) → fits_without window facts n out ≡ true → fits_without window facts n (out ++ more) ≡ true
  fits-more out more = first-more (left out) (left (out ++ more)) window.quota n free
    where
      left : List ObjectId → List Extent
      left ids = extents_of (without (gone_of facts ids) window.placed)

      free : (o : ℕ) → is_free (extents_of (without (gone_of facts out) window.placed)) window.quota n o ≡ true → is_free (extents_of (without (gone_of facts (out ++ more)) window.placed)) window.quota n o ≡ true
      free o e =
          let new : Extent = record { offset = o; length = rounded n } in
          let here = each (nat_le (end_of new) window.quota) (list_all (is_apart new) (extents_of (without (gone_of facts out) window.placed))) e in
          let some = all-left (is_apart new) (gone_of facts out) window.placed in
          let rest = all-left (is_apart new) (gone_of facts (out ++ more)) window.placed in
          let on = all_more (λ x. goes (gone_of facts out) x.offset || is_apart new x) (λ x. goes (gone_of facts (out ++ more)) x.offset || is_apart new x) (λ x g. wider x g) (extents_of window.placed) (sym some ∙ here.1) in
          ap (λ b. b && list_all (is_apart new) (extents_of (without (gone_of facts (out ++ more)) window.placed))) here.0 ∙ rest ∙ on
        where
          wider : (x : Extent) → goes (gone_of facts out) x.offset || is_apart (record { offset = o; length = rounded n }) x ≡ true → goes (gone_of facts (out ++ more)) x.offset || is_apart (record { offset = o; length = rounded n }) x ≡ true
          wider x g =
              let split = ap (λ gs. goes gs x.offset) (filter_map-append (λ id. option_and_then (λ copy. copy.extent) (facts id)) out more) ∙ list_any-append (λ (g : Extent). nat_eq g.offset x.offset) (gone_of facts out) (gone_of facts more) in
              ap (λ b. b || is_apart (record { offset = o; length = rounded n }) x) split
              ∙ or_more (goes (gone_of facts out) x.offset) (goes (gone_of facts more) x.offset) (is_apart (record { offset = o; length = rounded n }) x) g
