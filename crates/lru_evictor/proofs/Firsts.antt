-- The first copies of a walk, picked out of the sorted extents of all.
use Rattle.std.proofs.Common.{◌≡◌, ℕ, zero, suc, ◌+◌, ◌≤◌, Bool, true, false, ◌&&◌, ◌||◌, List, [], ◌∷◌, take, length, Option, Some, None, refl, sym, ap, ◌∙◌, arith, cond, nat_eq, map, filter, get_or}
use Rattle.std.proofs.lemmas.List.{length-map, take_all}
use Rattle.std.specs.Prelude.{nat_lt}
use Rattle.std.specs.List.{list_any, cons_option}
use Rattle.std.specs.List.Sorted.{IsPermutation, IsNonDecreasingBy}
use Rattle.std.proofs.lemmas.Bool.Decides.{nat_tests}
use Rattle.std.proofs.lemmas.List.Sorted.{list_any-IsPermutation}
use Rattle.std.proofs.lemmas.List.Kept.{IsNonDecreasingBy-filter}
use Rattle.obj_id.specs.declared.ids.ObjectId.{ObjectId}
use Rattle.obj_id.specs.declared.works.Extent.{Extent}
use Rattle.job_region.specs.Region.{Region}
use Rattle.lru_evictor.specs.declared.search.Leaving.{Leaving}
use Rattle.lru_evictor.specs.Facts.{Looked, extent_at, gone_of, fits_without}
use Rattle.lru_evictor.specs.Leavings.{leaving_at, leaving_of, firsts, fits_first}
use Rattle.lru_evictor.proofs.Free.{goes, first_in-same}

-- whether it is among the first k, and begins there
abbrev goes_first : ℕ → ℕ → Leaving → Bool
goes_first k offset l = nat_lt l.place k && nat_eq l.extent.offset offset

firsts-any : (k offset : ℕ) (leaving : List Leaving) → goes (firsts k leaving) offset ≡ list_any (goes_first k offset) leaving
firsts-any k offset [] = refl
firsts-any k offset (l ∷ ls) =
    elim (nat_lt l.place k) as (λ b. goes (map (λ (x : Leaving). x.extent) (cond b (l ∷ filter (λ (x : Leaving). nat_lt x.place k) ls) (filter (λ (x : Leaving). nat_lt x.place k) ls))) offset ≡ (b && nat_eq l.extent.offset offset) || list_any (goes_first k offset) ls) [
      | true ↦ ap (λ b. nat_eq l.extent.offset offset || b) (firsts-any k offset ls)
      | false ↦ firsts-any k offset ls
    ]

module _ (facts : Looked) (k offset : ℕ) where
  -- those past the first k don't go
  none-past : (place : ℕ) (ids : List ObjectId) → k ≤ place → list_any (goes_first k offset) (leaving_of facts place ids) ≡ false
  none-past place [] le = refl
  none-past place (id ∷ ids) le = past_at (extent_at facts id) (none-past (place + 1) ids (omega (arith, le)))
    where
      past_at : (o : Option Extent) → list_any (goes_first k offset) (leaving_of facts (place + 1) ids) ≡ false → list_any (goes_first k offset) (leaving_at o place (leaving_of facts (place + 1) ids)) ≡ false
      past_at None on = on
      past_at (Some e) on = let t : nat_lt place k ≡ false = grind (arith, nat_tests, le) in ap (λ b. (b && nat_eq e.offset offset) || list_any (goes_first k offset) (leaving_of facts (place + 1) ids)) t ∙ on

  -- the others are those of as many ids
  first-any : (left place : ℕ) (ids : List ObjectId) → place + left ≡ k → list_any (goes_first k offset) (leaving_of facts place ids) ≡ goes (gone_of facts (take left ids)) offset
  first-any zero place ids is = none-past place ids (omega (arith, is))
  first-any (suc left) place [] is = refl
  first-any (suc left) place (id ∷ ids) is = first_at (extent_at facts id) (first-any left (place + 1) ids (omega (arith, is)))
    where
      first_at : (o : Option Extent) → list_any (goes_first k offset) (leaving_of facts (place + 1) ids) ≡ goes (gone_of facts (take left ids)) offset
          → list_any (goes_first k offset) (leaving_at o place (leaving_of facts (place + 1) ids)) ≡ goes (cons_option o (gone_of facts (take left ids))) offset
      first_at None on = on
      first_at (Some e) on =
          let t : nat_lt place k ≡ true = grind (arith, nat_tests, is) in
          ap (λ b. (b && nat_eq e.offset offset) || list_any (goes_first k offset) (leaving_of facts (place + 1) ids)) t
          ∙ ap (λ b. nat_eq e.offset offset || b) on

-- a test of the first k of the sorted extents is one of the first k ids
pub fits-first : (window : Region) (facts : Looked) (n : ℕ) (ids : List ObjectId) (leaving : List Leaving) → IsPermutation (leaving_of facts 0 ids) leaving
    → (k : ℕ) → fits_first window n leaving k ≡ fits_without window facts n (take k ids)
fits-first window facts n ids leaving moved k = first_in-same window n (firsts k leaving) (gone_of facts (take k ids)) same
  where
    same : (offset : ℕ) → goes (firsts k leaving) offset ≡ goes (gone_of facts (take k ids)) offset
    same offset =
        firsts-any k offset leaving
        ∙ sym (list_any-IsPermutation (goes_first k offset) (leaving_of facts 0 ids) leaving moved)
        ∙ first-any facts k offset k 0 ids (omega arith)

-- and a test of them all is one of all ids
pub fits-all : (window : Region) (facts : Looked) (n : ℕ) (ids : List ObjectId) (leaving : List Leaving) → IsPermutation (leaving_of facts 0 ids) leaving
    → (fits : Bool) → fits ≡ fits_first window n leaving (length ids) → fits_without window facts n ids ≡ fits
fits-all window facts n ids leaving moved fits is =
    let whole : take (length ids) ids ≡ ids = take_all (length ids) ids (omega arith) in
    sym (is ∙ fits-first window facts n ids leaving moved (length ids) ∙ ap (fits_without window facts n) whole)

-- picked out, they rise as all do
get-extent : (i : ℕ) (leaving : List Leaving) (d : Leaving) → get_or (map (λ (l : Leaving). l.extent) leaving) i d.extent ≡ (get_or leaving i d).extent
get-extent i [] d = refl
get-extent zero (l ∷ ls) d = refl
get-extent (suc i) (l ∷ ls) d = get-extent i ls d

pub firsts-rise : (k : ℕ) (leaving : List Leaving) → IsNonDecreasingBy (λ (l : Leaving). l.extent.offset) leaving → IsNonDecreasingBy (λ (e : Extent). e.offset) (firsts k leaving)
firsts-rise k leaving rising i j d le lt =
    let picked = filter (λ (l : Leaving). nat_lt l.place k) leaving in
    let none : Leaving = record { extent = d; place = 0 } in
    let on = IsNonDecreasingBy-filter (λ (l : Leaving). l.extent.offset) (λ (l : Leaving). nat_lt l.place k) leaving rising i j none le (omega (arith, lt, length-map picked (λ (l : Leaving). l.extent))) in
    omega (arith, on, ap (λ (e : Extent). e.offset) (get-extent i picked none), ap (λ (e : Extent). e.offset) (get-extent j picked none))
