-- What stays of a list where extents go besides, and where one is marked as going.
use Rattle.std.proofs.Common.{◌≡◌, ℕ, ◌<◌, Bool, true, false, List, [], ◌∷◌, Option, Some, None, refl, sym, ap, subst, ◌∙◌, arith}
use Rattle.std.specs.Prelude.{not, nat_eq, if◌then◌else◌, map, filter}
use Rattle.std.specs.List.{list_any}
use Rattle.std.specs.Option.{option_map}
use Rattle.std.proofs.lemmas.Bool.Decides.{nat_tests}
use Rattle.augmented_tree.specs.Lists.{AllOf, find_item}
use Rattle.obj_id.specs.declared.works.Extent.{Extent}
use Rattle.use_tree.specs.declared.classes.VictimClass.{VictimClass}
use Rattle.use_tree.specs.declared.classes.VictimClasses.{VictimClasses}
use Rattle.extent_tree.specs.declared.residents.Resident.{Resident}
use Rattle.extent_tree.specs.Residents.{resident_offset, resident_in_classes, AreResidentsRising, goes, extents_staying, remaining, resident_with_classes, classes_at}

-- none goes besides
pub remaining_all : (xs : List Resident) → remaining [] xs ≡ xs
remaining_all [] = refl
remaining_all (x ∷ xs) = ap (λ (zs : List Resident). x ∷ zs) (remaining_all xs)

-- those after an offset are none that begins there
remaining_after : (e : Extent) (gone : List Extent) (xs : List Resident) → AllOf (λ x. e.offset < x.extent.offset) xs → remaining (e ∷ gone) xs ≡ remaining gone xs
remaining_after e gone [] h = refl
remaining_after e gone (x ∷ xs) h =
    let t : nat_eq e.offset x.extent.offset ≡ false = grind (arith, nat_tests, h.0) in
    rw (t, remaining_after e gone xs h.1) refl

module _ (k : VictimClass) (e : Extent) (m : VictimClasses) (marked : goes k m ≡ true) (gone : List Extent) where
  -- whether an extent at an offset goes besides
  abbrev gone_at : ℕ → Bool
  gone_at o = list_any (λ (g : Extent). nat_eq g.offset o) gone

  -- one that is marked as going goes, as if its extent went
  pub staying_marked : (xs : List Resident) → AreResidentsRising xs → extents_staying k (remaining gone (resident_with_classes e.offset m xs)) ≡ extents_staying k (remaining (e ∷ gone) xs)
  staying_marked [] rising = refl
  staying_marked (x ∷ xs) rising = by (staying_marked xs rising.1) (nat_eq e.offset x.extent.offset) refl
    where
      -- the marked one itself
      leaves : (b : Bool) → extents_staying k (if b then resident_in_classes m x ∷ remaining gone xs else remaining gone xs) ≡ extents_staying k (remaining gone xs)
      leaves true = rw marked refl
      leaves false = refl

      by : extents_staying k (remaining gone (resident_with_classes e.offset m xs)) ≡ extents_staying k (remaining (e ∷ gone) xs) → (b : Bool) → nat_eq e.offset x.extent.offset ≡ b
          → extents_staying k (remaining gone (resident_with_classes e.offset m (x ∷ xs))) ≡ extents_staying k (remaining (e ∷ gone) (x ∷ xs))
      by rest true t =
          let same : e.offset ≡ x.extent.offset = grind (arith, nat_tests, t) in
          let others = remaining_after e gone xs (later same) in
          rw t (leaves (not (gone_at x.extent.offset)) ∙ sym (ap (extents_staying k) others))
        where
          later : e.offset ≡ x.extent.offset → AllOf (λ y. e.offset < y.extent.offset) xs
          later same = subst (λ o. AllOf (λ y. o < y.extent.offset) xs) (sym same) rising.0
      by rest false t = rw t (on (not (gone_at x.extent.offset)))
        where
          on : (b : Bool) → map (λ y. y.extent) (filter (λ y. not (goes k y.classes)) (if b then x ∷ remaining gone (resident_with_classes e.offset m xs) else remaining gone (resident_with_classes e.offset m xs)))
              ≡ map (λ y. y.extent) (filter (λ y. not (goes k y.classes)) (if b then x ∷ remaining (e ∷ gone) xs else remaining (e ∷ gone) xs))
          on true = elim (goes k x.classes) as (λ c. map (λ y. y.extent) (if not c then x ∷ filter (λ y. not (goes k y.classes)) (remaining gone (resident_with_classes e.offset m xs)) else filter (λ y. not (goes k y.classes)) (remaining gone (resident_with_classes e.offset m xs)))
              ≡ map (λ y. y.extent) (if not c then x ∷ filter (λ y. not (goes k y.classes)) (remaining (e ∷ gone) xs) else filter (λ y. not (goes k y.classes)) (remaining (e ∷ gone) xs))) [
                | true ↦ rest
                | false ↦ ap (λ es. x.extent ∷ es) rest
              ]
          on false = rest

-- a mark that is taken back leaves all as it was
pub choices_back : (o : ℕ) (m c : VictimClasses) (xs : List Resident) → classes_at o xs ≡ Some c → resident_with_classes o c (resident_with_classes o m xs) ≡ xs
choices_back o m c [] h = absurd cc
choices_back o m c (x ∷ xs) h = by (choices_back o m c xs) (nat_eq o x.extent.offset) refl h
  where
    by : (classes_at o xs ≡ Some c → resident_with_classes o c (resident_with_classes o m xs) ≡ xs) → (b : Bool) → nat_eq o x.extent.offset ≡ b
        → option_map (λ (y : Resident). y.classes) (if b then Some x else find_item resident_offset o xs) ≡ Some c → resident_with_classes o c (resident_with_classes o m (x ∷ xs)) ≡ x ∷ xs
    by rest true t h = rw (t, t) (λ i. record x { classes = some_of (sym h i) } ∷ xs)
      where
        some_of : Option VictimClasses → VictimClasses
        some_of None = c
        some_of (Some d) = d
    by rest false t h = rw (t, t) (ap (λ ys. x ∷ ys) (rest h))

-- nothing is marked where nothing begins
pub choose_none : (o : ℕ) (m : VictimClasses) (xs : List Resident) → classes_at o xs ≡ None → resident_with_classes o m xs ≡ xs
choose_none o m [] h = refl
choose_none o m (x ∷ xs) h = by (choose_none o m xs) (nat_eq o x.extent.offset) refl h
  where
    by : (classes_at o xs ≡ None → resident_with_classes o m xs ≡ xs) → (b : Bool) → nat_eq o x.extent.offset ≡ b
        → option_map (λ (y : Resident). y.classes) (if b then Some x else find_item resident_offset o xs) ≡ None → resident_with_classes o m (x ∷ xs) ≡ x ∷ xs
    by rest true t h = absurd cc
    by rest false t h = rw t (ap (λ ys. x ∷ ys) (rest h))
