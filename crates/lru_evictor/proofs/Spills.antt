-- Copies that are marked, one after another, until there is a gap, and how many those are.
use Rattle.std.proofs.Common.{◌≡◌, ℕ, suc, ◌+◌, Bool, true, false, List, [], ◌∷◌, ◌++◌, Option, Some, None, refl, sym, ap, ◌∙◌, take, arith}
use Rattle.std.specs.Prelude.{if◌then◌else◌}
use Rattle.std.specs.Option.{option_map, option_and_then}
use Rattle.std.specs.List.{cons_option}
use Rattle.obj_id.specs.declared.ids.ObjectId.{ObjectId}
use Rattle.obj_id.specs.declared.works.Extent.{Extent}
use Rattle.private_store.specs.rules.Room.{shortest_from, shortest}
use Rattle.use_tree.specs.declared.classes.VictimClass.TheVariants.{Draining}
use Rattle.use_tree.specs.declared.classes.VictimClasses.{VictimClasses}
use Rattle.extent_tree.specs.declared.residents.Resident.{Resident}
use Rattle.extent_tree.specs.Residents.{AreResidentsRising, classes_at, extents_staying, remaining, span_of, has_gap}
use Rattle.extent_tree.proofs.ForCallers.{remaining_all, staying_marked, choices_back, choose_none}
use Rattle.lru_evictor.specs.declared.spilling.Gap.{Gap}
use Rattle.lru_evictor.specs.Facts.{Looked, extent_at, gone_of}
use Rattle.lru_evictor.specs.Spilling.{leaves_gap, passes_now, marked_draining, unmarked}

-- ---- a mark

-- one that is marked goes
pub goes-marked : (gap : Gap) (facts : Looked) (residents : List Resident) → AreResidentsRising residents → (id : ObjectId) (out : List ObjectId)
    → leaves_gap gap facts (marked_draining (extent_at facts id) residents) out ≡ leaves_gap gap facts residents (id ∷ out)
goes-marked gap facts residents rising id out = by (extent_at facts id)
  where
    by : (o : Option Extent) → has_gap gap.quota gap.need (span_of (extents_staying Draining (remaining (gone_of facts out) (marked_draining o residents))))
        ≡ has_gap gap.quota gap.need (span_of (extents_staying Draining (remaining (cons_option o (gone_of facts out)) residents)))
    by None = refl
    by (Some e) = ap (λ es. has_gap gap.quota gap.need (span_of es)) (staying_marked Draining e passes_now refl (gone_of facts out) residents rising)

-- with none marked it is as the tree tells
pub none-marked : (gap : Gap) (facts : Looked) (residents : List Resident) → has_gap gap.quota gap.need (span_of (extents_staying Draining residents)) ≡ leaves_gap gap facts residents []
none-marked gap facts residents = ap (λ xs. has_gap gap.quota gap.need (span_of (extents_staying Draining xs))) (sym (remaining_all residents))

-- a mark that is taken back leaves all as it was
pub marked-back : (extent : Option Extent) (before : Option VictimClasses) (residents : List Resident) → before ≡ option_and_then (λ e. classes_at e.offset residents) extent
    → unmarked extent before (marked_draining extent residents) ≡ residents
marked-back None before residents is = refl
marked-back (Some e) None residents is = choose_none e.offset passes_now residents (sym is)
marked-back (Some e) (Some classes) residents is = choices_back e.offset passes_now classes residents (sym is)

-- ---- the shortest beginning, from its first on

module _ {X : Type 0} where
  from-front : (test : List X → Bool) (x : X) (taken xs : List X) → shortest_from test (x ∷ taken) xs ≡ option_map (λ ys. x ∷ ys) (shortest_from (λ ys. test (x ∷ ys)) taken xs)
  from-front test x taken [] = elim (test (x ∷ taken)) as (λ b. (if b then Some (x ∷ taken) else None) ≡ option_map (λ ys. x ∷ ys) (if b then Some taken else None)) [ true ↦ refl | false ↦ refl ]
  from-front test x taken (y ∷ ys) =
      elim (test (x ∷ taken)) as (λ b. elim b as (λ _. Option (List X)) [ true ↦ Some (x ∷ taken) | false ↦ shortest_from test (x ∷ (taken ++ y ∷ [])) ys ]
      ≡ option_map (λ zs. x ∷ zs) (elim b as (λ _. Option (List X)) [ true ↦ Some taken | false ↦ shortest_from (λ zs. test (x ∷ zs)) (taken ++ y ∷ []) ys ])) [
        | true ↦ refl
        | false ↦ from-front test x (taken ++ y ∷ []) ys
      ]

  pub shortest-next : (test : List X → Bool) (x : X) (xs : List X) → test [] ≡ false → shortest test (x ∷ xs) ≡ option_map (λ ys. x ∷ ys) (shortest (λ ys. test (x ∷ ys)) xs)
  shortest-next test x xs bad =
      ap (λ b. elim b as (λ _. Option (List X)) [ true ↦ Some [] | false ↦ shortest_from test (x ∷ []) xs ]) bad ∙ from-front test x [] xs

  pub shortest-nothing : (test : List X → Bool) (xs : List X) → xs ≡ [] → test [] ≡ false → None ≡ shortest test xs
  shortest-nothing test xs none bad = sym (ap (shortest test) none ∙ ap (λ b. if b then Some [] else None) bad)

  -- one more than of the rest
  pub count-next : (test other : List X → Bool) (xs rest : List X) (x : X) → xs ≡ x ∷ rest → test [] ≡ false → ((ys : List X) → other ys ≡ test (x ∷ ys))
      → (n : Option ℕ) → option_map (λ k. take k rest) n ≡ shortest other rest → option_map (λ k. take (k + 1) xs) n ≡ shortest test xs
  count-next test other xs rest x is bad same n counted =
      ap (λ ys. option_map (λ k. take (k + 1) ys) n) is
      ∙ one n
      ∙ ap (option_map (λ ys. x ∷ ys)) (counted ∙ (λ i. shortest (λ ys. same ys i) rest))
      ∙ sym (shortest-next test x rest bad)
      ∙ ap (shortest test) (sym is)
    where
      one : (n : Option ℕ) → option_map (λ k. take (k + 1) (x ∷ rest)) n ≡ option_map (λ ys. x ∷ ys) (option_map (λ k. take k rest) n)
      one None = refl
      one (Some k) = let t : k + 1 ≡ suc k = omega arith in ap (λ j. Some (take j (x ∷ rest))) t
