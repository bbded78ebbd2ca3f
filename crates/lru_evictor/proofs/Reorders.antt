-- An order of use after a step that used one copy, removed one, or did neither.
use Rattle.std.proofs.Common.{◌≡◌, Bool, true, false, not, ◌&&◌, List, [], ◌∷◌, ◌++◌, filter, Option, Some, None, refl, sym, ap, ◌∙◌, cond, is_some}
use Rattle.std.specs.List.{list_all}
use Rattle.obj_id.specs.declared.ids.ObjectId.{ObjectId}
use Rattle.obj_id.specs.Ids.{id_cmp, same_id}
use Rattle.store_facts.proofs.Ids.{id_cmp-IsAntisymmetric}
use Rattle.std.specs.FinMap.Entries.{find-where_key}
use Rattle.private_store.specs.rules.Tables.{ById, at, without_entry}
use Rattle.private_store.specs.rules.Shape.{Copy}
use Rattle.private_store.specs.rules.Step.{is_used, reordered}
use Rattle.lru_evictor.specs.Orders.{without_id, last_used, AreThere}
use Rattle.lru_evictor.proofs.Truths.{each}

-- what is kept of an order whose ids have copies
kept : (copies : ById Copy) (used : Option ObjectId) (order : List ObjectId) → AreThere copies order → filter (λ x. not (is_used used x)) order ≡ filter (λ x. is_some (at copies x) && not (is_used used x)) order
kept copies used [] h = refl
kept copies used (x ∷ xs) h =
    let here = each (is_some (at copies x)) (list_all (λ y. is_some (at copies y)) xs) h in
    ap (λ ys. cond (not (is_used used x)) (x ∷ ys) ys) (kept copies used xs here.1)
    ∙ ap (λ b. cond (b && not (is_used used x)) (x ∷ filter (λ y. is_some (at copies y) && not (is_used used y)) xs) (filter (λ y. is_some (at copies y) && not (is_used used y)) xs)) (sym here.0)

pub reordered-used : (order : List ObjectId) (copies : ById Copy) (id : ObjectId) → AreThere copies order → last_used id order ≡ reordered order copies (Some id)
reordered-used order copies id h = ap (λ ys. ys ++ id ∷ []) (kept copies (Some id) order h)

append_nil : {Y : Type 0} (ys : List Y) → ys ++ [] ≡ ys
append_nil [] = refl
append_nil (y ∷ ys) = ap (λ zs. y ∷ zs) (append_nil ys)

pub reordered-unused : (order : List ObjectId) (copies : ById Copy) → AreThere copies order → order ≡ reordered order copies None
reordered-unused order copies h =
    sym (all order) ∙ kept copies None order h ∙ sym (append_nil (filter (λ x. is_some (at copies x) && true) order))
  where
    all : (ids : List ObjectId) → filter (λ x. true) ids ≡ ids
    all [] = refl
    all (x ∷ xs) = ap (λ ys. x ∷ ys) (all xs)

module _ (copies : ById Copy) (id : ObjectId) where
  at-removed : (x : ObjectId) → at (without_entry copies id) x ≡ cond (not (same_id id x)) (at copies x) None
  at-removed x = find-where_key id_cmp (λ y. not (same_id id y)) x (λ y t. ap (λ z. not (same_id id z)) (sym (id_cmp-IsAntisymmetric x y t))) copies

  there : (x : ObjectId) (b : Bool) → is_some (at copies x) ≡ true → is_some (cond b (at copies x) None) && true ≡ b
  there x true h = ap (λ b. b && true) h
  there x false h = refl

  removed : (order : List ObjectId) → AreThere copies order → filter (λ x. is_some (at (without_entry copies id) x) && true) order ≡ without_id id order
  removed [] h = refl
  removed (x ∷ xs) h =
      let here = each (is_some (at copies x)) (list_all (λ y. is_some (at copies y)) xs) h in
      let test = ap (λ o. is_some o && true) (at-removed x) ∙ there x (not (same_id id x)) here.0 in
      λ i. cond (test i) (x ∷ removed xs here.1 i) (removed xs here.1 i)

  pub reordered-removed : (order : List ObjectId) → AreThere copies order → without_id id order ≡ reordered order (without_entry copies id) None
  reordered-removed order h = sym (append_nil (filter (λ x. is_some (at (without_entry copies id) x) && true) order) ∙ removed order h)
