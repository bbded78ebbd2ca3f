-- Each work in flight of a kept store has a copy.
use Rattle.std.proofs.Common.{◌≡◌, true, false, List, [], ◌∷◌, Option, Some, None, is_some, refl, sym, ◌∙◌}
use Rattle.std.specs.Prelude.{IsTrue}
use Rattle.std.specs.List.{list_all}
use Rattle.obj_id.specs.declared.ids.ObjectId.{ObjectId}
use Rattle.obj_id.specs.Ids.{same_id}
use Rattle.private_store.specs.rules.Tables.{ById, at}
use Rattle.private_store.specs.rules.Shape.{Copy, Shape, WorkInFlight}
use Rattle.private_store.specs.laws.Invariants.{IsShapeKept, has_work}
use Rattle.store_facts.proofs.Tests.{both, false_true, or_false_left, or_false_right}
use Rattle.store_facts.proofs.Ids.{same_id-itself}

copy_of : (o : Option Copy) → (o ≡ None → true ≡ false) → is_some o ≡ true
copy_of None k = false_true (k refl)
copy_of (Some copy) k = refl

works_among : (copies : ById Copy) (works : List WorkInFlight) → ((id : ObjectId) → at copies id ≡ None → has_work works id ≡ false) → list_all (λ work. is_some (at copies work.id)) works ≡ true
works_among copies [] h = refl
works_among copies (w ∷ works) h =
    both _ _ (copy_of (at copies w.id) (λ e. sym (same_id-itself w.id) ∙ or_false_left (same_id w.id w.id) (has_work works w.id) (h w.id e)))
    (works_among copies works (λ id e. or_false_right (same_id id w.id) (has_work works id) (h id e)))

pub works_have_copies : (store : Shape) → IsShapeKept store → IsTrue (list_all (λ work. is_some (at store.copies work.id)) store.works)
works_have_copies store h = works_among store.copies store.works h.works_of_copies
