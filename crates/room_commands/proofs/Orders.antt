-- An order of use after one of its copies was used.
use Rattle.std.proofs.Common.{◌≡◌, Bool, true, false, not, ◌||◌, List, [], ◌∷◌, is_some, refl, sym, ap, ◌∙◌}
use Rattle.std.specs.Prelude.{if◌then◌else◌}
use Rattle.std.specs.List.{list_any}
use Rattle.std.proofs.lemmas.List.Folds.{list_all-append, list_any-append}
use Rattle.obj_id.specs.declared.ids.ObjectId.{ObjectId}
use Rattle.obj_id.specs.Ids.{same_id}
use Rattle.store_facts.proofs.Ids.{same_id-equal, same_id-itself, same_id-not_back}
use Rattle.private_store.specs.rules.Tables.{ById, at, is_among}
use Rattle.private_store.specs.rules.Shape.{Copy}
use Rattle.store_facts.proofs.KeptLists.{all-filter, any-filter}
use Rattle.store_facts.proofs.Tests.{true_false, both}
use Rattle.lru_evictor.specs.Orders.{AreThere, without_id, last_used, touched}

-- what was used was there
pub touched-listed : (id : ObjectId) (order : List ObjectId) → is_among order id ≡ true → touched id order ≡ last_used id order
touched-listed id order h = ap (λ b. if b then last_used id order else order) h

-- the order with the id last has all that have copies
pub there_last : (es : ById Copy) (id : ObjectId) (order : List ObjectId) → AreThere es order → is_some (at es id) ≡ true → AreThere es (last_used id order)
there_last es id order h is =
    list_all-append (λ q. is_some (at es q)) (without_id id order) (id ∷ [])
    ∙ both _ _ (all-filter (λ q. is_some (at es q)) (λ x. not (same_id id x)) order h) (both (is_some (at es id)) true is refl)

or_left : (a b : Bool) → a ≡ true → a || b ≡ true
or_left true b e = refl
or_left false b e = true_false e

or_right : (a b : Bool) → b ≡ true → a || b ≡ true
or_right true b e = refl
or_right false b e = e

-- and all that were in it
pub listed_last : (id q : ObjectId) (order : List ObjectId) → is_among order q ≡ true → is_among (last_used id order) q ≡ true
listed_last id q order h = list_any-append (same_id q) (without_id id order) (id ∷ []) ∙ by (same_id q id) refl
  where
    by : (b : Bool) → same_id q id ≡ b → list_any (same_id q) (without_id id order) || (b || false) ≡ true
    by true e = or_right (list_any (same_id q) (without_id id order)) true refl
    by false e = or_left _ false (any-filter (same_id q) (λ x. not (same_id id x)) order (λ x t. ap (λ y. not (same_id id y)) (sym (same_id-equal q x t)) ∙ ap not (same_id-not_back q id e)) ∙ h)

-- and the id
pub last_listed : (id : ObjectId) (order : List ObjectId) → is_among (last_used id order) id ≡ true
last_listed id order =
    list_any-append (same_id id) (without_id id order) (id ∷ [])
    ∙ or_right (list_any (same_id id) (without_id id order)) _ (or_left (same_id id id) false (same_id-itself id))
