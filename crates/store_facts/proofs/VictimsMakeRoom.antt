-- What a plan evicts makes room.
use Rattle.std.proofs.Common.{◌≡◌, ℕ, Bool, true, false, cond, List, [], ◌∷◌, ◌++◌, Some, None, is_some, refl, sym, ap, ◌∙◌}
use Rattle.obj_id.specs.declared.ids.ObjectId.{ObjectId}
use Rattle.private_store.specs.rules.Shape.{Shape}
use Rattle.private_store.specs.rules.Room.{shortest_from, victims, offset_without}
use Rattle.store_facts.proofs.Tests.{some_value}

-- the shortest beginning passes the test
shortest_passes : {X : Type 0} (test : List X → Bool) (taken xs ys : List X) → shortest_from test taken xs ≡ Some ys → test ys ≡ true
shortest_passes test taken [] ys =
    elim (test taken) as (λ b. test taken ≡ b → cond b (Some taken) None ≡ Some ys → test ys ≡ true) [
      | true ↦ λ t e. ap test (sym (some_value taken ys e)) ∙ t
      | false ↦ λ t e. cc
    ] refl
shortest_passes test taken (x ∷ xs) ys =
    elim (test taken) as (λ b. test taken ≡ b → elim b [ true ↦ Some taken | false ↦ shortest_from test (taken ++ x ∷ []) xs ] ≡ Some ys → test ys ≡ true) [
      | true ↦ λ t e. ap test (sym (some_value taken ys e)) ∙ t
      | false ↦ λ t e. shortest_passes test (taken ++ x ∷ []) xs ys e
    ] refl

-- what is evicted by the plan makes room
pub victims_make_room : (order : List ObjectId) (store : Shape) (n : ℕ) (ids : List ObjectId) → victims order store n ≡ Some ids → is_some (offset_without store n ids) ≡ true
victims_make_room order store n ids e = shortest_passes (λ out. is_some (offset_without store n out)) [] _ ids e
