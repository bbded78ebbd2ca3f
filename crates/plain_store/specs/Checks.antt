-- The checks of a restore, in their order, and what it and a hold leave of a store.
use Rattle.std.specs.Prelude.{ℕ, ◌+◌, Bool, not, List, [], ◌∷◌, is_ok, ◌&&◌, ◌==◌}
use Rattle.obj_id.specs.declared.ids.ObjectId.{ObjectId}
use Rattle.obj_id.specs.declared.refusals.Refusal.{Refusal}
use Rattle.obj_id.specs.declared.refusals.Refusal.TheVariants.{TooMany, Busy}
use Rattle.private_store.specs.rules.Tables.{at}
use Rattle.private_store.specs.rules.Shape.{Shape}
use Rattle.private_store.specs.rules.Limits.{has_numbers}
use Rattle.private_store.specs.rules.Marks.{marked}
use Rattle.private_store.specs.rules.Marks as mark
use Rattle.private_store.specs.rules.Room.{make_room, works_left, set_copy}
use Rattle.std.specs.Option.{option_map_or}
use Rattle.private_store.specs.rules.Commands.{restoring, holds_of}

abbrev pub restore_checks : List ObjectId → Shape → ℕ → List (Bool × Refusal)
restore_checks order store n = (works_left store == 0, Busy) ∷ (is_ok (make_room order store n).offset && not (has_numbers store.works_asked 1), TooMany) ∷ []

-- the copy of the id, if there is one, is restored at the offset
abbrev pub restored : Shape → ObjectId → ℕ → Shape
restored store id offset = option_map_or (λ copy. (restoring id copy store offset).shape) (at store.copies id) store

-- the session has one more hold on the copy of the id, if there is one
abbrev pub held_more : Shape → ObjectId → ℕ → Shape
held_more store id session = option_map_or (λ copy. set_copy store id (marked (mark.held session (holds_of copy session + 1)) copy)) (at store.copies id) store
