-- A plan for room that is no refusal gives a place, or asks for writes.
use Rattle.std.proofs.Common.{◌≡◌, ◌⊎◌, ℕ, ◌+◌, ◌<◌, Bool, true, false, cond, inl, inr, List, [], ◌∷◌, fold, length, Option, Some, None, is_some, Ok, Err, refl, ap, ◌∙◌, arith}
use Rattle.std.specs.Prelude.{nat_lt}
use Rattle.std.specs.Option.{option_map_or}
use Rattle.std.proofs.lemmas.Bool.Decides.{nat_tests}
use Rattle.obj_id.specs.declared.ids.ObjectId.{ObjectId}
use Rattle.obj_id.specs.declared.commands.CopyState.TheVariants.{Away}
use Rattle.obj_id.specs.declared.refusals.Refusal.TheVariants.{Full, Pending}
use Rattle.obj_id.specs.Kinds.{is_primary}
use Rattle.private_store.specs.rules.Tables.{at}
use Rattle.private_store.specs.rules.Shape.{Copy, Shape}
use Rattle.private_store.specs.rules.Contents.{Contents}
use Rattle.private_store.specs.rules.Room.{Room, make_room, set_copy, drop_copy, evicted, offset_without, plan}
use Rattle.store_facts.proofs.Tests.{true_false, false_true}
use Rattle.lru_evictor.specs.Plans.{listed}
use Rattle.room_commands.specs.RoomPlans.{IsPlanned, MakesPlace, AsksWrites, planned_by, refuses, makes_place}
use Rattle.job_row.specs.Row.{Row}
use Rattle.row_steps.specs.Shown.{IsShown}
use Rattle.room_commands.specs.declared.room.RoomPlan.{RoomPlan}
use Rattle.room_commands.specs.declared.room.RoomPlan.TheVariants.{Fits, Evict, Ask, TellFailedSpill, Refuse}
use Rattle.room_commands.proofs.Asking.{all_asked}
use Rattle.room_commands.proofs.Planning.{planned}
use Rattle.row_steps.specs.Beside.{SharedTables, shape_of}

-- there is a place by this plan, and no work was asked for
pub record HasPlace (store : Shape) (room : Room) (p : RoomPlan) : Type 0 where
  pub offset : ℕ
  pub is : room.offset ≡ Ok offset
  pub same : room.shape.works_asked ≡ store.works_asked
  pub by_plan : makes_place p ≡ true

-- there is none yet, and works were asked for
pub record HasAskedWrites (store : Shape) (room : Room) : Type 0 where
  pub is : room.offset ≡ Err Pending
  pub more : nat_lt store.works_asked room.shape.works_asked ≡ true

-- an eviction asks for nothing
evicts_only : (ids : List ObjectId) (store : Shape) → (fold evicted store ids).works_asked ≡ store.works_asked
evicts_only [] store = refl
evicts_only (id ∷ ids) store = evicts_only ids (evicted store id) ∙ one (at store.copies id)
  where
    one : (o : Option Copy) → (option_map_or (λ (copy : Copy). cond (is_primary copy.kind) (set_copy store id (record copy { state = Away; offset = None })) (drop_copy store id)) o store).works_asked ≡ store.works_asked
    one None = refl
    one (Some copy) = by (is_primary copy.kind)
      where
        by : (b : Bool) → (cond b (set_copy store id (record copy { state = Away; offset = None })) (drop_copy store id)).works_asked ≡ store.works_asked
        by true = refl
        by false = refl

module _ (store : Shape) (n : ℕ) (room : Room) where
  has_place : (p : RoomPlan) → makes_place p ≡ true → (ids : List ObjectId) → MakesPlace room store n ids → HasPlace store room p
  has_place p by_plan ids makes = by (offset_without store n ids) refl makes.place
    where
      by : (o : Option ℕ) → offset_without store n ids ≡ o → is_some o ≡ true → HasPlace store room p
      by None e some = true_false some
      by (Some offset) e some = record {
        offset = offset;
        is = ap (λ (r : Room). r.offset) makes.room_is ∙ ap (λ o. option_map_or Ok o (Err Full)) e;
        same = ap (λ (r : Room). r.shape.works_asked) makes.room_is ∙ evicts_only ids store;
        by_plan = by_plan;
      }

  has_asked : (ids : List ObjectId) → AsksWrites room store ids → HasAskedWrites store room
  has_asked ids asks = record {
    is = ap (λ (r : Room). r.offset) asks.room_is;
    more = later store.works_asked room.shape.works_asked (length ids) (ap (λ (r : Room). r.shape.works_asked) asks.room_is ∙ ap (λ (t : Shape). t.works_asked) (all_asked ids store)) asks.some;
  }
    where
      later : (before after more : ℕ) → after ≡ before + more → 0 < more → nat_lt before after ≡ true
      later before after more is some = grind (arith, nat_tests, is, some)

  grows : (p : RoomPlan) (ids : List ObjectId) → IsPlanned room store n p ids → refuses p ≡ false → HasPlace store room p ⊎ HasAskedWrites store room
  grows (Fits offset) ids is may = inl (has_place (Fits offset) refl [] is)
  grows Evict ids is may = inl (has_place Evict refl ids is)
  grows (Ask count) ids is may = inr (has_asked ids is)
  grows TellFailedSpill ids is may = false_true may
  grows (Refuse refusal) ids is may = false_true may

-- where there is a place nothing is refused
pub placed_unrefused : (p : RoomPlan) → makes_place p ≡ true → refuses p ≡ false
placed_unrefused (Fits offset) t = refl
placed_unrefused Evict t = refl
placed_unrefused (Ask count) t = true_false t
placed_unrefused TellFailedSpill t = true_false t
placed_unrefused (Refuse refusal) t = true_false t

-- of a row's own plan
pub room_grows : (row : Row) (beside : SharedTables) (contents : Contents) → IsShown row beside contents → (n : ℕ) → refuses (planned_by row.order (shape_of row beside) n) ≡ false
    → HasPlace (shape_of row beside) (make_room row.order (shape_of row beside) n) (planned_by row.order (shape_of row beside) n) ⊎ HasAskedWrites (shape_of row beside) (make_room row.order (shape_of row beside) n)
room_grows row beside contents h n =
    grows (shape_of row beside) n (make_room row.order (shape_of row beside) n) (planned_by row.order (shape_of row beside) n) (listed (plan row.order (shape_of row beside) n)) (planned row beside contents h n)

-- the place that a plan finds, with the copies that go
pub place_planned_by : (row : Row) (beside : SharedTables) (contents : Contents) → IsShown row beside contents → (n : ℕ) → makes_place (planned_by row.order (shape_of row beside) n) ≡ true
    → (victims : List ObjectId) × MakesPlace (make_room row.order (shape_of row beside) n) (shape_of row beside) n victims
place_planned_by row beside contents h n = by (planned_by row.order (shape_of row beside) n) (planned row beside contents h n)
  where
    s : Shape
    s = shape_of row beside

    by : (p : RoomPlan) → IsPlanned (make_room row.order s n) s n p (listed (plan row.order s n)) → makes_place p ≡ true → (victims : List ObjectId) × MakesPlace (make_room row.order s n) s n victims
    by (Fits offset) is t = ([], is)
    by Evict is t = (listed (plan row.order s n), is)
    by (Ask count) is t = true_false t
    by TellFailedSpill is t = true_false t
    by (Refuse refusal) is t = true_false t
