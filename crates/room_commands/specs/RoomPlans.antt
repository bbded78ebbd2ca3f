-- What is to be done for room in a row's window.
use Rattle.std.specs.Prelude.{◌≡◌, ℕ, ◌<◌, ◌≤◌, Bool, true, false, if◌then◌else◌, List, [], length, fold, is_some, unwrap_or}
use Rattle.std.specs.List.{list_all}
use Rattle.std.specs.Option.{option_map_or}
use Rattle.obj_id.specs.declared.ids.ObjectId.{ObjectId}
use Rattle.obj_id.specs.declared.refusals.Refusal.TheVariants.{Pending, Full, Busy, DeviceFailed, TooMany}
use Rattle.private_store.specs.rules.Limits.{has_numbers}
use Rattle.private_store.specs.rules.Tables.{at}
use Rattle.private_store.specs.rules.Shape.{Copy, Shape}
use Rattle.private_store.specs.rules.Copies.{is_evictable, is_spillable}
use Rattle.private_store.specs.laws.Invariants.{IsOrderOfUse}
use Rattle.private_store.specs.rules.Room.{Room, Plan, works_left, offset_without, asked, evict_room, no_room, plan}
use Rattle.lru_evictor.specs.declared.facts.Plan.{Plan as Kind}
use Rattle.lru_evictor.specs.declared.facts.Plan.TheVariants as kind
use Rattle.lru_evictor.specs.Plans.{plan_kind_of}
use Rattle.room_commands.specs.declared.room.RoomPlan.{RoomPlan}
use Rattle.room_commands.specs.declared.room.RoomPlan.TheVariants.{Fits, Evict, Ask, TellFailedSpill, Refuse}

-- what a kind of plan is to a job whose works had numbers up to this one, of which a spill failed or not, if the object goes to this
-- offset as it is
abbrev pub by_kind : ℕ → Bool → ℕ → Kind → RoomPlan
by_kind used failed offset kind.Fits = Fits offset
by_kind used failed offset kind.Evict = Evict
by_kind used failed offset kind.Wait = Refuse Pending
by_kind used failed offset kind.Full = Refuse Full
by_kind used failed offset kind.Busy = Refuse Busy
by_kind used failed offset (kind.Spill count) = if failed then TellFailedSpill else (if has_numbers used count then Ask count else Refuse TooMany)

-- and a plan
abbrev pub plan_by : ℕ → Bool → ℕ → Plan → RoomPlan
plan_by used failed offset plan = by_kind used failed offset (plan_kind_of plan)

-- where n bytes go in this store as it is, or 0 if they go nowhere
abbrev pub place_as_it_is : Shape → ℕ → ℕ
place_as_it_is store n = unwrap_or (offset_without store n []) 0

-- what is to be done for room for n bytes in this store
abbrev pub planned_by : List ObjectId → Shape → ℕ → RoomPlan
planned_by order store n = plan_by store.works_asked store.spill_failed (place_as_it_is store n) (plan order store n)

-- whether it is that a refusal is answered, and nothing grows
abbrev pub refuses : RoomPlan → Bool
refuses (Fits offset) = false
refuses Evict = false
refuses (Ask count) = false
refuses TellFailedSpill = true
refuses (Refuse refusal) = true

-- whether it is that there is a place, at once or once copies were evicted
abbrev pub makes_place : RoomPlan → Bool
makes_place (Fits offset) = true
makes_place Evict = true
makes_place _ = false

-- each id has a copy that passes the test
abbrev pub all_pass : Shape → (ObjectId → Copy → Bool) → List ObjectId → Bool
all_pass store test ids = list_all (λ id. option_map_or (test id) (at store.copies id) false) ids

-- the copies go, and then there is a place
pub record MakesPlace (room : Room) (store : Shape) (n : ℕ) (ids : List ObjectId) : Type 0 where
  pub room_is : room ≡ evict_room store n ids
  pub place : is_some (offset_without store n ids) ≡ true
  pub evictable : all_pass store (is_evictable store) ids ≡ true
  pub once : IsOrderOfUse ids

-- the copies' writes are asked for, some and no more than may be, and there is room once they have ended
pub record AsksWrites (room : Room) (store : Shape) (ids : List ObjectId) : Type 0 where
  pub room_is : room ≡ no_room (fold (asked true) store ids) Pending
  pub spillable : all_pass store (is_spillable store) ids ≡ true
  pub once : IsOrderOfUse ids
  pub some : 0 < length ids
  pub few : length ids ≤ works_left store
  pub numbers : has_numbers store.works_asked (length ids) ≡ true

-- what room for n bytes does is what is to be done, with these copies where the plan names some
abbrev pub IsPlanned : Room → Shape → ℕ → RoomPlan → List ObjectId → Type 0
IsPlanned room store n (Fits offset) ids = MakesPlace room store n []
IsPlanned room store n Evict ids = MakesPlace room store n ids
IsPlanned room store n (Ask count) ids = AsksWrites room store ids
IsPlanned room store n TellFailedSpill ids = room ≡ no_room (record store { spill_failed = false }) DeviceFailed
IsPlanned room store n (Refuse refusal) ids = room ≡ no_room store refusal
