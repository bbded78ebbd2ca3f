-- The plan for room, as the private store says it.
use Rattle.std.specs.Prelude.{ℕ, Bool, List, [], ◌∷◌, Some, None}
use Rattle.obj_id.specs.declared.ids.ObjectId.{ObjectId}
use Rattle.private_store.specs.rules.Shape.{Copy, Shape}
use Rattle.private_store.specs.rules.Copies.{is_evictable, is_draining, is_spillable}
use Rattle.private_store.specs.rules.Room.{Plan as RoomPlan, fits, evict, wait, full, busy, spill, spill_plan, spilled}
use Rattle.plain_store.specs.declared.planning.Choice.{Choice}
use Rattle.plain_store.specs.declared.planning.Choice.TheVariants.{Evictable, Passing, Spillable}
use Rattle.plain_store.specs.declared.planning.Plan.{Plan}
use Rattle.plain_store.specs.declared.planning.Plan.TheVariants.{Fits, Evict, Wait, Full, Busy, Spill}

abbrev pub chosen_by : Choice → Shape → ObjectId → Copy → Bool
chosen_by Evictable = is_evictable
chosen_by Passing = is_draining
chosen_by Spillable = is_spillable

abbrev pub shown_plan : Plan → RoomPlan
shown_plan Fits = fits
shown_plan (Evict ids) = evict ids.items
shown_plan Wait = wait
shown_plan Full = full
shown_plan Busy = busy
shown_plan (Spill ids) = spill ids.items

abbrev pub evict_plan : List ObjectId → RoomPlan
evict_plan [] = fits
evict_plan (id ∷ ids) = evict (id ∷ ids)

abbrev pub spill_or_wait : Shape → List ObjectId → RoomPlan
spill_or_wait store [] = wait
spill_or_wait store (id ∷ ids) = spill_plan store (id ∷ ids)

-- the plan if evicting won't do
abbrev pub works_plan : List ObjectId → Shape → ℕ → RoomPlan
works_plan order store n = elim (spilled order store n) [
  | Some [] ↦ wait
  | Some (id ∷ ids) ↦ spill_plan store (id ∷ ids)
  | None ↦ full
]
