-- What a plan reads of the copies, and what it makes of that.
use Rattle.std.specs.Prelude.{ℕ, Bool, false, List, map, filter, filter_map, sum, Option, None, is_some}
use Rattle.std.specs.Option.{option_map_or, option_and_then}
use Rattle.obj_id.specs.declared.ids.ObjectId.{ObjectId}
use Rattle.obj_id.specs.declared.works.Extent.{Extent}
use Rattle.private_store.specs.rules.Extents.{first}
use Rattle.job_region.specs.Region.{Region, extents_of, without}
use Rattle.lru_evictor.specs.declared.facts.CopyFacts.{CopyFacts}
use Rattle.lru_evictor.specs.declared.facts.EvictionInfo.{EvictionInfo}
use Rattle.use_tree.specs.declared.classes.VictimClass.{VictimClass}
use Rattle.use_tree.specs.declared.classes.VictimClass.TheVariants.{Evictable, Draining, Spillable}
use Rattle.use_tree.specs.declared.classes.VictimClasses.{VictimClasses}

-- the facts of each id that has a copy
abbrev pub Looked : Type 0
Looked = ObjectId → Option CopyFacts

abbrev pub passes : VictimClass → CopyFacts → Bool
passes Evictable copy = copy.evictable
passes Draining copy = copy.draining
passes Spillable copy = copy.spillable

abbrev pub passes_at : Looked → VictimClass → ObjectId → Bool
passes_at facts class id = option_map_or (passes class) (facts id) false

-- the classes of victims that a copy is in
abbrev pub classes_of : CopyFacts → VictimClasses
classes_of copy = record { evictable = copy.evictable; draining = copy.draining; spillable = copy.spillable }

-- where a copy lies, and the classes of victims that it is in
abbrev pub info_of : CopyFacts → EvictionInfo
info_of copy = record { extent = copy.extent; classes = classes_of copy }

-- where a copy lies that isn't resident and is in no class of victims
abbrev pub nowhere : EvictionInfo
nowhere = record { extent = None; classes = record { evictable = false; draining = false; spillable = false } }

-- that of the copy of an id
abbrev pub info_at : Looked → ObjectId → EvictionInfo
info_at facts id = option_map_or info_of (facts id) nowhere

-- the ids of an order that are chosen
abbrev pub chosen : Looked → VictimClass → List ObjectId → List ObjectId
chosen facts class order = filter (passes_at facts class) order

-- where the copy of an id lies
abbrev pub extent_at : Looked → ObjectId → Option Extent
extent_at facts id = option_and_then (λ copy. copy.extent) (facts id)

-- the extents that go with copies
abbrev pub gone_of : Looked → List ObjectId → List Extent
gone_of facts out = filter_map (extent_at facts) out

-- whether n bytes would fit if these copies were not there
abbrev pub fits_without : Region → Looked → ℕ → List ObjectId → Bool
fits_without window facts n out = is_some (first (extents_of (without (gone_of facts out) window.placed)) window.quota n)

-- the device bytes that spilling a copy takes
abbrev pub device_bytes_at : Looked → ObjectId → ℕ
device_bytes_at facts id = option_map_or (λ copy. copy.bytes) (facts id) 0

-- those that spilling these copies takes
abbrev pub spilled_bytes : Looked → List ObjectId → ℕ
spilled_bytes facts ids = sum (map (device_bytes_at facts) ids)
