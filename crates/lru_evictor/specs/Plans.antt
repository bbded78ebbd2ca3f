-- The plan for room, and the stores that a caller's window, device and copies describe.
use Rattle.std.specs.Prelude.{◌≡◌, ◌↔◌, ℕ, ◌+◌, ◌-◌, ◌==◌, nat_lt, true, if◌then◌else◌, IsTrue, List, [], ◌∷◌, length, take, filter_map, Contains, Option, Some, None, is_some}
use Rattle.std.specs.Option.{option_map}
use Rattle.std.specs.FinMap.{is_sorted}
use Rattle.obj_id.specs.declared.ids.ObjectId.{ObjectId}
use Rattle.obj_id.specs.declared.works.Extent.{Extent}
use Rattle.obj_id.specs.Ids.{id_cmp}
use Rattle.private_store.specs.rules.Limits.{most_works}
use Rattle.private_store.specs.rules.Tables.{at, is_among}
use Rattle.private_store.specs.rules.Extents.{rounded}
use Rattle.private_store.specs.rules.Shape.{Copy, Shape}
use Rattle.private_store.specs.rules.Copies.{extent_of, is_evictable, is_draining, is_spillable, device_used}
use Rattle.private_store.specs.rules.Room.{Plan, fits, wait, full, busy, evict, spill}
use Rattle.job_region.specs.Region.{Region, extents_of}
use Rattle.lru_evictor.specs.declared.facts.CopyFacts.{CopyFacts}
use Rattle.lru_evictor.specs.declared.facts.DeviceRoom.{DeviceRoom}
use Rattle.lru_evictor.specs.declared.facts.Plan.{Plan as Found}
use Rattle.lru_evictor.specs.declared.facts.Plan.TheVariants as found
use Rattle.lru_evictor.specs.declared.facts.EvictionInfo.{EvictionInfo}
use Rattle.lru_evictor.specs.Facts.{Looked, info_at, spilled_bytes}
use Rattle.lru_evictor.specs.Orders.{order_ids, AllPass, same_info}

-- which kind of plan the rule of room has
abbrev pub plan_kind_of : Plan → Found
plan_kind_of fits = found.Fits
plan_kind_of (evict ids) = found.Evict
plan_kind_of wait = found.Wait
plan_kind_of full = found.Full
plan_kind_of busy = found.Busy
plan_kind_of (spill ids) = found.Spill (length ids)

-- the copies that a plan names
abbrev pub listed : Plan → List ObjectId
listed (evict ids) = ids
listed (spill ids) = ids
listed _ = []

-- what a plan reads of a store's copy
abbrev pub facts_of : Shape → ObjectId → Copy → CopyFacts
facts_of store id copy =
    record {
      extent = extent_of copy;
      bytes = rounded copy.length;
      evictable = is_evictable store id copy;
      draining = is_draining store id copy;
      spillable = is_spillable store id copy;
    }

-- the extents of a store's resident copies
abbrev pub extents_in : Shape → List Extent
extents_in store = filter_map (λ e. extent_of e.1) store.copies

-- a window, the device and the facts of copies are those of this store
pub record IsDescribed (store : Shape) (window : Region) (device : DeviceRoom) (facts : Looked) : Type 0 where
  pub by_id : IsTrue (is_sorted id_cmp store.copies)
  pub looked : (id : ObjectId) → facts id ≡ option_map (facts_of store id) (at store.copies id)
  -- the window's extents are those of the resident copies, no two of which begin at one offset
  pub extents : (e : Extent) → Contains (extents_of window.placed) e ↔ Contains (extents_in store) e
  pub offsets : (a b : ObjectId) (x y : Copy) (o : ℕ) → at store.copies a ≡ Some x → at store.copies b ≡ Some y
      → x.offset ≡ Some o → y.offset ≡ Some o → a ≡ b
  pub quota : window.quota ≡ store.quota.window
  pub device_quota : device.quota ≡ store.quota.device
  pub used : device.used ≡ device_used store
  pub works : device.works ≡ length store.works

-- an order has each copy that there is, with its eviction info
pub record IsOfCopies (order : List (ObjectId × EvictionInfo)) (facts : Looked) : Type 0 where
  pub infos : AllPass (λ id s. same_info s (info_at facts id)) order
  pub listed : (id : ObjectId) → is_some (facts id) ≡ true → is_among (order_ids order) id ≡ true

-- the plan that evicts these copies, if there are any
abbrev pub evict_here : List ObjectId → Plan
evict_here [] = fits
evict_here (id ∷ ids) = evict (id ∷ ids)

-- the plan that spills these copies, if there are any
abbrev pub spill_here : DeviceRoom → Looked → List ObjectId → Plan
spill_here device facts [] = wait
spill_here device facts (id ∷ ids) =
    if nat_lt device.quota (device.used + spilled_bytes facts (id ∷ ids)) then full else
    (if most_works - device.works == 0 then busy else spill (take (most_works - device.works) (id ∷ ids)))

-- the plan that spills what is to be spilled, if that is known
abbrev pub spills_here : DeviceRoom → Looked → Option (List ObjectId) → Plan
spills_here device facts None = full
spills_here device facts (Some ids) = spill_here device facts ids
