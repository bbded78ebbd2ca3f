-- The row of one job at a node: what it keeps, and where its copies lie.
use Rattle.std.specs.Prelude.{◌≡◌, ℕ, Bool, false, List, [], map, Contains, Option, Some}
use Rattle.std.specs.Option.{option_and_then}
use Rattle.obj_id.specs.declared.ids.TaskNo.{TaskNo}
use Rattle.obj_id.specs.declared.ids.ObjectId.{ObjectId}
use Rattle.obj_id.specs.declared.works.Extent.{Extent}
use Rattle.obj_id.specs.declared.works.Quota.{Quota}
use Rattle.private_store.specs.rules.Tables.{ById, at}
use Rattle.private_store.specs.rules.Shape.{Copy}
use Rattle.private_store.specs.rules.Copies.{extent_of}
use Rattle.job_region.specs.Region.{Region, extents_of, IsAt}
use Rattle.row_copy.specs.CopyViews.{CopyView}

pub record Row : Type 0 where
  pub job : ℕ
  pub window : Region
  -- the bytes that it may have on the device
  pub device : ℕ
  pub copies : ById CopyView
  -- least recently used first
  pub order : List ObjectId
  -- the last number that a fetch had
  pub fetches_begun : ℕ
  -- whether a spill failed since room was last refused for it
  pub spill_failed : Bool
  -- in the order in which they ended
  pub ended_tasks : List TaskNo

-- of a job that was admitted now
abbrev pub new_row : ℕ → Quota → Row
new_row job quota =
    record {
      job = job;
      window = record { quota = quota.window; placed = [] };
      device = quota.device;
      copies = [];
      order = [];
      fetches_begun = 0;
      spill_failed = false;
      ended_tasks = [];
    }

abbrev pub copies_of : ById CopyView → ById Copy
copies_of table = map (λ e. (e.0, e.1.copy)) table

-- where a copy lies in the window, if it is there and resident
abbrev pub place_of : ById CopyView → ObjectId → Option Extent
place_of table id = option_and_then (λ kept. extent_of kept.copy) (at table id)

-- the window's extents are those of the copies, each its own
pub record ArePlaced (placed : List (ℕ × List ℕ)) (places : ObjectId → Option Extent) : Type 0 where
  pub there : (id : ObjectId) (e : Extent) → places id ≡ Some e → IsAt e placed
  pub apart : (a b : ObjectId) (e f : Extent) → places a ≡ Some e → places b ≡ Some f → e.offset ≡ f.offset → a ≡ b
  pub owned : (e : Extent) → Contains (extents_of placed) e → (id : ObjectId) × (places id ≡ Some e)
