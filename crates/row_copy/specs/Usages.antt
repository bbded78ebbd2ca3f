-- What List and Usage tell of a copy.
use Rattle.std.specs.Prelude.{ℕ, Bool, false, ◌||◌, if◌then◌else◌, is_some}
use Rattle.std.specs.Option.{option_map_or}
use Rattle.obj_id.specs.declared.ids.ObjectId.{ObjectId}
use Rattle.obj_id.specs.declared.commands.OwnItem.{OwnItem}
use Rattle.private_store.specs.rules.Extents.{rounded}
use Rattle.private_store.specs.rules.Copies.{extent_of}
use Rattle.obj_id.specs.Works.{is_write}
use Rattle.row_copy.specs.CopyViews.{CopyView}

-- a copy, as List shows it
abbrev pub own_item_of : ObjectId × CopyView → OwnItem
own_item_of e = record { id = e.0; state = e.1.copy.state; kind = e.1.copy.kind; length = e.1.copy.length }

-- whether a write of it is in flight
abbrev pub is_spilling : CopyView → Bool
is_spilling kept = option_map_or is_write kept.working false

-- the bytes that it takes in the window
abbrev pub window_bytes : CopyView → ℕ
window_bytes kept = option_map_or (λ e. e.length) (extent_of kept.copy) 0

-- the device bytes that count for it
abbrev pub device_bytes : CopyView → ℕ
device_bytes kept = if is_some kept.copy.backed || is_spilling kept then rounded kept.copy.length else 0

-- 1 for a doomed copy
abbrev pub doomed_one : CopyView → ℕ
doomed_one kept = if kept.copy.doomed then 1 else 0
