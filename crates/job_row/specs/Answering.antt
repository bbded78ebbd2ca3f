-- A work of a copy that ended, as the copy's row has it.
use Rattle.std.specs.Prelude.{ℕ, nat_eq, Bool, ◌||◌, if◌then◌else◌, List, option_to_list}
use Rattle.std.specs.Map.{set_value}
use Rattle.obj_id.specs.declared.ids.ObjectId.{ObjectId}
use Rattle.obj_id.specs.declared.works.DeviceAnswer.{DeviceAnswer}
use Rattle.obj_id.specs.declared.works.DeviceAnswer.TheVariants as device
use Rattle.obj_id.specs.declared.works.Extent.{Extent}
use Rattle.private_store.specs.declared.faults.Fault.{Fault}
use Rattle.private_store.specs.declared.faults.Fault.TheVariants.{DeviceFailed, Damaged}
use Rattle.private_store.specs.rules.Contents.{overwritten}
use Rattle.job_region.specs.Region.{without, region_bytes_at as placed_bytes}
use Rattle.job_row.specs.Entries.{changed}
use Rattle.row_copy.specs.CopyViews.{CopyView, after_write, after_restore, after_failed_restore}
use Rattle.job_row.specs.Row.{Row, place_of}
use Rattle.row_copy.specs.Answering.{has_bytes}

-- the write of the copy under this number ended
abbrev pub written_row : ℕ → Bool → Row → ObjectId → Row
written_row number failed row id =
    record row { copies = changed (after_write number failed) row.copies id; spill_failed = failed || row.spill_failed }

-- the copy is sealed again, with these bytes in its place
abbrev pub refilled : Extent → List ℕ → Row → ObjectId → Row
refilled e bytes row id =
    record row {
      window = record row.window { placed = set_value (nat_eq e.offset) row.window.placed (overwritten (placed_bytes e row.window.placed) 0 bytes) };
      copies = changed after_restore row.copies id;
    }

-- the copy is away again, and its place is free
abbrev pub lost_row : Fault → Row → ObjectId → Row
lost_row fault row id =
    record row {
      window = record row.window { placed = without (option_to_list (place_of row.copies id)) row.window.placed };
      copies = changed (after_failed_restore fault) row.copies id;
    }

-- the read of the copy at its place ended
abbrev pub read_row : Extent → CopyView → DeviceAnswer → Row → ObjectId → Row
read_row e kept device.Done row id = lost_row DeviceFailed row id
read_row e kept (device.Bytes bytes) row id = if has_bytes kept bytes then refilled e bytes row id else lost_row Damaged row id
read_row e kept device.Failed row id = lost_row DeviceFailed row id
