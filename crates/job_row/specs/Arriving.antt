-- What messages make of the row of a copy that is on its way.
use Rattle.std.specs.Prelude.{ℕ, List, nat_eq, option_to_list}
use Rattle.std.specs.Map.{set_value}
use Rattle.obj_id.specs.declared.ids.ObjectId.{ObjectId}
use Rattle.obj_id.specs.declared.works.Extent.{Extent}
use Rattle.private_store.specs.declared.faults.FetchFault.{FetchFault}
use Rattle.private_store.specs.rules.Contents.{overwritten}
use Rattle.job_region.specs.Region.{without, region_bytes_at}
use Rattle.job_row.specs.Entries.{changed}
use Rattle.job_row.specs.Row.{Row, place_of}
use Rattle.row_copy.specs.Arriving.{after_failed_fetch}

-- the row with bytes written over an extent of its window, from an offset in it on
abbrev pub row_written : Row → Extent → ℕ → List ℕ → Row
row_written row e offset bytes =
    record row { window = record row.window { placed = set_value (nat_eq e.offset) row.window.placed (overwritten (region_bytes_at e row.window.placed) offset bytes) } }

-- the fetch of the copy failed
abbrev pub unfetched_row : FetchFault → Row → ObjectId → Row
unfetched_row fault row id =
    record row {
      window = record row.window { placed = without (option_to_list (place_of row.copies id)) row.window.placed };
      copies = changed (after_failed_fetch fault) row.copies id;
    }
