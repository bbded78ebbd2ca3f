-- What Usage tells of a row.
use Rattle.std.specs.Prelude.{length}
use Rattle.obj_id.specs.declared.commands.Usage.{Usage}
use Rattle.spill_work.specs.Line.{WorkLine, in_flight}
use Rattle.job_row.specs.Row.{Row}
use Rattle.row_copy.specs.Usages.{window_bytes, device_bytes}
use Rattle.job_row.specs.Usages.{total}

-- the quotas, and what is used of them
abbrev pub used : Row → WorkLine → Usage
used row line =
    record {
      window = row.window.quota;
      window_used = total window_bytes row.copies;
      device = row.device;
      device_used = total device_bytes row.copies;
      copies = length row.copies;
      works = in_flight line (record { 0 = row.job });
    }
