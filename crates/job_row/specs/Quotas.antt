-- Another quota for a row.
use Rattle.std.specs.Prelude.{nat_le, Bool, not, ◌&&◌, if◌then◌else◌, Option, Some, None}
use Rattle.obj_id.specs.declared.refusals.Refusal.{Refusal}
use Rattle.obj_id.specs.declared.refusals.Refusal.TheVariants.{BadSize, Full}
use Rattle.obj_id.specs.declared.works.Quota.{Quota}
use Rattle.private_store.specs.rules.Limits.{is_quota}
use Rattle.private_store.specs.rules.Copies.{fits_quota}
use Rattle.private_store.specs.rules.Shape.{Shape}
use Rattle.job_region.specs.Region.{are_within}
use Rattle.job_row.specs.Row.{Row}
use Rattle.job_row.specs.Usages.{total}
use Rattle.row_copy.specs.Usages.{device_bytes}

-- whether what the row uses is within the quota
abbrev pub fits : Row → Quota → Bool
fits row quota = are_within quota.window row.window.placed && nat_le (total device_bytes row.copies) quota.device

-- why the quota can't be this one, where it is told whether what is used is within it
abbrev pub refusal_by : Bool → Quota → Option Refusal
refusal_by fits quota = if not (is_quota quota) then Some BadSize else (if fits then None else Some Full)

abbrev pub row_requota_check : Row → Quota → Option Refusal
row_requota_check row quota = refusal_by (fits row quota) quota

-- the same of the job's store
abbrev pub store_check : Shape → Quota → Option Refusal
store_check store quota = refusal_by (fits_quota store quota) quota

-- the row with this quota
abbrev pub requoted : Row → Quota → Row
requoted row quota = record row { window = record row.window { quota = quota.window }; device = quota.device }
