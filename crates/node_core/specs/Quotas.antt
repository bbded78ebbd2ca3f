-- Why a job can't have another quota, by its row.
use Rattle.std.specs.Prelude.{Option, Some, None}
use Rattle.obj_id.specs.declared.ids.JobNo.{JobNo}
use Rattle.obj_id.specs.declared.refusals.Refusal.{Refusal}
use Rattle.obj_id.specs.declared.refusals.Refusal.TheVariants.{NotAdmitted}
use Rattle.obj_id.specs.declared.works.Quota.{Quota}
use Rattle.job_admission.specs.Admissions.{resize_check}
use Rattle.job_row.specs.Quotas.{row_requota_check}
use Rattle.node_core.specs.Hosted.{Hosted, row_at}

-- the refusal, or else another
abbrev pub refused_or : Option Refusal → Option Refusal → Option Refusal
refused_or None rest = rest
refused_or (Some r) rest = Some r

-- whether what it uses is within the quota the row says, and whether the window may be so wide the live jobs
abbrev pub requota_refusal : Hosted → JobNo → Quota → Option Refusal
requota_refusal node job quota =
    elim (row_at node job) [ None ↦ Some NotAdmitted | Some row ↦ refused_or (row_requota_check row quota) (resize_check node.admissions job quota) ]
