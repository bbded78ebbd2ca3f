-- What the answer is to a work of a copy.
use Rattle.std.specs.Prelude.{ℕ, ◌==◌, Bool, ◌&&◌, if◌then◌else◌, List, length, unwrap_or}
use Rattle.obj_id.specs.declared.works.DeviceAnswer.{DeviceAnswer}
use Rattle.obj_id.specs.declared.works.DeviceAnswer.TheVariants as device
use Rattle.obj_id.specs.declared.works.WorkKind.{WorkKind}
use Rattle.obj_id.specs.declared.works.WorkKind.TheVariants.{Write, Read}
use Rattle.private_store.specs.declared.inputs.WorkVerdict.{WorkVerdict}
use Rattle.private_store.specs.declared.inputs.WorkVerdict.TheVariants as work
use Rattle.private_store.specs.rules.Contents.{has_digest, no_digest, write_verdict}
use Rattle.private_store.specs.laws.Invariants.{is_restoring}
use Rattle.row_copy.specs.CopyViews.{CopyView}
use Rattle.row_copy.specs.Usages.{is_spilling}

-- whether a work of this kind is in flight for it
abbrev pub is_in_work : WorkKind → CopyView → Bool
is_in_work Write kept = is_spilling kept
is_in_work Read kept = is_restoring kept.copy.state

-- whether these are its bytes
abbrev pub has_bytes : CopyView → List ℕ → Bool
has_bytes kept bytes = (length bytes == kept.copy.length) && has_digest bytes (unwrap_or kept.digest no_digest)

-- what the answer is to its read
abbrev pub view_read_verdict : CopyView → DeviceAnswer → WorkVerdict
view_read_verdict kept device.Done = work.Failed
view_read_verdict kept (device.Bytes bytes) = if has_bytes kept bytes then work.Fine else work.Damaged
view_read_verdict kept device.Failed = work.Failed

-- and to its work of this kind
abbrev pub work_verdict_of : WorkKind → CopyView → DeviceAnswer → WorkVerdict
work_verdict_of Write kept answer = write_verdict answer
work_verdict_of Read kept answer = view_read_verdict kept answer
