-- A work that ended, as the row of its job has it.
use Rattle.obj_id.specs.declared.works.DeviceAnswer.{DeviceAnswer}
use Rattle.obj_id.specs.declared.works.Extent.{Extent}
use Rattle.obj_id.specs.declared.works.WorkKind.TheVariants.{Write, Read}
use Rattle.private_store.specs.rules.Contents.{write_verdict}
use Rattle.object_state.specs.Laws.{has_failed}
use Rattle.spill_work.specs.declared.queue.IoRequest.{IoRequest}
use Rattle.row_copy.specs.CopyViews.{CopyView}
use Rattle.job_row.specs.Row.{Row}
use Rattle.job_row.specs.Answering.{written_row, read_row}

-- the row after the answer to the work, before it is looked at whether anything keeps its copy
abbrev pub ended_row : IoRequest → Extent → CopyView → DeviceAnswer → Row → Row
ended_row asked e kept answer row =
    elim asked.kind [
      | Write ↦ written_row asked.number (has_failed (write_verdict answer)) row asked.id
      | Read ↦ read_row e kept answer row asked.id
    ]
