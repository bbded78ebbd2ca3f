use Rattle.std.proofs.Common.{rules, ◌∙◌, take, drop, ap}
use Rattle.obj_id.proofs.IdBytes.{IsReadAs, IfOk-new, bytes_spelled, parts_read}
use Rattle.obj_id.proofs.ids.ObjectId.from_bytes.Goals as goal

is_read : (c : goal.After-new) → IsReadAs c.args.bytes.now c.copy_from_slice.new.self c.copy_from_slice-2.new.self c.copy_from_slice-3.new.self c.from_be_bytes.result c.from_be_bytes-2.result
is_read c =
    let whole = c.in-Ok.ensures.1 in record {
      length_is = whole.long;
      are_bytes = search rules;
      task_is = c.copy_from_slice.ensures.after ∙ ap (take 20) whole.same;
      job_is = c.copy_from_slice-2.ensures.after ∙ ap (λ xs. take 4 (drop 20 xs)) whole.same;
      index_is = c.copy_from_slice-3.ensures.after ∙ ap (λ xs. take 4 (drop 24 xs)) whole.same;
      job_number = c.from_be_bytes.ensures;
      index_number = c.from_be_bytes-2.ensures;
    }

pub returns-clause-spelled : goal.returns-clause-spelled
returns-clause-spelled c = IfOk-new c.new.result _ _ c.new.ensures.made c.new.ensures.no_job c.new.ensures.no_index (bytes_spelled _ _ _ _ _ _ (is_read c))

pub returns-clause-read : goal.returns-clause-read
returns-clause-read c id is spelled =
    let parts = parts_read _ _ _ _ _ _ (is_read c) id.task.0 id.job.0 id.index is.task_length is.job_fits is.index_fits spelled in
    let made = c.new.ensures.made in
    rw (parts.0, parts.1, parts.2) at made is.job_positive is.index_positive
