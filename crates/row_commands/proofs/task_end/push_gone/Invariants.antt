use Rattle.std.proofs.Common.{◌≡◌, ◌≤◌, ◌+◌, ◌++◌, drop, length}
use Rattle.std.specs.Prelude.{vec_len, vec_capacity}
use Rattle.job_row.specs.EndingTasks.{gone_keys}
use Rattle.row_commands.proofs.task_end.push_gone.Given as goal

-- those so far and those of what is left are all, and there is room for a key of each
abbrev pub invariant-loop-item : goal.invariant-loop-item
invariant-loop-item l = record {
  keys : l.erased.items ++ gone_keys l.fn.row (drop l.item-index l.fn.keys) ≡ l.initial.erased.items ++ gone_keys l.fn.row l.fn.keys;
  few : vec_len l.erased ≤ vec_len l.initial.erased + l.item-index;
  room : vec_len l.initial.erased + length l.fn.keys ≤ vec_capacity l.initial.erased;
  grows : vec_capacity l.initial.erased ≤ vec_capacity l.erased;
}
