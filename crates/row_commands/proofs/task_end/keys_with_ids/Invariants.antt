use Rattle.std.proofs.Common.{◌≡◌, ◌≤◌, ◌++◌, drop, length, map}
use Rattle.std.specs.Prelude.{vec_len, vec_capacity}
use Rattle.job_row.specs.EndingTasks.{keys_of_copies}
use Rattle.row_commands.proofs.task_end.keys_with_ids.Given as goal

-- those so far and those of what is left are all, and there is room for a key of each
abbrev pub invariant-loop-item : goal.invariant-loop-item
invariant-loop-item l = record {
  keys : l.keys.items ++ keys_of_copies l.fn.row (map (λ item. item.id) (drop l.item-index l.fn.items)) ≡ keys_of_copies l.fn.row (map (λ item. item.id) l.fn.items);
  few : vec_len l.keys ≤ l.item-index;
  room : length l.fn.items ≤ vec_capacity l.keys;
}
