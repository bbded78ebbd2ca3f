use Rattle.std.proofs.Common.{◌≡◌, ◌≤◌, ◌+◌, ◌++◌, drop, fold, length, map}
use Rattle.std.specs.Prelude.{vec_len, vec_capacity}
use Rattle.job_row.specs.EndingTasks.{doomed_row, doom_posts, posts_of_each}
use Rattle.row_commands.proofs.task_end.doom_each.Given as goal

-- once those that are left are done it is all done, and there is room for a message of each
abbrev pub invariant-loop-item : goal.invariant-loop-item
invariant-loop-item l = record {
  row : fold (doomed_row l.task) l.row (map (λ item. item.id) (drop l.item-index l.items)) ≡ fold (doomed_row l.task) l.initial.row (map (λ item. item.id) l.items);
  sent : l.messages.items ++ posts_of_each (doomed_row l.task) (doom_posts l.node l.task) l.row (map (λ item. item.id) (drop l.item-index l.items))
      ≡ l.initial.messages.items ++ posts_of_each (doomed_row l.task) (doom_posts l.node l.task) l.initial.row (map (λ item. item.id) l.items);
  few : vec_len l.messages ≤ vec_len l.initial.messages + l.item-index;
  room : vec_len l.initial.messages + length l.items ≤ vec_capacity l.initial.messages;
  grows : vec_capacity l.initial.messages ≤ vec_capacity l.messages;
}
