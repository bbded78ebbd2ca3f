use Rattle.std.proofs.Common.{◌≡◌, ◌++◌}
use Rattle.job_row.proofs.row.JobRow.ended_tasks.Given as goal

-- those so far and those of what is left are all
abbrev pub invariant-loop-task : goal.invariant-loop-task
invariant-loop-task l = l.tasks.items ++ l.task-iterator ≡ l.self.ended_tasks
