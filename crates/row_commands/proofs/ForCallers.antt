-- What the proofs of other crates cite of this one.

-- the copy whose work was answered
pub use Rattle.row_commands.proofs.Answering.{copy_at_work}
-- which things beside a row count for what it shows
pub use Rattle.row_commands.proofs.Besides.{IsAlike, alike_bytes, alike_shape, alike_shown, granted_length, is_of}
-- the keys that the end of a job erases
pub use Rattle.row_commands.proofs.EndingKeys.{keys-backed}
-- EndTask that is refused
pub use Rattle.row_commands.proofs.EndingTasks.{end_task_refused}
-- Grant and Withdraw as steps of a row
pub use Rattle.row_commands.proofs.Granting.{give_back_done, grant_done, grant_refused, lend_done, lend_refused, withdraw_refused}
-- what a worker is given of a work
pub use Rattle.row_commands.proofs.Handing.{work_is}
-- which commands are due more than a refusal when memory ran out
pub use Rattle.row_commands.proofs.MemoryLate.{borrow_late, delete_late, end_task_late, give_up_late, leave_late, list_late, read_late, seal_late, unpin_late}
-- other jobs' grants as steps of a row, or of a store that isn't live
pub use Rattle.row_commands.proofs.Notes.{bare_ends, bare_receives, ends_of, first_left, lengths, none_given, others_stand, received_is, rest_of_job, rest_of_other, rest_of_task, row_ends, row_has_grants, row_receives, same_given}
-- Peek as a step of a row
pub use Rattle.row_commands.proofs.Peeking.{peeks}
