-- What the proofs of other crates cite of this one.

-- a line is of nodes that are there, and a command of a job
pub use Rattle.schedule_text.proofs.Within.{is_finish, is_spoken, is_there, line_within, spelled_spoken, spelled_within}
