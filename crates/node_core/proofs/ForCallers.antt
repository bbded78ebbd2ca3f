-- What the proofs of other crates cite of this one.

-- what an event is to its own job is the step of all jobs
pub use Rattle.node_core.proofs.AllJobs.{IsFinishAnswer, finish_answer, own_due_is, own_here_is, own_of, works_shown}
-- no node answers that there is no memory
pub use Rattle.node_core.proofs.Never.{told_never}
-- what an event is to the grantees
pub use Rattle.node_core.proofs.Notes.{AreJobNotes, AreNotes, here_notes, is_note, only_notes}
-- a job's works by number in the line, and the line if none of them is marked
pub use Rattle.node_core.proofs.Taking.{one_each, part, unmarked}
