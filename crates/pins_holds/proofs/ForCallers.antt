-- What the proofs of other crates cite of this one.

-- tasks in a set, as the private store has them
pub use Rattle.pins_holds.proofs.TaskLemmas.{any_task, insert_key-new, task_eq, task_eq-same}
