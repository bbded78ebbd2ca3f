-- What is proved of ids in their own crate and cited above it.

-- a task's number has 64 bits
pub use Rattle.obj_id.proofs.Numbered.{task_number-lt}
-- the text that is printed of an id or a task is one of its names
pub use Rattle.obj_id.proofs.OneText.{IsIdText-id_text, IsTaskText-task_text}
-- a refusal stands at the place of its number
pub use Rattle.obj_id.proofs.RefusalTables.{option_copied-item, refusal_at}
-- ids that are the same are equal, and their order is a total one
pub use Rattle.obj_id.proofs.SameIds.{id_cmp-IsAntisymmetric, id_cmp-IsTotalOrder, id_eq-equal, id_eq-itself, id_eq_equiv, same_id-equal, same_id-flip, same_id-id_eq, same_id-itself, same_id-not_back, same_task-equal}
-- an id's task is a task, and a printed number has digits alone
pub use Rattle.obj_id.proofs.ShortTexts.{IsTask-task, Without, Without-decimal}
