-- The end of a task: its copies are doomed, and then its borrows given up, one after another.
use Rattle.std.specs.Prelude.{ℕ, Bool, false, not, ◌&&◌, if◌then◌else◌, List, [], ◌∷◌, ◌++◌, map, flat_map, is_some, option_map, option_to_list}
use Rattle.std.specs.Option.{option_map_or}
use Rattle.obj_id.specs.declared.ids.TaskNo.{TaskNo}
use Rattle.obj_id.specs.declared.ids.ObjectId.{ObjectId}
use Rattle.obj_id.specs.declared.works.DeviceKey.{DeviceKey}
use Rattle.obj_id.specs.Ids.{same_task}
use Rattle.private_store.specs.rules.Tables.{ById, at}
use Rattle.private_store.specs.rules.Marks.{without_borrower}
use Rattle.private_store.specs.rules.Copies.{in_scope}
use Rattle.private_store.specs.rules.Commands.{has_borrower}
use Rattle.private_store.specs.rules.Private.{Post}
use Rattle.job_row.specs.Dropping.{settled_row}
use Rattle.job_row.specs.Ending.{key_at}
use Rattle.row_copy.specs.CopyViews.{CopyView, after_doom, after_give_up, after_grants_ended}
use Rattle.job_row.specs.Row.{Row}
use Rattle.job_row.specs.Scope.{removal_notice_at, notice_posts, with_copy}

-- ---- the grants

-- no grant stands any more of the copies of the task's objects
abbrev pub copies_ungranted : TaskNo → ById CopyView → ById CopyView
copies_ungranted task table = map (λ e. (e.0, if same_task task e.0.task then after_grants_ended e.1 else e.1)) table

-- the task is remembered, and its objects' grants have ended
abbrev pub task_row : TaskNo → Row → Row
task_row task row = record row { copies = copies_ungranted task row.copies; ended_tasks = row.ended_tasks ++ task ∷ [] }

-- ---- one copy

abbrev pub is_doomed_at : ById CopyView → ObjectId → Bool
is_doomed_at copies id = option_map_or (λ kept. kept.copy.doomed) (at copies id) false

abbrev pub borrows_at : TaskNo → ById CopyView → ObjectId → Bool
borrows_at task copies id = option_map_or (λ kept. has_borrower kept.copy task) (at copies id) false

-- whether it is in scope without the task
abbrev pub stays_at : TaskNo → ById CopyView → ObjectId → Bool
stays_at task copies id = option_map_or (λ kept. in_scope (without_borrower kept.copy task)) (at copies id) false

-- the copy is doomed if it is the task's, and removed if nothing keeps it
abbrev pub doomed_row : TaskNo → Row → ObjectId → Row
doomed_row task row id = if same_task task id.task then settled_row (with_copy after_doom row id) id else row

-- what the directory is sent of it then
abbrev pub doom_posts : ℕ → TaskNo → Row → ObjectId → List Post
doom_posts node task row id = notice_posts (removal_notice_at node row.copies id (same_task task id.task && not (is_doomed_at row.copies id)))

-- the task's borrow of the copy is given up, if it has one
abbrev pub given_up_row : TaskNo → Row → ObjectId → Row
given_up_row task row id =
    if is_doomed_at row.copies id then with_copy (after_give_up task) row id else
    (if borrows_at task row.copies id then settled_row (with_copy (after_give_up task) row id) id else row)

abbrev pub give_up_posts : ℕ → TaskNo → Row → ObjectId → List Post
give_up_posts node task row id =
    notice_posts (removal_notice_at node row.copies id (not (is_doomed_at row.copies id) && (borrows_at task row.copies id && not (stays_at task row.copies id))))

-- ---- one after another

-- what is told in such a walk
abbrev pub posts_of_each : (Row → ObjectId → Row) → (Row → ObjectId → List Post) → Row → List ObjectId → List Post
posts_of_each after says row [] = []
posts_of_each after says row (id ∷ ids) = says row id ++ posts_of_each after says (after row id) ids

-- ---- device keys

-- the keys of those of these copies that are backed
abbrev pub keys_of_copies : Row → List ObjectId → List (ObjectId × DeviceKey)
keys_of_copies row ids = flat_map (λ id. option_to_list (option_map (λ key. (id, key)) (key_at row id))) ids

-- the key, if its copy is gone
abbrev pub gone_key : Row → ObjectId × DeviceKey → List DeviceKey
gone_key row e = if is_some (at row.copies e.0) then [] else e.1 ∷ []

abbrev pub gone_keys : Row → List (ObjectId × DeviceKey) → List DeviceKey
gone_keys row keys = flat_map (gone_key row) keys
