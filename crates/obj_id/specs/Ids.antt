-- The order of ids, when two are the same, and their bytes.
use Rattle.std.specs.Prelude.{◌≡◌, ℕ, ◌^◌, ◌<◌, ◌≤◌, Bool, ◌&&◌, nat_eq, List, ◌++◌, length, take, drop, slice_index}
use Rattle.std.specs.Int.{from_be_bytes, to_be_bytes, w32, w64}
use Rattle.std.specs.Hash as fed
use Rattle.std.specs.declared.cmp.Ordering.{Ordering}
use Rattle.std.specs.Ordering.{is_eq, ordering_then, nat_cmp}
use Rattle.std.specs.Cmp.Lexicographic.{slice_cmp, pointwise}
use Rattle.obj_id.specs.declared.ids.TaskNo.{TaskNo}
use Rattle.obj_id.specs.declared.ids.ObjectId.{ObjectId}

-- the order of the 20 bytes
abbrev pub task_cmp : TaskNo → TaskNo → Ordering
task_cmp a b = slice_cmp nat_cmp a.0 b.0

-- what a hasher is fed of a task: its bytes as three numbers
abbrev pub hashed_task : List ℕ → List (List ℕ)
hashed_task bytes = fed.u64 (from_be_bytes w64 (take 8 bytes)) ++ fed.u32 (from_be_bytes w32 (take 4 (drop 8 bytes))) ++ fed.u64 (from_be_bytes w64 (drop 12 bytes))

abbrev pub same_task : TaskNo → TaskNo → Bool
same_task a b = is_eq (task_cmp a b)

-- the order of the 28 bytes: by task, then job, then index
abbrev pub id_cmp : ObjectId → ObjectId → Ordering
id_cmp a b = ordering_then (task_cmp a.task b.task) (ordering_then (nat_cmp a.job.0 b.job.0) (nat_cmp a.index b.index))

abbrev pub same_id : ObjectId → ObjectId → Bool
same_id a b = is_eq (id_cmp a b)

-- the `==` of ids
abbrev pub id_eq : ObjectId → ObjectId → Bool
id_eq a b = pointwise nat_eq a.task.0 b.task.0 && (nat_eq a.job.0 b.job.0 && nat_eq a.index b.index)

-- what a program's task is: 20 bytes
pub record IsTask (task : TaskNo) : Type 0 where
  pub task_length : length task.0 ≡ 20
  pub task_bytes : (i : ℕ) → slice_index task.0 i < 256

-- what a program's id is: a task of 20 bytes, and a job and an index of 32 bits that are at least 1
pub record IsId (id : ObjectId) : Type 0 where
  pub task_length : length id.task.0 ≡ 20
  pub task_bytes : (i : ℕ) → slice_index id.task.0 i < 256
  pub job_positive : 1 ≤ id.job.0
  pub job_fits : id.job.0 < 2 ^ 32
  pub index_positive : 1 ≤ id.index
  pub index_fits : id.index < 2 ^ 32

-- the 28 bytes: the task, then job and index with the highest byte first
abbrev pub id_bytes : ObjectId → List ℕ
id_bytes id = id.task.0 ++ to_be_bytes w32 id.job.0 ++ to_be_bytes w32 id.index
