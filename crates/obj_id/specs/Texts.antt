-- How ids and tasks are written.
use Rattle.std.specs.Prelude.{◌≡◌, ℕ, ◌==◌, Bool, true, false, not, IsTrue, nat_eq, List, [], ◌∷◌, ◌++◌, length, take, drop, replicate, codes, decimal, if◌then◌else◌, ◌⊎◌}
use Rattle.std.specs.List.{list_all}
use Rattle.std.specs.Int.{from_be_bytes, to_be_bytes, w64}
use Rattle.hex.specs.Hex.{encode_lower}
use Rattle.obj_id.specs.Ids.{id_bytes}
use Rattle.obj_id.specs.declared.ids.ObjectId.{ObjectId}
use Rattle.obj_id.specs.declared.ids.JobNo.{JobNo}
use Rattle.obj_id.specs.declared.ids.TaskNo.{TaskNo}

-- whether a text begins as a number that is printed: with no sign, and with no zero but in `0` itself
abbrev pub starts_as_printed : List ℕ → Bool
starts_as_printed [] = false
starts_as_printed (first ∷ rest) = if nat_eq first 48 then nat_eq (length rest) 0 else not (nat_eq first 43)

-- the text of each id: its bytes, in lower case
abbrev pub full_text : ObjectId → List ℕ
full_text id = encode_lower (id_bytes id)

-- the text of each task: its bytes, in lower case
abbrev pub full_task_text : TaskNo → List ℕ
full_task_text task = encode_lower task.0

-- only a task whose first 12 bytes are zero has a short text
abbrev pub has_short_text : TaskNo → Bool
has_short_text task = list_all (λ byte. byte == 0) (take 12 task.0)

-- the task's last 8 bytes as a number
unfoldable pub task_number : TaskNo → ℕ
task_number task = from_be_bytes w64 (drop 12 task.0)

-- the task of a number, whose first 12 bytes are zero
abbrev pub numbered_task : ℕ → TaskNo
numbered_task n = record { 0 = replicate 12 0 ++ to_be_bytes w64 n }

-- `tN`
abbrev pub short_task_text : TaskNo → List ℕ
short_task_text task = codes "t" ++ decimal (task_number task)

-- `tN.I`
abbrev pub own_text : ObjectId → List ℕ
own_text id = short_task_text id.task ++ codes "." ++ decimal id.index

-- the owner is named where it isn't the job that speaks
abbrev pub owner_text : Bool → ℕ → List ℕ
owner_text true owner = []
owner_text false owner = decimal owner ++ codes "/"

-- `tN.I`, or `J/tN.I` for an object of another job than the one that speaks
abbrev pub short_text : ℕ → ObjectId → List ℕ
short_text job id = owner_text (job == id.job.0) id.job.0 ++ own_text id

-- the text that is printed: the short one where there is one
abbrev pub id_text : ℕ → ObjectId → List ℕ
id_text job id = if has_short_text id.task then short_text job id else full_text id

abbrev pub task_text : TaskNo → List ℕ
task_text task = if has_short_text task then short_task_text task else full_task_text task

-- the text is a task's short one
pub record IsShortTaskText (task : TaskNo) (text : List ℕ) : Type 0 where
  pub has_short : IsTrue (has_short_text task)
  pub spelled : short_task_text task ≡ text

-- the text is the one by which the job names its own object
pub record IsOwnText (job : JobNo) (id : ObjectId) (text : List ℕ) : Type 0 where
  pub owner : id.job ≡ job
  pub has_short : IsTrue (has_short_text id.task)
  pub spelled : own_text id ≡ text

-- the texts by which the job names another job's object: its owner's, and its own there
pub record IsOtherText (job : JobNo) (id : ObjectId) (owner name : List ℕ) : Type 0 where
  pub other : (job.0 == id.job.0) ≡ false
  pub owned : decimal id.job.0 ≡ owner
  pub named : IsOwnText id.job id name

-- the text is an id's short one, for the job that speaks
pub record IsShortText (job : ℕ) (id : ObjectId) (text : List ℕ) : Type 0 where
  pub has_short : IsTrue (has_short_text id.task)
  pub spelled : short_text job id ≡ text

-- the text is one of those that are read as the id, or as the task
abbrev pub IsIdText : ℕ → ObjectId → List ℕ → Type 0
IsIdText job id text = IsShortText job id text ⊎ (full_text id ≡ text)

abbrev pub IsTaskText : TaskNo → List ℕ → Type 0
IsTaskText task text = IsShortTaskText task text ⊎ (full_task_text task ≡ text)
