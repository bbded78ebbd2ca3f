-- The numbers of the works of each job.
use Rattle.std.specs.Prelude.{◌≡◌, ℕ, ◌==◌, nat_le, Bool, true, not, ◌&&◌, if◌then◌else◌, List, [], ◌∷◌, filter, Option, Some, None, unwrap_or}
use Rattle.std.specs.List.{list_any}
use Rattle.std.specs.Map.{lookup}
use Rattle.obj_id.specs.declared.ids.JobNo.{JobNo}
use Rattle.spill_work.specs.declared.queue.Queued.{Queued}
use Rattle.spill_work.specs.Line.{same_work_job, is_of}

abbrev pub last_number_of : List (JobNo × ℕ) → JobNo → ℕ
last_number_of used job = unwrap_or (lookup (same_work_job job) used) 0

abbrev pub AreFresh : List (JobNo × ℕ) → Type 0
AreFresh used = (job : JobNo) → last_number_of used job ≡ 0 → lookup (same_work_job job) used ≡ None

-- what a job's entry says, if the job's last number is this
abbrev pub entry_of : ℕ → Option ℕ
entry_of last = if last == 0 then None else Some last

abbrev pub is_numbered : ℕ → Queued → Bool
is_numbered number work = work.asked.number == number

-- no two have the same number, and none has a later one than the last
abbrev pub are_numbered : ℕ → List Queued → Bool
are_numbered last [] = true
are_numbered last (work ∷ works) =
    (nat_le work.asked.number last && not (list_any (is_numbered work.asked.number) works)) && are_numbered last works

pub record AreWorksNumbered (works : List Queued) (used : List (JobNo × ℕ)) : Type 0 where
  pub numbers : (job : JobNo) → are_numbered (last_number_of used job) (filter (is_of job) works) ≡ true
  -- a job that no work was asked for has no entry
  pub fresh : AreFresh used
