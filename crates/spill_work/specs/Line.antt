-- The device works of all jobs of a node in one line, and what a job sees of it.
use Rattle.std.specs.Prelude.{◌≡◌, ℕ, ◌+◌, ◌==◌, nat_le, Bool, true, false, not, ◌&&◌, if◌then◌else◌, List, [], ◌∷◌, ◌++◌, length, map, filter, find, Option, Some, None, unwrap_or}
use Rattle.std.specs.Option.{option_map}
use Rattle.std.specs.Map.{lookup}
use Rattle.indexmap.specs.IndexMap.{insert_entry}
use Rattle.obj_id.specs.declared.ids.JobNo.{JobNo}
use Rattle.obj_id.specs.declared.ids.ObjectId.{ObjectId}
use Rattle.obj_id.specs.declared.works.WorkKind.{WorkKind}
use Rattle.obj_id.specs.declared.refusals.Refusal.{Refusal}
use Rattle.obj_id.specs.declared.refusals.Refusal.TheVariants.{Busy, TooMany, Stale}
use Rattle.obj_id.specs.Works.{is_write}
use Rattle.private_store.specs.rules.Limits.{most_works, has_numbers}
use Rattle.private_store.specs.rules.Shape.{WorkInFlight}
use Rattle.spill_work.specs.declared.queue.IoRequest.{IoRequest}
use Rattle.spill_work.specs.declared.queue.Queued.{Queued}

pub record WorkLine : Type 0 where
  -- of all jobs, in the order asked
  pub works : List Queued
  -- for each job the last number that a work of it had
  pub used : List (JobNo × ℕ)

-- ---- what a job sees

abbrev pub same_work_job : JobNo → JobNo → Bool
same_work_job a b = a.0 == b.0

abbrev pub is_of : JobNo → Queued → Bool
is_of job work = same_work_job job work.asked.job

-- the work of the job under the number
abbrev pub is_at : JobNo → ℕ → Queued → Bool
is_at job number work = is_of job work && work.asked.number == number

-- a work as the job's own store has it
abbrev pub shown : IoRequest → WorkInFlight
shown asked = record { number = asked.number; id = asked.id; writes = is_write asked.kind }

-- the job's works in flight, as its own store has them
abbrev pub works_of : WorkLine → JobNo → List WorkInFlight
works_of line job = map (λ work. shown work.asked) (filter (is_of job) line.works)

abbrev pub in_flight : WorkLine → JobNo → ℕ
in_flight line job = length (works_of line job)

-- how many of the job's works were taken
abbrev pub works_taken_by : WorkLine → JobNo → ℕ
works_taken_by line job = length (filter (λ work. work.taken) (filter (is_of job) line.works))

-- the last number that a work of the job had
abbrev pub used_by : WorkLine → JobNo → ℕ
used_by line job = unwrap_or (lookup (same_work_job job) line.used) 0

-- to the job, both lines are the same
pub record IsSameFor (job : JobNo) (old new : WorkLine) : Type 0 where
  pub works : works_of new job ≡ works_of old job
  pub used : used_by new job ≡ used_by old job

-- ---- asking

-- whether n works more may be asked for
abbrev pub room_for : WorkLine → JobNo → ℕ → Bool
room_for line job n = nat_le (in_flight line job + n) most_works && has_numbers (used_by line job) n

-- why a work can't be asked for
abbrev pub ask_check : WorkLine → JobNo → Option Refusal
ask_check line job =
    if nat_le most_works (in_flight line job) then Some Busy else
    (if has_numbers (used_by line job) 1 then None else Some TooMany)

-- a work comes last, under the job's next number
pub record AsksWork (old : WorkLine) (asked : IoRequest) (new : WorkLine) : Type 0 where
  pub number : asked.number ≡ used_by old asked.job + 1
  pub works : new.works ≡ old.works ++ record { asked = asked; taken = false } ∷ []
  pub used : new.used ≡ insert_entry same_work_job old.used asked.job asked.number
  -- the job's own part
  pub own_works : works_of new asked.job ≡ works_of old asked.job ++ shown asked ∷ []
  pub own_used : used_by new asked.job ≡ asked.number
  pub others : (job : JobNo) → same_work_job asked.job job ≡ false → IsSameFor job old new

-- the job's last work is taken back: if it was just asked for, the line is what it was before
pub record TakesBack (old : WorkLine) (job : JobNo) (number : ℕ) (new : WorkLine) : Type 0 where
  pub undone : (before : WorkLine) (id : ObjectId) (kind : WorkKind) → AsksWork before (record { job = job; number = number; id = id; kind = kind }) old
      → (number ≡ 1 → lookup (same_work_job job) before.used ≡ None) → new ≡ before
  -- a number that isn't the job's last
  pub not_last : (used_by old job == number) ≡ false → new ≡ old
  pub others : (other : JobNo) → same_work_job job other ≡ false → IsSameFor other old new

-- works of these objects, under the numbers after the last one
abbrev pub numbered : JobNo → WorkKind → ℕ → List ObjectId → List Queued
numbered job kind last [] = []
numbered job kind last (id ∷ ids) =
    record { asked = record { job = job; number = last + 1; id = id; kind = kind }; taken = false } ∷ numbered job kind (last + 1) ids

-- as the job's own store has them
abbrev pub numbered_works : WorkKind → ℕ → List ObjectId → List WorkInFlight
numbered_works kind last [] = []
numbered_works kind last (id ∷ ids) = record { number = last + 1; id = id; writes = is_write kind } ∷ numbered_works kind (last + 1) ids

-- works of these objects come last, in their order
pub record AsksAll (old : WorkLine) (job : JobNo) (kind : WorkKind) (ids : List ObjectId) (new : WorkLine) : Type 0 where
  pub works : new.works ≡ old.works ++ numbered job kind (used_by old job) ids
  -- the job's own part
  pub own_works : works_of new job ≡ works_of old job ++ numbered_works kind (used_by old job) ids
  pub own_used : used_by new job ≡ used_by old job + length ids
  pub others : (other : JobNo) → same_work_job job other ≡ false → IsSameFor other old new

-- ---- handing out

-- the first that nobody has taken
abbrev pub front_of : List Queued → Option IoRequest
front_of works = option_map (λ work. work.asked) (find (λ work. not work.taken) works)

-- the work of the job under the number is taken
abbrev pub marked_taken : JobNo → ℕ → List Queued → List Queued
marked_taken job number [] = []
marked_taken job number (work ∷ works) =
    if is_at job number work then record work { taken = true } ∷ works else work ∷ marked_taken job number works

-- a work is marked as taken, and no job sees that
pub record MarksTaken (old : WorkLine) (job : JobNo) (number : ℕ) (new : WorkLine) : Type 0 where
  pub line : new ≡ record old { works = marked_taken job number old.works }
  pub same : (other : JobNo) → works_of new other ≡ works_of old other

-- the front is taken, if there is one
abbrev pub taken_front : WorkLine → Option IoRequest → WorkLine
taken_front line None = line
taken_front line (Some asked) = record line { works = marked_taken asked.job asked.number line.works }

pub record Takes (old : WorkLine) (response : Option IoRequest) (new : WorkLine) : Type 0 where
  pub told_is : response ≡ front_of old.works
  pub line : new ≡ taken_front old response
  pub same : (job : JobNo) → works_of new job ≡ works_of old job

-- ---- answering

abbrev pub work_at : WorkLine → JobNo → ℕ → Option Queued
work_at line job number = find (is_at job number) line.works

-- why a work can't end: there is none, or nobody took it
abbrev pub finish_check : WorkLine → JobNo → ℕ → Option Refusal
finish_check line job number =
    elim (work_at line job number) [ None ↦ Some Stale | Some work ↦ if work.taken then None else Some Stale ]

-- the work leaves the line
pub record Finishes (old : WorkLine) (job : JobNo) (number : ℕ) (asked : IoRequest) (new : WorkLine) : Type 0 where
  pub found : work_at old job number ≡ Some (record { asked = asked; taken = true })
  pub line : new ≡ record old { works = filter (λ work. not (is_at job number work)) old.works }
  -- the job's own part
  pub own_work : find (λ work. work.number == number) (works_of old job) ≡ Some (shown asked)
  pub own_works : works_of new job ≡ filter (λ work. not (work.number == number)) (works_of old job)
  pub others : (other : JobNo) → same_work_job job other ≡ false → works_of new other ≡ works_of old other

-- ---- the end of a job

-- the job's works leave the line, and its numbers are forgotten
pub record Drops (old : WorkLine) (job : JobNo) (new : WorkLine) : Type 0 where
  pub works : new.works ≡ filter (λ work. not (is_of job work)) old.works
  pub own_works : works_of new job ≡ []
  pub own_used : used_by new job ≡ 0
  pub others : (other : JobNo) → same_work_job job other ≡ false → IsSameFor other old new
