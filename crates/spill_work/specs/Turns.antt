-- The works of all jobs by their job, and the order in which they were asked for.
use Rattle.std.specs.Prelude.{◌≡◌, ℕ, ◌+◌, ◌==◌, nat_le, nat_lt, Bool, true, false, if◌then◌else◌, List, [], ◌∷◌, ◌++◌, map, filter, Option, Some, None, unwrap_or, is_some}
use Rattle.std.specs.List.{list_all}
use Rattle.std.specs.Map.{lookup}
use Rattle.obj_id.specs.declared.ids.JobNo.{JobNo}
use Rattle.obj_id.specs.declared.ids.ObjectId.{ObjectId}
use Rattle.obj_id.specs.declared.works.WorkKind.{WorkKind}
use Rattle.spill_work.specs.declared.queue.Queued.{Queued}
use Rattle.spill_work.specs.declared.row.Timed.{Timed}
use Rattle.spill_work.specs.Line.{same_work_job, is_of, is_at}

-- ---- the works of one job

abbrev pub has_number : ℕ → Timed → Bool
has_number number t = t.work.asked.number == number

abbrev pub taken : Queued → Queued
taken work = record work { taken = true }

-- taken, if it is under the number
abbrev pub with_mark : ℕ → Timed → Timed
with_mark number t = if has_number number t then record t { work = taken t.work } else t

-- works of these objects, under the numbers after the last one, at the turns from this one on
abbrev pub timed : JobNo → WorkKind → ℕ → ℕ → List ObjectId → List Timed
timed job kind last turn [] = []
timed job kind last turn (id ∷ ids) =
    record { turn = turn; work = record { asked = record { job = job; number = last + 1; id = id; kind = kind }; taken = false } }
    ∷ timed job kind (last + 1) (turn + 1) ids

-- ---- those of all jobs

abbrev pub Rows : Type 0
Rows = List (JobNo × List Timed)

abbrev pub row_of : Rows → JobNo → List Timed
row_of rows job = unwrap_or (lookup (same_work_job job) rows) []

-- with a row for the job, which has nothing if it is new
abbrev pub with_row : JobNo → Rows → Rows
with_row job rows = if is_some (lookup (same_work_job job) rows) then rows else rows ++ (job, []) ∷ []

abbrev pub all_of : Rows → List Timed
all_of [] = []
all_of (e ∷ rows) = e.1 ++ all_of rows

-- after those of its turn and of earlier ones
abbrev pub works_placed : Timed → List Timed → List Timed
works_placed t [] = t ∷ []
works_placed t (u ∷ us) = if nat_le u.turn t.turn then u ∷ works_placed t us else t ∷ u ∷ us

-- each in its turn, among others that are
abbrev pub onto : List Timed → List Timed → List Timed
onto [] us = us
onto (t ∷ ts) us = works_placed t (onto ts us)

abbrev pub in_turn : Rows → List Timed
in_turn rows = onto (all_of rows) []

-- in the order asked
abbrev pub works_in : Rows → List Queued
works_in rows = map (λ t. t.work) (in_turn rows)

-- the job's work under the number is taken
abbrev pub marked_at : JobNo → ℕ → Queued → Queued
marked_at job number work = if is_at job number work then taken work else work

-- the one that is earlier in its turn
abbrev pub earlier : Option Timed → Timed → Option Timed
earlier None t = Some t
earlier (Some u) t = if nat_le t.turn u.turn then Some t else Some u

-- of this one and those that nobody has taken the first in its turn
abbrev pub front_from : Option Timed → List Timed → Option Timed
front_from first [] = first
front_from first (t ∷ ts) = front_from (if t.work.taken then first else earlier first t) ts

-- ---- what is so of all rows

abbrev pub is_timed_of : JobNo → Timed → Bool
is_timed_of job t = is_of job t.work

abbrev pub holds_own : JobNo × List Timed → Bool
holds_own e = list_all (is_timed_of e.0) e.1

abbrev pub is_before : ℕ → Timed → Bool
is_before turn t = nat_lt t.turn turn

pub record AreRows (rows : Rows) (turn : ℕ) : Type 0 where
  -- a job's row has that job's works
  pub own : list_all holds_own rows ≡ true
  pub in_order : (job : JobNo) → row_of rows job ≡ filter (is_timed_of job) (in_turn rows)
  -- the next turn is after all
  pub turns : list_all (is_before turn) (all_of rows) ≡ true
