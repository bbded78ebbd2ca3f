-- The live jobs of a node, and their windows in its memory.
use Rattle.std.specs.Prelude.{◌≡◌, ℕ, ◌+◌, ◌≤◌, ◌==◌, nat_le, nat_lt, Bool, true, false, not, ◌||◌, ◌&&◌, List, [], ◌∷◌, ◌++◌, length, map, Option, Some, is_none}
use Rattle.std.specs.Option.{option_map_or}
use Rattle.std.specs.List.{list_all, list_any, IsDistinct}
use Rattle.std.specs.Str.{bytes_eq}
use Rattle.std.specs.Map.{keys_of, lookup, set_value, remove_entry}
use Rattle.obj_id.specs.declared.ids.JobNo.{JobNo}
use Rattle.obj_id.specs.declared.refusals.Refusal.{Refusal}
use Rattle.obj_id.specs.declared.refusals.Refusal.TheVariants.{NotAdmitted, BadId, BadSize, Exists, NoRoom, TooMany}
use Rattle.obj_id.specs.declared.works.Extent.{Extent}
use Rattle.obj_id.specs.declared.works.JobKey.{JobKey}
use Rattle.obj_id.specs.declared.works.Quota.{Quota}
use Rattle.private_store.specs.rules.Jobs.{same_job}
use Rattle.private_store.specs.rules.Limits.{is_quota, most_live_jobs}
use Rattle.private_store.specs.rules.Extents.{is_apart, first}
use Rattle.private_store.specs.laws.Invariants.{is_placed}
use Rattle.private_store.specs.rules.Shared.{LiveJob, job_is, can_widen, first_refusal}
use Rattle.job_admission.specs.declared.Live.{Live}

-- what a contract sees: the node's memory in bytes, the greatest number ever admitted, and the live
-- jobs in the order of their admission
pub record Admissions : Type 0 where
  pub memory : ℕ
  pub greatest : ℕ
  pub live : List (JobNo × Live)

-- the bytes of the largest memory of a node
abbrev pub largest_memory : ℕ
largest_memory = 17179869184

-- the job, where it is live
abbrev pub live_at : Admissions → JobNo → Option Live
live_at a job = lookup (same_job job) a.live

-- a live job's window in the node's memory
abbrev pub window_of : Live → Extent
window_of live = record { offset = live.offset; length = live.quota.window }

-- the live jobs as their neighbours may know them: numbers and windows
abbrev pub lives_of : List (JobNo × Live) → List LiveJob
lives_of live = map (λ e. record { job = e.0.0; window = window_of e.1 }) live

abbrev pub windows : List (JobNo × Live) → List Extent
windows live = map (λ job. job.window) (lives_of live)

-- ---- admission

-- where a window of so many bytes goes: the least multiple of 16 at which it meets no live job's
abbrev pub window_place_for : Admissions → ℕ → Option ℕ
window_place_for a window = first (windows a.live) a.memory window

-- why a job isn't admitted
abbrev pub admit_check : Admissions → JobNo → Quota → Option Refusal
admit_check a job quota =
    first_refusal (
    (job.0 == 0, BadId)
    ∷ (not (is_quota quota), BadSize)
    ∷ (nat_le job.0 a.greatest, Exists)
    ∷ (nat_le most_live_jobs (length (lives_of a.live)) || is_none (window_place_for a quota.window), NoRoom)
    ∷ [])

-- the job is live, where its window goes
abbrev pub with_admitted : Admissions → JobNo → Quota → JobKey → Admissions
with_admitted a job quota key =
    option_map_or (λ offset. record a { greatest = job.0; live = a.live ++ (job, record { quota = quota; key = key; offset = offset; entered = 0 }) ∷ [] })
    (window_place_for a quota.window) a

-- ---- a change of quota

-- why a job can't have another quota; whether its objects are within it is the job's to say
abbrev pub resize_check : Admissions → JobNo → Quota → Option Refusal
resize_check a job quota =
    first_refusal (
    (not (list_any (job_is job.0) (lives_of a.live)), NotAdmitted)
    ∷ (not (is_quota quota), BadSize)
    ∷ (not (can_widen a.memory job.0 quota.window (lives_of a.live)), NoRoom)
    ∷ [])

-- the job has another quota, where its window lies
abbrev pub resized : Admissions → JobNo → Quota → Admissions
resized a job quota =
    option_map_or (λ live. record a { live = set_value (same_job job) a.live (record live { quota = quota }) }) (live_at a job) a

-- ---- sessions

-- the numbers that a job's sessions may have at a node, in all
abbrev pub most_sessions : ℕ
most_sessions = 4294967295

-- all bytes of a key count
abbrev pub same_key : JobKey → JobKey → Bool
same_key key shown = bytes_eq key.0 shown.0

-- whether the job is live and this is its key
abbrev pub has_key : Admissions → JobNo → JobKey → Bool
has_key a job key = option_map_or (λ live. same_key live.key key) (live_at a job) false

-- how many numbers were given for the job
abbrev pub sessions_entered : Admissions → JobNo → ℕ
sessions_entered a job = option_map_or (λ live. live.entered) (live_at a job) 0

-- why no session enters the job with this key
abbrev pub enter_check : Admissions → JobNo → JobKey → Option Refusal
enter_check a job key =
    first_refusal (
    (not (has_key a job key), NotAdmitted)
    ∷ (nat_le most_sessions (sessions_entered a job), TooMany)
    ∷ [])

-- one more number is given for the job
abbrev pub entered : Admissions → JobNo → Admissions
entered a job =
    option_map_or (λ live. record a { live = set_value (same_job job) a.live (record live { entered = live.entered + 1 }) }) (live_at a job) a

-- ---- the end of a job

-- the job lives no longer
abbrev pub finished : Admissions → JobNo → Admissions
finished a job = record a { live = remove_entry (same_job job) a.live }

-- ---- what is kept

-- a live job's number is one that was admitted, its quota is in range, its window lies in the memory
abbrev pub is_live_kept : ℕ → ℕ → (JobNo × Live) → Bool
is_live_kept memory greatest e =
    nat_lt 0 e.0.0 && nat_le e.0.0 greatest && is_quota e.1.quota && is_placed memory (window_of e.1)

pub record AreAdmissionsKept (a : Admissions) : Type 0 where
  pub memory : a.memory ≤ largest_memory
  pub each : list_all (is_live_kept a.memory a.greatest) a.live ≡ true
  pub apart : (i j : JobNo) (x y : Live) → live_at a i ≡ Some x → live_at a j ≡ Some y → same_job i j ≡ false → is_apart (window_of x) (window_of y) ≡ true
  pub distinct : IsDistinct same_job (keys_of a.live)
  pub few : length a.live ≤ most_live_jobs
