-- The journals of all jobs, by job, and the bases that are made for some of them.
use Rattle.std.specs.Prelude.{◌≡◌, ℕ, ◌==◌, nat_lt, ◌||◌, Bool, List, [], ◌∷◌, length, map, filter, slice_get, Some}
use Rattle.std.specs.List.{list_any}
use Rattle.std.specs.Option.{option_map_or}
use Rattle.std.specs.Map.{lookup}
use Rattle.obj_id.specs.declared.ids.JobNo.{JobNo}
use Rattle.private_store.specs.rules.Jobs.{same_job}
use Rattle.node_journal.specs.declared.entries.Line.{Line}
use Rattle.node_journal.specs.declared.folding.Base.{Base}
use Rattle.node_journal.specs.Journals.{Journal, fresh, base_after, has_grants}

-- what a contract sees of one job's journal
pub record JobLog : Type 0 where
  pub journal : Journal
  -- how many lines more take no memory
  pub spare : ℕ

abbrev pub journal_of : List (JobNo × JobLog) → ℕ → Journal
journal_of logs job = option_map_or (λ log. log.journal) (lookup (same_job (record { 0 = job })) logs) (fresh job)

-- the lines of a job number after its base, oldest first
abbrev pub list_of : List (JobNo × JobLog) → ℕ → List Line
list_of logs job = (journal_of logs job).list

-- how many more lines of it take no memory
abbrev pub spare_of : List (JobNo × JobLog) → ℕ → ℕ
spare_of logs job = option_map_or (λ log. log.spare) (lookup (same_job (record { 0 = job })) logs) 0

-- the job is at this place, and found by its number
abbrev pub StandsAt : List (JobNo × JobLog) → JobNo → ℕ → Type 0
StandsAt logs job place = (log : JobLog) × (slice_get logs place ≡ Some (job, log)) × (lookup (same_job job) logs ≡ Some log)

-- whether the journal says something: it has a line, or one that was folded, or a grant in its base
abbrev pub was_kept : Journal → Bool
was_kept journal = (nat_lt 0 journal.covered || nat_lt 0 (length journal.list)) || has_grants journal.base

-- the jobs whose journals do
abbrev pub jobs_kept : List (JobNo × JobLog) → List JobNo
jobs_kept logs = map (λ e. e.0) (filter (λ e. was_kept e.1.journal) logs)

-- ---- bases

abbrev pub Bases : Type 0
Bases = List (JobNo × Base)

-- each is the base that its job's lines are folded into
abbrev pub AreBases : Bases → (ℕ → Journal) → Type 0
AreBases [] journals = Unit {0}
AreBases (e ∷ es) journals = (e.1 ≡ base_after (journals e.0.0)) × AreBases es journals

abbrev pub has_base : ℕ → Bases → Bool
has_base job bases = list_any (λ e. e.0.0 == job) bases
