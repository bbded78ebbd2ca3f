-- The states of all jobs with one of them in place of what was there.
use Rattle.std.proofs.Common.{◌≡◌, true, false, cond, List, [], Option, Some, None, refl, ap, ◌∙◌}
use Rattle.std.specs.Prelude.{if◌then◌else◌, unwrap_or}
use Rattle.std.specs.Map.{lookup}
use Rattle.schedule_text.specs.declared.lines.JobAt.{JobAt}
use Rattle.journal_text.specs.Saved.{same_job_place}
use Rattle.journal_replay.specs.States.{JobState, state_of}

abbrev States : Type 0
States = List (JobAt × JobState)

module _ (place : JobAt) (old left new : States) (after : JobState)
    (removed : (q : JobAt) → lookup (same_job_place q) left ≡ cond (same_job_place place q) None (lookup (same_job_place q) old))
    (updated : (q : JobAt) → lookup (same_job_place q) new ≡ cond (same_job_place place q) (Some after) (lookup (same_job_place q) left)) where
  pub state_moved : (f : JobState) → after ≡ f → (other : JobAt) → state_of new other ≡ (if same_job_place place other then f else state_of old other)
  state_moved f is other =
      ap in_it (updated other ∙ ap (λ o. cond (same_job_place place other) (Some after) o) (removed other))
      ∙ elim (same_job_place place other) as (λ b. in_it (cond b (Some after) (cond b None (lookup (same_job_place other) old))) ≡ cond b f (state_of old other)) [ true ↦ is | false ↦ refl ]
    where
      in_it : Option JobState → JobState
      in_it o = unwrap_or o (state_of [] other)
