-- What an admission, another quota and an end are to a job's neighbours.
use Rattle.std.proofs.Common.{◌≡◌, ℕ, Bool, true, false, not, cond, List, [], ◌∷◌, ◌++◌, Option, Some, None, map, filter, refl, sym, ap, ◌∙◌}
use Rattle.std.specs.List.{IsDistinct}
use Rattle.std.specs.Map.{keys_of, lookup, set_value, remove_entry}
use Rattle.std.specs.Option.{option_map_or}
use Rattle.std.proofs.lemmas.Map.{NonePasses}
use Rattle.std.proofs.lemmas.Map.Entries.{none_past_head}
use Rattle.std.proofs.lemmas.Map.Keys.{IsDistinct-tail}
use Rattle.std.proofs.lemmas.Cmp.{nat_eq_equiv, on_equiv}
use Rattle.std.specs.Cmp.{IsEquivalence}
use Rattle.obj_id.specs.declared.ids.JobNo.{JobNo}
use Rattle.obj_id.specs.declared.works.JobKey.{JobKey}
use Rattle.obj_id.specs.declared.works.Quota.{Quota}
use Rattle.private_store.specs.rules.Shared.{LiveJob, job_is, widened}
use Rattle.private_store.specs.rules.Shared as shared
use Rattle.store_facts.proofs.Tests.{some_value}
use Rattle.job_admission.specs.declared.Live.{Live}
use Rattle.private_store.specs.rules.Jobs.{same_job}
use Rattle.job_admission.specs.Admissions.{Admissions, window_of, lives_of, window_place_for, with_admitted}
use Rattle.job_admission.proofs.Lookups.{turned}

laws : IsEquivalence same_job
laws = on_equiv (λ (job : JobNo). job.0) nat_eq_equiv

abbrev shown : JobNo × Live → LiveJob
shown e = record { job = e.0.0; window = window_of e.1 }

abbrev others : JobNo → List LiveJob → List LiveJob
others job lives = filter (λ live. not (job_is job.0 live)) lives

-- where no number is the job's
all_others : (job : JobNo) (es : List (JobNo × Live)) → NonePasses (same_job job) es → others job (lives_of es) ≡ lives_of es
all_others job [] h = refl
all_others job (e ∷ es) h =
    ap (λ b. cond (not b) (shown e ∷ others job (lives_of es)) (others job (lives_of es))) (turned e.0.0 job.0 ∙ h.0)
    ∙ ap (λ lives. shown e ∷ lives) (all_others job es h.1)

none_widened : (job : JobNo) (n : ℕ) (es : List (JobNo × Live)) → NonePasses (same_job job) es → map (widened job.0 n) (lives_of es) ≡ lives_of es
none_widened job n [] h = refl
none_widened job n (e ∷ es) h =
    ap (λ b. cond b (record (shown e) { window = record (window_of e.1) { length = n } }) (shown e) ∷ map (widened job.0 n) (lives_of es)) (turned e.0.0 job.0 ∙ h.0)
    ∙ ap (λ lives. shown e ∷ lives) (none_widened job n es h.1)

-- the end of a job
pub lives_of-finished : (job : JobNo) (es : List (JobNo × Live)) → IsDistinct same_job (keys_of es) → lives_of (remove_entry (same_job job) es) ≡ filter (λ live. not (job_is job.0 live)) (lives_of es)
lives_of-finished job [] distinct = refl
lives_of-finished job (e ∷ es) distinct =
    by (same_job job e.0) refl (lives_of-finished job es (IsDistinct-tail same_job e.0 (keys_of es) distinct))
    ∙ sym (ap (λ b. cond (not b) (shown e ∷ others job (lives_of es)) (others job (lives_of es))) (turned e.0.0 job.0))
  where
    by : (b : Bool) → same_job job e.0 ≡ b → lives_of (remove_entry (same_job job) es) ≡ others job (lives_of es)
        → lives_of (cond b es (e ∷ remove_entry (same_job job) es)) ≡ cond (not b) (shown e ∷ others job (lives_of es)) (others job (lives_of es))
    by true t later = sym (all_others job es (none_past_head laws job e es distinct t))
    by false t later = ap (λ lives. shown e ∷ lives) later

-- another quota
pub lives_of-resized : (job : JobNo) (x : Live) (quota : Quota) (es : List (JobNo × Live)) → IsDistinct same_job (keys_of es) → lookup (same_job job) es ≡ Some x
    → lives_of (set_value (same_job job) es (record x { quota = quota })) ≡ map (widened job.0 quota.window) (lives_of es)
lives_of-resized job x quota [] distinct found = refl
lives_of-resized job x quota (e ∷ es) distinct found =
    by (same_job job e.0) refl found (lives_of-resized job x quota es (IsDistinct-tail same_job e.0 (keys_of es) distinct))
    ∙ sym (ap (λ b. cond b (wide e.1) (shown e) ∷ map (widened job.0 quota.window) (lives_of es)) (turned e.0.0 job.0))
  where
    wide : Live → LiveJob
    wide live = record { job = e.0.0; window = record { offset = live.offset; length = quota.window } }

    by : (b : Bool) → same_job job e.0 ≡ b → cond b (Some e.1) (lookup (same_job job) es) ≡ Some x
        → (lookup (same_job job) es ≡ Some x → lives_of (set_value (same_job job) es (record x { quota = quota })) ≡ map (widened job.0 quota.window) (lives_of es))
        → lives_of (cond b ((e.0, record x { quota = quota }) ∷ es) (e ∷ set_value (same_job job) es (record x { quota = quota }))) ≡ cond b (wide e.1) (shown e) ∷ map (widened job.0 quota.window) (lives_of es)
    by true t found later =
        ap (λ live. wide live ∷ lives_of es) (sym (some_value e.1 x found))
        ∙ ap (λ lives. wide e.1 ∷ lives) (sym (none_widened job quota.window es (none_past_head laws job e es distinct t)))
    by false t found later = ap (λ lives. shown e ∷ lives) (later found)

lives_of-append : (es fs : List (JobNo × Live)) → lives_of (es ++ fs) ≡ lives_of es ++ lives_of fs
lives_of-append [] fs = refl
lives_of-append (e ∷ es) fs = ap (λ lives. shown e ∷ lives) (lives_of-append es fs)

-- an admission
pub lives_of-admitted : (a : Admissions) (job : JobNo) (quota : Quota) (key : JobKey) → lives_of (with_admitted a job quota key).live ≡ shared.admitted a.memory job.0 quota.window (lives_of a.live)
lives_of-admitted a job quota key = by (window_place_for a quota.window)
  where
    by : (o : Option ℕ) → lives_of (option_map_or (λ offset. record a { greatest = job.0; live = a.live ++ (job, record { quota = quota; key = key; offset = offset; entered = 0 }) ∷ [] }) o a).live
        ≡ option_map_or (λ offset. lives_of a.live ++ record { job = job.0; window = record { offset = offset; length = quota.window } } ∷ []) o (lives_of a.live)
    by None = refl
    by (Some offset) = lives_of-append a.live ((job, record { quota = quota; key = key; offset = offset; entered = 0 }) ∷ [])
