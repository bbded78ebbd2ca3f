-- What an admission leaves.
use Rattle.std.proofs.Common.{◌≡◌, ℕ, ◌+◌, ◌≤◌, ◌<◌, true, ◌&&◌, cond, List, [], ◌∷◌, ◌++◌, Some, None, length, sym, ap, ◌∙◌, arith, length-append}
use Rattle.std.specs.Prelude.{nat_le}
use Rattle.std.specs.List.{list_all, IsDistinct}
use Rattle.std.specs.Map.{keys_of, lookup}
use Rattle.std.specs.Option.{option_map_or}
use Rattle.std.proofs.lemmas.Bool.{leb-true}
use Rattle.obj_id.specs.declared.ids.JobNo.{JobNo}
use Rattle.obj_id.specs.declared.works.JobKey.{JobKey}
use Rattle.obj_id.specs.declared.works.Quota.{Quota}
use Rattle.private_store.specs.rules.Limits.{is_quota}
use Rattle.private_store.specs.rules.Extents.{rounded, is_apart}
use Rattle.store_facts.proofs.FirstFit.{first-free, first-units}
use Rattle.store_facts.proofs.Tests.{both_left, both_right}
use Rattle.job_admission.specs.declared.Live.{Live}
use Rattle.private_store.specs.rules.Jobs.{same_job}
use Rattle.job_admission.specs.Admissions.{Admissions, live_at, window_of, windows, window_place_for, admit_check, with_admitted, is_live_kept, AreAdmissionsKept}
use Rattle.job_admission.proofs.Search.{at, free_is}
use Rattle.job_admission.proofs.AllKept.{window_is, all_raised, all_more, absent_above, admit_passed, kept_new, apart_put, each_found}

module _ (a : Admissions) (job : JobNo) (quota : Quota) (key : JobKey) (offset : ℕ) (kept : AreAdmissionsKept a) (passed : admit_check a job quota ≡ None) (found : window_place_for a quota.window ≡ Some offset) where
  abbrev x : Live
  x = record { quota = quota; key = key; offset = offset; entered = 0 }

  facts : (0 < job.0) × (is_quota quota ≡ true) × (a.greatest < job.0) × (length a.live < 64)
  facts = admit_passed a job quota passed

  -- the number isn't live
  pub absent : live_at a job ≡ None
  absent = absent_above a.memory a.greatest job a.live kept.each facts.2

  size : rounded quota.window ≡ quota.window
  size = (window_is quota.window (both_left _ _ facts.1)).0

  free : (nat_le (offset + quota.window) a.memory && list_all (is_apart (at offset quota.window)) (windows a.live)) ≡ true
  free = sym (free_is (windows a.live) a.memory quota.window size offset) ∙ first-free (windows a.live) a.memory quota.window offset found

  module _ (new : List (JobNo × Live)) (entries : new ≡ a.live ++ (job, x) ∷ []) where
    pub admitted_is : ◌≡◌ {A = Admissions} (record { memory = a.memory; greatest = job.0; live = new }) (with_admitted a job quota key)
    admitted_is =
        ap (λ es. record { memory = a.memory; greatest = job.0; live = es }) entries
        ∙ sym (ap (λ o. option_map_or (λ offset. record a { greatest = job.0; live = a.live ++ (job, record { quota = quota; key = key; offset = offset; entered = 0 }) ∷ [] }) o a) found)

    pub admitted_kept : IsDistinct same_job (keys_of new) → ((q : JobNo) → lookup (same_job q) new ≡ cond (same_job job q) (Some x) (lookup (same_job q) a.live)) → AreAdmissionsKept (record { memory = a.memory; greatest = job.0; live = new })
    admitted_kept distinct updated =
        let within : offset + quota.window ≤ a.memory = leb-true (offset + quota.window) a.memory (both_left _ _ free) in
        let own = kept_new a.memory job x facts.0 facts.1 (first-units (windows a.live) a.memory quota.window offset found) within in
        let others = all_raised a.memory a.greatest job.0 a.live (omega (arith, facts.2)) kept.each in
        let count = ap length entries ∙ length-append a.live ((job, x) ∷ []) in
        record {
          memory = kept.memory;
          each = ap (list_all (is_live_kept a.memory job.0)) entries ∙ all_more (is_live_kept a.memory job.0) a.live (job, x) others own;
          apart = apart_put a.live new job kept.apart x (λ j y differ there. each_found (is_apart (window_of x)) j a.live y (both_right _ _ free) there) updated;
          distinct = distinct;
          few = omega (arith, count, facts.3);
        }
