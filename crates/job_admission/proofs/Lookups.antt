-- The live jobs by number, and as their neighbours may know them.
use Rattle.std.proofs.Common.{◌≡◌, ℕ, suc, Bool, true, false, not, ◌&&◌, ◌||◌, ◌==◌, cond, List, [], ◌∷◌, Option, Some, None, is_some, length, map, filter, nat_eq, refl, sym, ap, ◌∙◌, arith}
use Rattle.std.specs.Prelude.{nat_le, find, IsErrOf, Err}
use Rattle.std.specs.List.{list_all, list_any}
use Rattle.std.specs.Map.{lookup}
use Rattle.std.specs.Option.{option_map_or}
use Rattle.std.proofs.lemmas.Bool.Decides.{nat_tests}
use Rattle.obj_id.specs.declared.ids.JobNo.{JobNo}
use Rattle.obj_id.specs.declared.works.Extent.{Extent}
use Rattle.obj_id.specs.declared.works.Quota.{Quota}
use Rattle.obj_id.specs.declared.refusals.Refusal.{Refusal}
use Rattle.obj_id.specs.declared.refusals.Refusal.TheVariants.{NotAdmitted, BadSize, NoRoom}
use Rattle.private_store.specs.rules.Limits.{is_quota}
use Rattle.private_store.specs.rules.Extents.{end_of, is_apart}
use Rattle.private_store.specs.rules.Shared.{LiveJob, job_is, windows_without}
use Rattle.store_facts.proofs.Tests.{none_some}
use Rattle.job_admission.specs.declared.Live.{Live}
use Rattle.private_store.specs.rules.Jobs.{same_job}
use Rattle.job_admission.specs.Admissions.{Admissions, live_at, window_of, lives_of, resize_check}

-- a number compared either way
pub turned : (a b : ℕ) → (a == b) ≡ nat_eq b a
turned a b = grind (arith, nat_tests)

module _ (job : JobNo) where
  pub any_live : (es : List (JobNo × Live)) → list_any (job_is job.0) (lives_of es) ≡ is_some (lookup (same_job job) es)
  any_live [] = refl
  any_live (e ∷ es) = ap (λ b. b || list_any (job_is job.0) (lives_of es)) (turned e.0.0 job.0) ∙ by (same_job job e.0) (any_live es)
    where
      by : (b : Bool) → list_any (job_is job.0) (lives_of es) ≡ is_some (lookup (same_job job) es) → (b || list_any (job_is job.0) (lives_of es)) ≡ is_some (cond b (Some e.1) (lookup (same_job job) es))
      by true later = refl
      by false later = later

  -- what is asked of the job's window
  pub window_found : (test : Extent → Bool) (es : List (JobNo × Live)) → option_map_or (λ (live : LiveJob). test live.window) (find (job_is job.0) (lives_of es)) false ≡ option_map_or (λ live. test (window_of live)) (lookup (same_job job) es) false
  window_found test [] = refl
  window_found test (e ∷ es) =
      ap (λ b. option_map_or (λ (live : LiveJob). test live.window) (cond b (Some (record { job = e.0.0; window = window_of e.1 })) (find (job_is job.0) (lives_of es))) false) (turned e.0.0 job.0)
      ∙ by (same_job job e.0) (window_found test es)
    where
      by : (b : Bool)
          → option_map_or (λ (live : LiveJob). test live.window) (find (job_is job.0) (lives_of es)) false ≡ option_map_or (λ live. test (window_of live)) (lookup (same_job job) es) false
          → option_map_or (λ (live : LiveJob). test live.window) (cond b (Some (record { job = e.0.0; window = window_of e.1 })) (find (job_is job.0) (lives_of es))) false ≡ option_map_or (λ live. test (window_of live)) (cond b (Some e.1) (lookup (same_job job) es)) false
      by true later = refl
      by false later = later

  -- one more job among those whose windows must be apart
  pub without_more : (p : Extent → Bool) (e : JobNo × Live) (es : List (JobNo × Live)) → list_all p (windows_without job.0 (lives_of (e ∷ es))) ≡ cond (same_job job e.0) (list_all p (windows_without job.0 (lives_of es))) (p (window_of e.1) && list_all p (windows_without job.0 (lives_of es)))
  without_more p e es =
      ap (λ b. list_all p (map (λ (live : LiveJob). live.window) (cond (not b) (record { job = e.0.0; window = window_of e.1 } ∷ filter (λ live. not (job_is job.0 live)) (lives_of es)) (filter (λ live. not (job_is job.0 live)) (lives_of es))))) (turned e.0.0 job.0)
      ∙ by (same_job job e.0)
    where
      by : (b : Bool) → list_all p (map (λ (live : LiveJob). live.window) (cond (not b) (record { job = e.0.0; window = window_of e.1 } ∷ filter (λ live. not (job_is job.0 live)) (lives_of es)) (filter (λ live. not (job_is job.0 live)) (lives_of es)))) ≡ cond b (list_all p (windows_without job.0 (lives_of es))) (p (window_of e.1) && list_all p (windows_without job.0 (lives_of es)))
      by true = refl
      by false = refl

pub length-lives_of : (es : List (JobNo × Live)) → length (lives_of es) ≡ length es
length-lives_of [] = refl
length-lives_of (e ∷ es) = ap (λ n. suc n) (length-lives_of es)

-- what the check of a quota says
module _ (a : Admissions) (job : JobNo) (quota : Quota) where
  pub check_absent : live_at a job ≡ None → resize_check a job quota ≡ Some NotAdmitted
  check_absent h =
      let absent : list_any (job_is job.0) (lives_of a.live) ≡ false = any_live job a.live ∙ ap is_some h in
      rw absent

  module _ (x : Live) (here : live_at a job ≡ Some x) where
    there : list_any (job_is job.0) (lives_of a.live) ≡ true
    there = any_live job a.live ∙ ap is_some here

    pub check_size : is_quota quota ≡ false → resize_check a job quota ≡ Some BadSize
    check_size h = rw (there, h)

    abbrev pub room_beside : Bool
    room_beside =
        let wide : Extent = record { offset = x.offset; length = quota.window } in
        nat_le (end_of wide) a.memory && list_all (is_apart wide) (windows_without job.0 (lives_of a.live))

    abbrev pub test_of : Extent → Bool
    test_of window =
        let wide : Extent = record window { length = quota.window } in
        nat_le (end_of wide) a.memory && list_all (is_apart wide) (windows_without job.0 (lives_of a.live))

    can_widen-is : option_map_or (λ (live : LiveJob). test_of live.window) (find (job_is job.0) (lives_of a.live)) false ≡ room_beside
    can_widen-is = window_found job test_of a.live ∙ ap (λ o. option_map_or (λ live. test_of (window_of live)) o false) here

    pub check_room : is_quota quota ≡ true → (room : Bool) → room_beside ≡ room → resize_check a job quota ≡ cond room None (Some NoRoom)
    check_room h room e = rw (there, h, can_widen-is, e) (by room)
      where
        by : (b : Bool) → cond (not b) (Some NoRoom) None ≡ cond b None (Some NoRoom)
        by true = refl
        by false = refl

    -- what a check that is passed says
    pub check_passed : resize_check a job quota ≡ None → (is_quota quota ≡ true) × (room_beside ≡ true)
    check_passed h = by (is_quota quota) room_beside refl refl
      where
        by : (good room : Bool) → is_quota quota ≡ good → room_beside ≡ room → (is_quota quota ≡ true) × (room_beside ≡ true)
        by false room e f = none_some BadSize (sym h ∙ check_size e)
        by true false e f = none_some NoRoom (sym h ∙ check_room e false f)
        by true true e f = (e, f)

pub same_refusal : (o : Option Refusal) (x r : Refusal) → o ≡ Some x → IsErrOf {T = Unit {0}} (Err x) r → o ≡ Some r
same_refusal o x r e h = cc
