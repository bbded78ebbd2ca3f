-- What is kept of all live jobs.
use Rattle.std.proofs.Common.{◌≡◌, ℕ, ◌+◌, ◌≤◌, ◌<◌, ◌^◌, ◌%◌, Bool, true, false, not, ◌&&◌, ◌||◌, ◌==◌, cond, List, [], ◌∷◌, ◌++◌, Option, Some, None, is_none, length, map, refl, sym, ap, subst, ◌∙◌, arith}
use Rattle.std.specs.Prelude.{nat_le, nat_lt}
use Rattle.std.specs.List.{list_all}
use Rattle.std.specs.Map.{lookup, remove_entry, set_value}
use Rattle.std.proofs.lemmas.Bool.Decides.{nat_tests}
use Rattle.std.proofs.lemmas.List.Folds.{list_all-append}
use Rattle.obj_id.specs.declared.ids.JobNo.{JobNo}
use Rattle.obj_id.specs.declared.works.Extent.{Extent}
use Rattle.obj_id.specs.declared.works.Quota.{Quota}
use Rattle.private_store.specs.rules.Limits.{is_quota, is_window, widest_window, most_live_jobs}
use Rattle.private_store.specs.rules.Extents.{rounded, end_of, is_apart}
use Rattle.private_store.specs.laws.Invariants.{is_placed}
use Rattle.private_store.specs.rules.Shared.{windows_without}
use Rattle.store_facts.proofs.Tests.{both, both_left, both_right, none_some, or_swaps, some_value, true_false}
use Rattle.job_admission.specs.declared.Live.{Live}
use Rattle.obj_id.specs.declared.refusals.Refusal.TheVariants.{BadId, BadSize, Exists, NoRoom}
use Rattle.private_store.specs.rules.Jobs.{same_job}
use Rattle.job_admission.specs.Admissions.{Admissions, largest_memory, admit_check, window_place_for, window_of, lives_of, windows, is_live_kept}
use Rattle.job_admission.proofs.Lookups.{length-lives_of, without_more}

-- ---- of one

pub kept_is_placed : (memory greatest : ℕ) (e : JobNo × Live) → is_live_kept memory greatest e ≡ true → is_placed memory (window_of e.1) ≡ true
kept_is_placed memory greatest e h = grind (arith, nat_tests, h)

-- a window of whole units that lies in the memory
abbrev pub is_laid : ℕ → Extent → Bool
is_laid memory w = is_placed memory w && is_window w.length

kept_is_laid : (memory greatest : ℕ) (e : JobNo × Live) → is_live_kept memory greatest e ≡ true → is_laid memory (window_of e.1) ≡ true
kept_is_laid memory greatest e h = grind (arith, nat_tests, h)

-- so it ends at a whole unit in the memory
pub laid_end : (memory : ℕ) (w : Extent) → is_laid memory w ≡ true → (end_of w % 16 ≡ 0) × (end_of w ≤ memory)
laid_end memory w h =
    let start : w.offset % 16 ≡ 0 = grind (arith, nat_tests, h) in
    let size : w.length % 16 ≡ 0 = grind (arith, nat_tests, h) in
    let within : w.offset + w.length ≤ memory = grind (arith, nat_tests, h) in
    (omega (arith, start, size), within)

-- and so do the bytes of a window's length
pub window_is : (n : ℕ) → is_window n ≡ true → (rounded n ≡ n) × (16 ≤ n) × (n ≤ widest_window)
window_is n h =
    let units : n % 16 ≡ 0 = grind (arith, nat_tests, h) in
    let low : 16 ≤ n = grind (arith, nat_tests, h) in
    let high : n ≤ widest_window = grind (arith, nat_tests, h) in
    (omega (arith, units), low, high)

-- a greater number admitted
pub kept_raised : (memory greatest more : ℕ) (e : JobNo × Live) → greatest ≤ more → is_live_kept memory greatest e ≡ true → is_live_kept memory more e ≡ true
kept_raised memory greatest more e le h = grind (arith, nat_tests, le, h)

-- ---- of all

module _ (memory greatest : ℕ) where
  pub all_raised : (more : ℕ) (es : List (JobNo × Live)) → greatest ≤ more → list_all (is_live_kept memory greatest) es ≡ true → list_all (is_live_kept memory more) es ≡ true
  all_raised more [] le h = refl
  all_raised more (e ∷ es) le h =
      both _ _ (kept_raised memory greatest more e le (both_left _ _ h)) (all_raised more es le (both_right (is_live_kept memory greatest e) _ h))

  -- each window lies in the memory
  pub all_laid : (es : List (JobNo × Live)) → list_all (is_live_kept memory greatest) es ≡ true → list_all (is_laid memory) (windows es) ≡ true
  all_laid [] h = refl
  all_laid (e ∷ es) h =
      both _ _ (kept_is_laid memory greatest e (both_left _ _ h)) (all_laid es (both_right (is_live_kept memory greatest e) _ h))

  pub values_placed : (es : List (JobNo × Live)) → list_all (is_live_kept memory greatest) es ≡ true → list_all (λ live. is_placed memory (window_of live)) (map (λ e. e.1) es) ≡ true
  values_placed [] h = refl
  values_placed (e ∷ es) h =
      both _ _ (kept_is_placed memory greatest e (both_left _ _ h)) (values_placed es (both_right (is_live_kept memory greatest e) _ h))

module _ (p : JobNo × Live → Bool) (test : JobNo → Bool) where
  pub all_removed : (es : List (JobNo × Live)) → list_all p es ≡ true → list_all p (remove_entry test es) ≡ true
  all_removed [] h = refl
  all_removed (e ∷ es) h = by (test e.0) (all_removed es (both_right (p e) _ h))
    where
      by : (b : Bool) → list_all p (remove_entry test es) ≡ true → list_all p (cond b es (e ∷ remove_entry test es)) ≡ true
      by true later = both_right (p e) _ h
      by false later = both _ _ (both_left (p e) _ h) later

  pub all_set : (x y : Live) → ((k : JobNo) → p (k, x) ≡ true → p (k, y) ≡ true) → (es : List (JobNo × Live)) → lookup test es ≡ Some x → list_all p es ≡ true → list_all p (set_value test es y) ≡ true
  all_set x y keeps [] found h = refl
  all_set x y keeps (e ∷ es) found h = by (test e.0) found (λ f. all_set x y keeps es f (both_right (p e) _ h))
    where
      by : (b : Bool) → cond b (Some e.1) (lookup test es) ≡ Some x → (lookup test es ≡ Some x → list_all p (set_value test es y) ≡ true) → list_all p (cond b ((e.0, y) ∷ es) (e ∷ set_value test es y)) ≡ true
      by true found later = both _ _ (keeps e.0 (subst (λ z. p (e.0, z) ≡ true) (some_value e.1 x found) (both_left (p e) _ h))) (both_right (p e) _ h)
      by false found later = both _ _ (both_left (p e) _ h) (later found)

  -- what holds of each holds of one that is found
  pub all_found : (es : List (JobNo × Live)) (x : Live) → list_all p es ≡ true → lookup test es ≡ Some x → (k : JobNo) × (test k ≡ true) × (p (k, x) ≡ true)
  all_found [] x h found = none_some x found
  all_found (e ∷ es) x h found = by (test e.0) refl found (all_found es x (both_right (p e) _ h))
    where
      by : (b : Bool) → test e.0 ≡ b → cond b (Some e.1) (lookup test es) ≡ Some x → (lookup test es ≡ Some x → (k : JobNo) × (test k ≡ true) × (p (k, x) ≡ true)) → (k : JobNo) × (test k ≡ true) × (p (k, x) ≡ true)
      by true t found later = (e.0, t, subst (λ z. p (e.0, z) ≡ true) (some_value e.1 x found) (both_left (p e) _ h))
      by false t found later = later found

pub all_windows : (p : Extent → Bool) (es : List (JobNo × Live)) → list_all p (windows es) ≡ list_all (λ e. p (window_of e.1)) es
all_windows p [] = refl
all_windows p (e ∷ es) = ap (λ b. p (window_of e.1) && b) (all_windows p es)

-- ---- apart

-- the windows of any two live jobs are apart
abbrev pub AreAllApart : List (JobNo × Live) → Type 0
AreAllApart es = (i j : JobNo) (x y : Live) → lookup (same_job i) es ≡ Some x → lookup (same_job j) es ≡ Some y → same_job i j ≡ false → is_apart (window_of x) (window_of y) ≡ true

same_as : (i j k : JobNo) → same_job i j ≡ true → same_job j k ≡ same_job i k
same_as i j k h = grind (arith, nat_tests, h)

apart_turned : (a b : Extent) → is_apart a b ≡ true → is_apart b a ≡ true
apart_turned a b h = or_swaps (nat_le (end_of a) b.offset) (nat_le (end_of b) a.offset) h

-- what holds of the other jobs' windows holds of another job's
pub other_found : (job j : JobNo) (p : Extent → Bool) (es : List (JobNo × Live)) (y : Live) → same_job job j ≡ false → list_all p (windows_without job.0 (lives_of es)) ≡ true → lookup (same_job j) es ≡ Some y → p (window_of y) ≡ true
other_found job j p [] y differ h found = none_some y found
other_found job j p (e ∷ es) y differ h found = by (same_job j e.0) (same_job job e.0) refl refl found (sym (without_more job p e es) ∙ h) (other_found job j p es y differ)
  where
    by : (b o : Bool) → same_job j e.0 ≡ b → same_job job e.0 ≡ o → cond b (Some e.1) (lookup (same_job j) es) ≡ Some y
        → cond o (list_all p (windows_without job.0 (lives_of es))) (p (window_of e.1) && list_all p (windows_without job.0 (lives_of es))) ≡ true
        → (list_all p (windows_without job.0 (lives_of es)) ≡ true → lookup (same_job j) es ≡ Some y → p (window_of y) ≡ true) → p (window_of y) ≡ true
    by true true t s found h later = absurd (grind (arith, nat_tests, differ, t, s))
    by true false t s found h later = subst (λ z. p (window_of z) ≡ true) (some_value e.1 y found) (both_left _ _ h)
    by false true t s found h later = later h found
    by false false t s found h later = later (both_right (p (window_of e.1)) _ h) found

module _ (old new : List (JobNo × Live)) (job : JobNo) (apart : AreAllApart old) where
  pub apart_removed : ((q : JobNo) → lookup (same_job q) new ≡ cond (same_job job q) None (lookup (same_job q) old)) → AreAllApart new
  apart_removed updated i j x y hi hj differ = by (same_job job i) (same_job job j) (sym (updated i) ∙ hi) (sym (updated j) ∙ hj)
    where
      by : (b o : Bool) → cond b None (lookup (same_job i) old) ≡ Some x → cond o None (lookup (same_job j) old) ≡ Some y → is_apart (window_of x) (window_of y) ≡ true
      by true o hi hj = none_some x hi
      by false true hi hj = none_some y hj
      by false false hi hj = apart i j x y hi hj differ

  pub apart_put : (z : Live) → ((j : JobNo) (y : Live) → same_job job j ≡ false → lookup (same_job j) old ≡ Some y → is_apart (window_of z) (window_of y) ≡ true)
      → ((q : JobNo) → lookup (same_job q) new ≡ cond (same_job job q) (Some z) (lookup (same_job q) old)) → AreAllApart new
  apart_put z beside updated i j x y hi hj differ = by (same_job job i) (same_job job j) refl refl (sym (updated i) ∙ hi) (sym (updated j) ∙ hj)
    where
      by : (b o : Bool) → same_job job i ≡ b → same_job job j ≡ o → cond b (Some z) (lookup (same_job i) old) ≡ Some x → cond o (Some z) (lookup (same_job j) old) ≡ Some y → is_apart (window_of x) (window_of y) ≡ true
      by true true t s hi hj = true_false (sym differ ∙ grind (arith, nat_tests, t, s))
      by true false t s hi hj = subst (λ w. is_apart (window_of w) (window_of y) ≡ true) (some_value z x hi) (beside j y s hj)
      by false true t s hi hj = apart_turned (window_of y) (window_of x) (subst (λ w. is_apart (window_of w) (window_of x) ≡ true) (some_value z y hj) (beside i x t hi))
      by false false t s hi hj = apart i j x y hi hj differ

-- bytes of a quota's length from a live job's offset on end far within 64 bits
pub quota_ends : (memory greatest : ℕ) (job : JobNo) (es : List (JobNo × Live)) (x : Live) (quota : Quota) → memory ≤ largest_memory → list_all (is_live_kept memory greatest) es ≡ true → lookup (same_job job) es ≡ Some x → is_quota quota ≡ true → x.offset + quota.window < 2 ^ 36
quota_ends memory greatest job es x quota small each found good =
    let kept = all_found (is_live_kept memory greatest) (same_job job) es x each found in
    let end = laid_end memory (window_of x) (kept_is_laid memory greatest (kept.0, x) kept.2) in
    let high : quota.window ≤ widest_window = grind (arith, nat_tests, good) in
    omega (arith, end.1, high, small)

pub windows-values : (es : List (JobNo × Live)) → map window_of (map (λ e. e.1) es) ≡ windows es
windows-values [] = refl
windows-values (e ∷ es) = ap (λ ws. window_of e.1 ∷ ws) (windows-values es)

-- another quota that has its place
pub kept_resized : (memory greatest : ℕ) (k : JobNo) (x : Live) (quota : Quota) → is_quota quota ≡ true → nat_le (x.offset + quota.window) memory ≡ true → is_live_kept memory greatest (k, x) ≡ true → is_live_kept memory greatest (k, record x { quota = quota }) ≡ true
kept_resized memory greatest k x quota good within h = grind (arith, nat_tests, good, within, h)

-- a number above the greatest isn't live
pub absent_above : (memory greatest : ℕ) (job : JobNo) (es : List (JobNo × Live)) → list_all (is_live_kept memory greatest) es ≡ true → greatest < job.0 → lookup (same_job job) es ≡ None
absent_above memory greatest job es each above = by (lookup (same_job job) es) refl
  where
    by : (o : Option Live) → lookup (same_job job) es ≡ o → o ≡ None
    by None e = refl
    by (Some x) e =
        let kept = all_found (is_live_kept memory greatest) (same_job job) es x each e in
        let le : kept.0.0 ≤ greatest = grind (arith, nat_tests, kept.2) in
        let same : job.0 ≡ kept.0.0 = grind (arith, nat_tests, kept.1) in
        absurd (omega (arith, le, same, above))

-- what a check that is passed says of the job that is admitted
pub admit_passed : (a : Admissions) (job : JobNo) (quota : Quota) → admit_check a job quota ≡ None → (0 < job.0) × (is_quota quota ≡ true) × (a.greatest < job.0) × (length a.live < most_live_jobs)
admit_passed a job quota h = by (job.0 == 0) (is_quota quota) (nat_le job.0 a.greatest) (nat_le most_live_jobs (length (lives_of a.live))) refl refl refl refl h
  where
    by : (zero good old full : Bool) → (job.0 == 0) ≡ zero → is_quota quota ≡ good → nat_le job.0 a.greatest ≡ old → nat_le most_live_jobs (length (lives_of a.live)) ≡ full
        → cond zero (Some BadId) (cond (not good) (Some BadSize) (cond old (Some Exists) (cond (full || is_none (window_place_for a quota.window)) (Some NoRoom) None))) ≡ None
        → (0 < job.0) × (is_quota quota ≡ true) × (a.greatest < job.0) × (length a.live < most_live_jobs)
    by true good old full z g o f h = none_some BadId (sym h)
    by false false old full z g o f h = none_some BadSize (sym h)
    by false true true full z g o f h = none_some Exists (sym h)
    by false true false true z g o f h = none_some NoRoom (sym h)
    by false true false false z g o f h =
        let few : length (lives_of a.live) < most_live_jobs = grind (arith, nat_tests, f) in
        (grind (arith, nat_tests, z), g, grind (arith, nat_tests, o), omega (arith, few, length-lives_of a.live))

-- one more live job
pub all_more : (p : JobNo × Live → Bool) (es : List (JobNo × Live)) (e : JobNo × Live) → list_all p es ≡ true → p e ≡ true → list_all p (es ++ e ∷ []) ≡ true
all_more p es e h k = list_all-append p es (e ∷ []) ∙ both _ _ h (both (p e) true k refl)

-- an admitted job's own quota and place
pub kept_new : (memory : ℕ) (job : JobNo) (x : Live) → 0 < job.0 → is_quota x.quota ≡ true → x.offset % 16 ≡ 0 → x.offset + x.quota.window ≤ memory → is_live_kept memory job.0 (job, x) ≡ true
kept_new memory job x some good unit within =
    let a : nat_lt 0 job.0 ≡ true = grind (arith, nat_tests, some) in
    let b : nat_le job.0 job.0 ≡ true = grind (arith, nat_tests) in
    let d : (x.offset % 16 == 0) ≡ true = grind (arith, nat_tests, unit) in
    let e : nat_le (x.offset + x.quota.window) memory ≡ true = grind (arith, nat_tests, within) in
    rw (a, b, good, d, e)

-- apart from all windows: from each that is found
pub each_found : (p : Extent → Bool) (j : JobNo) (es : List (JobNo × Live)) (y : Live) → list_all p (windows es) ≡ true → lookup (same_job j) es ≡ Some y → p (window_of y) ≡ true
each_found p j es y h found = (all_found (λ e. p (window_of e.1)) (same_job j) es y (sym (all_windows p es) ∙ h) found).2
