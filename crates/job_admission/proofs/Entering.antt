-- What a session that enters leaves.
use Rattle.std.proofs.Common.{◌≡◌, ◌+◌, ◌<◌, Bool, true, false, not, cond, List, Some, None, length, refl, sym, subst, arith}
use Rattle.std.specs.Prelude.{nat_le}
use Rattle.std.specs.List.{IsDistinct}
use Rattle.std.specs.Map.{keys_of, lookup, set_value}
use Rattle.std.specs.Option.{option_map_or}
use Rattle.std.proofs.lemmas.Bool.{leb-false}
use Rattle.obj_id.specs.declared.ids.JobNo.{JobNo}
use Rattle.obj_id.specs.declared.works.JobKey.{JobKey}
use Rattle.obj_id.specs.declared.refusals.Refusal.TheVariants.{NotAdmitted, TooMany}
use Rattle.private_store.specs.rules.Jobs.{same_job}
use Rattle.store_facts.proofs.Tests.{none_some}
use Rattle.job_admission.specs.declared.Live.{Live}
use Rattle.job_admission.specs.Admissions.{Admissions, live_at, is_live_kept, AreAdmissionsKept, most_sessions, has_key, sessions_entered, enter_check}
use Rattle.job_admission.proofs.AllKept.{all_set, apart_put}

module _ (a : Admissions) (job : JobNo) (x : Live) (found : live_at a job ≡ Some x) where
  abbrev pub one_more : Live
  one_more = record x { entered = x.entered + 1 }

  -- a check that is passed leaves a number
  pub number_left : (key : JobKey) → enter_check a job key ≡ None → x.entered < most_sessions
  number_left key passed = by (has_key a job key) (nat_le most_sessions (sessions_entered a job)) refl passed
    where
      by : (fits full : Bool) → nat_le most_sessions (sessions_entered a job) ≡ full → cond (not fits) (Some NotAdmitted) (cond full (Some TooMany) None) ≡ None → x.entered < most_sessions
      by false full e h = none_some NotAdmitted (sym h)
      by true true e h = none_some TooMany (sym h)
      by true false e h = subst (λ o. option_map_or (λ (live : Live). live.entered) o 0 < most_sessions) found (leb-false most_sessions (sessions_entered a job) e)

  pub entered_kept : AreAdmissionsKept a → (new : List (JobNo × Live)) → new ≡ set_value (same_job job) a.live one_more
      → ((q : JobNo) → lookup (same_job q) new ≡ cond (same_job job q) (Some one_more) (lookup (same_job q) a.live))
      → IsDistinct same_job (keys_of new) → length new ≡ length a.live → AreAdmissionsKept (record a { live = new })
  entered_kept kept new entries updated distinct count = record {
    memory = kept.memory;
    each = rw entries (all_set (is_live_kept a.memory a.greatest) (same_job job) x one_more (λ k h. h) a.live found kept.each);
    apart = apart_put a.live new job kept.apart one_more (λ j y differ there. kept.apart job j x y found there differ) updated;
    distinct = distinct;
    few = omega (arith, count, kept.few);
  }
