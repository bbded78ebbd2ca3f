-- What a session that enters leaves: one more number given, and the views that were.
use Rattle.std.proofs.Common.{◌≡◌, ℕ, ◌+◌, List, Option, Some, None, Ok, Err, refl, sym, subst, ◌∙◌}
use Rattle.std.specs.Prelude.{◌↔◌, nat_le, OnOk, OnErr}
use Rattle.std.specs.declared.result.Result.{Result}
use Rattle.std.specs.List.{list_all}
use Rattle.std.specs.Map.{keys_of, lookup, set_value}
use Rattle.std.specs.Option.{option_map_or}
use Rattle.std.proofs.lemmas.Map.{keys-set_value}
use Rattle.obj_id.specs.declared.ids.JobNo.{JobNo}
use Rattle.private_store.specs.rules.Contents.{View}
use Rattle.private_store.specs.rules.Grants.{StandingGrant}
use Rattle.private_store.specs.rules.Jobs.{same_job}
use Rattle.spill_work.specs.Line.{WorkLine}
use Rattle.job_admission.specs.declared.Live.{Live}
use Rattle.job_admission.specs.Admissions.{Admissions, live_at, entered}
use Rattle.job_row.specs.Row.{Row}
use Rattle.node_core.specs.Hosted.{AreHosted, IsViewBy, Shows, beside_at}
use Rattle.node_core.proofs.Views.{node_of}

-- what holds of what was done, and of what was before, holds after a call that did it or changed nothing
pub either_way : {X E S : Type 0} (P : S → Type 0) (r : Result X E) (before after done : S) → OnOk r (after ≡ done) → OnErr r (after ≡ before) → P before → P done → P after
either_way P (Ok x) before after done is same h k = subst P (sym is) k
either_way P (Err e) before after done is same h k = subst P (sym same) h

module _ (a : Admissions) (job : JobNo) where
  abbrev with_count : Option Live → Admissions
  with_count o = option_map_or (λ live. record a { live = set_value (same_job job) a.live (record live { entered = live.entered + 1 }) }) o a

  pub greatest_stays : (entered a job).greatest ≡ a.greatest
  greatest_stays = elim (live_at a job) as (λ o. (with_count o).greatest ≡ a.greatest) [ None ↦ refl | Some live ↦ refl ]

  keys_stay : keys_of (entered a job).live ≡ keys_of a.live
  keys_stay = elim (live_at a job) as (λ o. keys_of (with_count o).live ≡ keys_of a.live) [
    | None ↦ refl
    | Some live ↦ keys-set_value (same_job job) a.live (record live { entered = live.entered + 1 })
  ]

  pub entered_hosted : (rows : List (JobNo × Row)) → AreHosted a rows → AreHosted (entered a job) rows
  entered_hosted rows kept = record {
    jobs = kept.jobs ∙ sym keys_stay;
    within = (λ i. list_all (λ j. nat_le j.0 (greatest_stays i)) (keys_stay i)) ∙ kept.within;
  }

-- the live jobs' counts are in no view
pub entered_shows : (number : ℕ) (a b : Admissions) (line : WorkLine) (grants : List StandingGrant) (rows : List (JobNo × Row)) → b.greatest ≡ a.greatest → (q : ℕ) (view : View)
    → Shows (node_of number b line grants rows) q view ↔ Shows (node_of number a line grants rows) q view
entered_shows number a b line grants rows same q view =
    let by_greatest : ℕ → Type 0 = λ g. IsViewBy g (beside_at (node_of number a line grants rows) q) q view (lookup (same_job (record { 0 = q })) rows) in
    (λ h. record { by_row = subst by_greatest same h.by_row }, λ h. record { by_row = subst by_greatest (sym same) h.by_row })
