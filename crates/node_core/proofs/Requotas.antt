-- A change of quota: its job's row takes the step, and the live jobs have another window.
use Rattle.std.proofs.Common.{◌≡◌, ℕ, Bool, true, false, not, cond, ◌||◌, List, [], ◌∷◌, map, Option, Some, None, is_some, refl, sym, ap, subst, ◌∙◌, arith}
use Rattle.std.specs.Prelude.{nat_le}
use Rattle.std.specs.List.{list_any, list_all}
use Rattle.std.specs.Map.{keys_of, lookup, set_value}
use Rattle.std.specs.Option.{option_map_or}
use Rattle.std.proofs.lemmas.Bool.Decides.{nat_tests}
use Rattle.std.proofs.lemmas.Map.{keys-set_value}
use Rattle.obj_id.specs.declared.ids.JobNo.{JobNo}
use Rattle.obj_id.specs.declared.commands.Reply.TheVariants as reply
use Rattle.obj_id.specs.declared.refusals.Refusal.{Refusal}
use Rattle.obj_id.specs.declared.refusals.Refusal.TheVariants.{NotAdmitted, BadSize, Full, NoRoom}
use Rattle.obj_id.specs.declared.works.Quota.{Quota}
use Rattle.private_store.specs.declared.inputs.Input.TheVariants as input
use Rattle.private_store.specs.declared.schedules.Event.TheVariants as event
use Rattle.private_store.specs.rules.Jobs.{same_job}
use Rattle.private_store.specs.rules.Limits.{is_quota}
use Rattle.private_store.specs.rules.Copies.{fits_quota}
use Rattle.private_store.specs.rules.Contents.{Contents, View}
use Rattle.private_store.specs.rules.Grants.{StandingGrant}
use Rattle.private_store.specs.rules.Shared.{job_is, widened, can_widen}
use Rattle.spill_work.specs.Line.{WorkLine, IsSameFor, same_work_job as same_line_job}
use Rattle.grants.specs.Table.{AreGrants}
use Rattle.job_admission.specs.declared.Live.{Live}
use Rattle.job_admission.specs.Admissions.{Admissions, live_at, lives_of, resize_check, resized}
use Rattle.job_row.specs.Quotas.{row_requota_check, store_check}
use Rattle.job_row.specs.Row.{Row}
use Rattle.row_steps.specs.Shown.{only, IsShown, RowStep}
use Rattle.node_core.specs.Hosted.{Hosted, AreHosted, IsRowView, IsViewBy, Shows, bytes_here, beside_at}
use Rattle.node_core.specs.OneJob.{NodeStepOne}
use Rattle.node_core.specs.Quotas.{refused_or, requota_refusal}
use Rattle.node_core.specs.Steps.{answer_of_check, requota_check}
use Rattle.node_core.proofs.Ending.{is_some-lookup}
use Rattle.node_core.proofs.Views.{Takes, node_of, views_stepped, told_stepped}
use Rattle.row_steps.specs.Beside.{SharedTables, shape_of}

-- ---- the check

-- why a job can't have the quota, where its row is this one, and the rest of the node says this
abbrev pub refusal_at : Quota → Option Refusal → Option Row → Option Refusal
refusal_at quota rest here = elim here [ None ↦ Some NotAdmitted | Some row ↦ refused_or (row_requota_check row quota) rest ]

-- what isn't refused at a node isn't refused by its row
pub row_lets : (here : Option Row) (row : Row) (quota : Quota) (rest : Option Refusal) → here ≡ Some row → refusal_at quota rest here ≡ None → row_requota_check row quota ≡ None
row_lets here row quota rest found none = by (row_requota_check row quota) (ap (refusal_at quota rest) (sym found) ∙ none)
  where
    by : (check : Option Refusal) → refused_or check rest ≡ None → check ≡ None
    by None e = refl
    by (Some r) e = e

-- whether a job is among the live ones
live_is : (job : ℕ) (live : List (JobNo × Live)) → list_any (job_is job) (lives_of live) ≡ list_any (same_job (record { 0 = job })) (keys_of live)
live_is job [] = refl
live_is job (e ∷ live) = λ i. same i || live_is job live i
  where
    same : job_is job (record { job = e.0.0; window = record { offset = e.1.offset; length = e.1.quota.window } }) ≡ same_job (record { 0 = job }) e.0
    same = grind (arith, nat_tests)

-- the checks of the row and of the live jobs are those of the rule, in its order
in_order : (live fine fits wide : Bool) → live ≡ true
    → refused_or (cond (not fine) (Some BadSize) (cond fits None (Some Full))) (cond (not live) (Some NotAdmitted) (cond (not fine) (Some BadSize) (cond (not wide) (Some NoRoom) None)))
    ≡ cond (not live) (Some NotAdmitted) (cond (not fine) (Some BadSize) (cond (not fits) (Some Full) (cond (not wide) (Some NoRoom) None)))
in_order true true true wide is = refl
in_order true true false wide is = refl
in_order true false fits wide is = refl
in_order false fine fits wide is = absurd cc

module _ (number : ℕ) (a : Admissions) (line : WorkLine) (grants : List StandingGrant) (rows : List (JobNo × Row)) (kept : AreHosted a rows) (job : JobNo) (quota : Quota) where
  abbrev node : Hosted
  node = node_of number a line grants rows

  lives : list_any (job_is job.0) (lives_of a.live) ≡ is_some (lookup (same_job job) rows)
  lives = live_is job.0 a.live ∙ sym (ap (list_any (same_job job)) kept.jobs) ∙ sym (is_some-lookup (same_job job) rows)

  pub not_live : (view : View) → lookup (same_job job) rows ≡ None → Some NotAdmitted ≡ requota_check a view job quota
  not_live view none =
      sym (ap (λ b. cond (not b) (Some NotAdmitted) (cond (not (is_quota quota)) (Some BadSize) (cond (not (fits_quota view.shape quota)) (Some Full) (cond (not (can_widen a.memory job.0 quota.window (lives_of a.live))) (Some NoRoom) None)))) (lives ∙ ap is_some none))

  -- of a job that has a row, by what the row says
  pub by_row : (row : Row) → lookup (same_job job) rows ≡ Some row → (o : Option Refusal) → ((beside : SharedTables) (contents : Contents) → IsShown row beside contents → o ≡ store_check (shape_of row beside) quota)
      → (view : View) → Shows node job.0 view → refused_or o (resize_check a job quota) ≡ requota_check a view job quota
  by_row row found o store view h =
      let beside = beside_at node job.0 in
      let r : IsRowView row beside job.0 view = subst (IsViewBy a.greatest beside job.0 view) found h.by_row in
      ap (λ o. refused_or o (resize_check a job quota)) (store beside view.contents r.shown ∙ ap (λ s. store_check s quota) (sym r.shape))
      ∙ in_order (list_any (job_is job.0) (lives_of a.live)) (is_quota quota) (fits_quota view.shape quota) (can_widen a.memory job.0 quota.window (lives_of a.live)) (lives ∙ ap is_some found)

-- ---- the live jobs

module _ (a : Admissions) (job : JobNo) (quota : Quota) where
  resized-keys : keys_of (resized a job quota).live ≡ keys_of a.live
  resized-keys = by (live_at a job)
    where
      by : (o : Option Live) → keys_of (option_map_or (λ live. record a { live = set_value (same_job job) a.live (record live { quota = quota }) }) o a).live ≡ keys_of a.live
      by None = refl
      by (Some live) = keys-set_value (same_job job) a.live (record live { quota = quota })

  resized-greatest : (resized a job quota).greatest ≡ a.greatest
  resized-greatest = by (live_at a job)
    where
      by : (o : Option Live) → (option_map_or (λ live. record a { live = set_value (same_job job) a.live (record live { quota = quota }) }) o a).greatest ≡ a.greatest
      by None = refl
      by (Some live) = refl

  pub resized_hosted : (b : Admissions) (old new : List (JobNo × Row)) → AreHosted a old → b ≡ resized a job quota → keys_of new ≡ keys_of old → AreHosted b new
  resized_hosted b old new kept is same =
      subst (λ c. AreHosted c new) (sym is) (record {
        jobs = same ∙ kept.jobs ∙ sym resized-keys;
        within = ap (λ g. list_all (λ j. nat_le j.0 g) (keys_of (resized a job quota).live)) resized-greatest ∙ ap (list_all (λ j. nat_le j.0 a.greatest)) resized-keys ∙ kept.within;
      })

-- ---- the step

module _ (number : ℕ) (a b : Admissions) (line : WorkLine) (grants : List StandingGrant) (table : AreGrants grants) (job : JobNo) (quota : Quota) (old new : List (JobNo × Row)) (row after : Row)
    (found : lookup (same_job job) old ≡ Some row)
    (updated : (q : JobNo) → lookup (same_job q) new ≡ cond (same_job job q) (Some after) (lookup (same_job q) old))
    (is : b ≡ resized a job quota) (lives : lives_of b.live ≡ map (widened job.0 quota.window) (lives_of a.live))
    (steps : (node : ℕ) (beside : SharedTables) (contents : Contents) → IsShown row beside contents → RowStep node row beside contents (input.Requota quota) (only reply.Ok) after beside) where
  abbrev at_old : Hosted
  at_old = node_of number a line grants old

  abbrev at_new : Hosted
  at_new = node_of number b line grants new

  low : b.greatest ≡ a.greatest
  low = ap (λ (c : Admissions). c.greatest) is ∙ resized-greatest a job quota

  takes : Takes number job (input.Requota quota) grants (bytes_here old) row line (only reply.Ok) after line
  takes contents own shown = steps number (beside_at at_old job.0) contents shown

  same : (other : JobNo) → same_line_job job other ≡ false → IsSameFor other line line
  same other differ = record { works = refl; used = refl }

  pub requota_steps : requota_refusal at_old job quota ≡ None → ((view : View) → Shows at_old job.0 view → None ≡ requota_check a view job quota) → NodeStepOne at_old (event.Requota job quota) (only reply.Ok) at_new
  requota_steps none shown = record {
    number = refl;
    views = views_stepped number a b low line line grants table job (input.Requota quota) old new row after (only reply.Ok) found updated takes same;
    response = told_stepped number a b low line line grants table job (input.Requota quota) old new row after (only reply.Ok) found updated takes same;
    operator = sym (ap answer_of_check none);
    by_views = λ v h. ap answer_of_check (shown (v job.0) (h job.0));
    admissions = is;
    lives = lives;
    line = λ v shows. refl;
    grants = refl;
  }
