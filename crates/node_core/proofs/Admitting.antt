-- What an admission leaves: the new job's row shows a store that has begun, and the others are as they were.
use Rattle.std.proofs.Common.{◌≡◌, ℕ, ◌<◌, ◌==◌, Bool, true, false, not, cond, ◌||◌, List, [], ◌∷◌, ◌++◌, length, Option, Some, None, is_none, refl, sym, ap, subst, ◌∙◌, arith}
use Rattle.std.specs.Prelude.{nat_le}
use Rattle.std.specs.List.{list_all}
use Rattle.std.specs.Map.{keys_of, lookup}
use Rattle.std.specs.Option.{option_map_or}
use Rattle.std.proofs.lemmas.Bool.{eqb-true}
use Rattle.std.proofs.lemmas.Bool.Decides.{nat_tests}
use Rattle.std.proofs.lemmas.List.Folds.{list_all-append}
use Rattle.obj_id.specs.declared.ids.JobNo.{JobNo}
use Rattle.obj_id.specs.declared.ids.ObjectId.{ObjectId}
use Rattle.obj_id.specs.declared.works.JobKey.{JobKey}
use Rattle.obj_id.specs.declared.works.Quota.{Quota}
use Rattle.obj_id.specs.declared.commands.Reply.TheVariants as reply
use Rattle.obj_id.specs.declared.refusals.Refusal.TheVariants.{BadId, BadSize, Exists, NoRoom}
use Rattle.private_store.specs.declared.inputs.Input.{Input}
use Rattle.private_store.specs.declared.inputs.Input.TheVariants as input
use Rattle.private_store.specs.declared.inputs.Judged.TheVariants as judged
use Rattle.private_store.specs.declared.schedules.Event.TheVariants as event
use Rattle.private_store.specs.rules.Jobs.{same_job}
use Rattle.private_store.specs.rules.Limits.{is_quota, most_live_jobs}
use Rattle.private_store.specs.rules.Shape.{WorkInFlight, GrantGiven, live, not_begun}
use Rattle.private_store.specs.rules.Change.{done}
use Rattle.private_store.specs.rules.Step.{step}
use Rattle.private_store.specs.rules.Contents.{Contents, View, judge}
use Rattle.private_store.specs.rules.Grants.{StandingGrant}
use Rattle.private_store.specs.rules.Private.{view_step, outcome, no_contents}
use Rattle.private_store.specs.rules.Shared.{admitted as window_admitted}
use Rattle.private_store.specs.laws.Invariants.{IsViewKept}
use Rattle.store_facts.proofs.Checks.{checked-nil, checked-false}
use Rattle.store_facts.proofs.StepsKept.{view_keeps, no_store_kept}
use Rattle.store_facts.proofs.Tests.{both, both_left, both_right, none_some}
use Rattle.spill_work.specs.Line.{WorkLine}
use Rattle.job_admission.specs.declared.Live.{Live}
use Rattle.job_admission.specs.Admissions.{Admissions, admit_check, with_admitted, window_place_for, lives_of}
use Rattle.job_admission.proofs.ForCallers.{admit_passed}
use Rattle.row_commands.specs.Granting.{row_bytes}
use Rattle.job_row.specs.Row.{Row, new_row}
use Rattle.row_steps.specs.Shown.{seen, only, IsShown}
use Rattle.row_commands.proofs.ForCallers.{IsAlike, alike_bytes, granted_length}
use Rattle.row_steps.proofs.ForCallers.{kept_as_they_are}
use Rattle.node_core.specs.Hosted.{Hosted, AreHosted, IsRowView, IsBare, IsViewBy, Shows, empty_view, bytes_here, beside_at}
use Rattle.node_core.specs.Steps.{answer_of_check}
use Rattle.node_core.specs.OneJob.{IsStepOf, NodeStepOne}
use Rattle.node_core.proofs.Others.{other_view}
use Rattle.node_core.proofs.Views.{itself, another, node_of}
use Rattle.row_steps.specs.Beside.{SharedTables, beside_of, received_bytes}

-- ---- the numbers

-- a number above all is no job's
pub absent_above : {X : Type 0} (greatest : ℕ) (job : JobNo) (es : List (JobNo × X)) → greatest < job.0 → list_all (λ j. nat_le j.0 greatest) (keys_of es) ≡ true → lookup (same_job job) es ≡ None
absent_above greatest job [] above h = refl
absent_above greatest job (e ∷ es) above h =
    let low : nat_le e.0.0 greatest ≡ true = both_left (nat_le e.0.0 greatest) _ h in
    let other : same_job job e.0 ≡ false = grind (arith, nat_tests, low, above) in
    ap (λ b. cond b (Some e.1) (lookup (same_job job) es)) other ∙ absent_above greatest job es above (both_right (nat_le e.0.0 greatest) _ h)

raised : (low high : ℕ) (jobs : List JobNo) → low < high → list_all (λ j. nat_le j.0 low) jobs ≡ true → list_all (λ j. nat_le j.0 high) jobs ≡ true
raised low high [] lt h = refl
raised low high (j ∷ jobs) lt h =
    let l : nat_le j.0 low ≡ true = both_left (nat_le j.0 low) _ h in
    both (nat_le j.0 high) _ (grind (arith, nat_tests, l, lt)) (raised low high jobs lt (both_right (nat_le j.0 low) _ h))

keys_of-append : {X : Type 0} (es fs : List (JobNo × X)) → keys_of (es ++ fs) ≡ keys_of es ++ keys_of fs
keys_of-append [] fs = refl
keys_of-append (e ∷ es) fs = ap (λ ks. e.0 ∷ ks) (keys_of-append es fs)

-- a job that passes the check has a place
pub placed : (a : Admissions) (job : JobNo) (quota : Quota) → admit_check a job quota ≡ None → (offset : ℕ) × (window_place_for a quota.window ≡ Some offset)
placed a job quota h = by (job.0 == 0) (is_quota quota) (nat_le job.0 a.greatest) (nat_le most_live_jobs (length (lives_of a.live))) (window_place_for a quota.window) refl h
  where
    by : (zero good old full : Bool) (o : Option ℕ) → window_place_for a quota.window ≡ o
        → cond zero (Some BadId) (cond (not good) (Some BadSize) (cond old (Some Exists) (cond (full || is_none o) (Some NoRoom) None))) ≡ None
        → (offset : ℕ) × (window_place_for a quota.window ≡ Some offset)
    by true good old full o e h = none_some BadId (sym h)
    by false false old full o e h = none_some BadSize (sym h)
    by false true true full o e h = none_some Exists (sym h)
    by false true false true o e h = none_some NoRoom (sym h)
    by false true false false None e h = none_some NoRoom (sym h)
    by false true false false (Some offset) e h = (offset, e)

-- ---- the new job's row

-- a job without a row has nothing here
absent_bytes : (rows : List (JobNo × Row)) (id : ObjectId) → lookup (same_job id.job) rows ≡ None → bytes_here rows id ≡ []
absent_bytes rows id none = ap (λ o. option_map_or (λ row. row_bytes row id) o []) none

-- a store that isn't live keeps the invariants of every store
bare_kept : (line : WorkLine) (grants : List StandingGrant) (bytes : ObjectId → List ℕ) (job : ℕ) → IsViewKept (empty_view job not_begun (beside_of line grants bytes job))
bare_kept line grants bytes job =
    let k = (no_store_kept job).kept in
    record {
      order = (no_store_kept job).order;
      kept = record {
        shape = record {
          dead = k.shape.dead;
          quota = k.shape.quota;
          by_id = k.shape.by_id;
          each = k.shape.each;
          works_of_copies = k.shape.works_of_copies;
          one_work = k.shape.one_work;
          numbers_used = k.shape.numbers_used;
          one_number = k.shape.one_number;
          numbers_end = k.shape.numbers_end;
          grants_of_copies = k.shape.grants_of_copies;
          own_grants = k.shape.own_grants;
          most_copies = k.shape.most_copies;
          most_works = k.shape.most_works;
          most_grants = k.shape.most_grants;
          most_ended = k.shape.most_ended;
        };
        extents = record { placed = k.extents.placed; apart = k.extents.apart };
        device = k.device;
        filled = record { each = λ id copy found. none_some copy found; resident = k.filled.resident; received = granted_length bytes grants job };
      };
    }

module _ (number : ℕ) (line : WorkLine) (grants : List StandingGrant) (bytes : ObjectId → List ℕ) (job : JobNo) (quota : Quota) (good : is_quota quota ≡ true) where
  abbrev beside : SharedTables
  beside = beside_of line grants bytes job.0

  abbrev fresh_view : View
  fresh_view = empty_view job.0 not_begun beside

  abbrev pub x : Input
  x = input.Begin quota

  abbrev filled : Contents
  filled = record no_contents { received = received_bytes beside }

  -- a store that has begun, with these works and gifts
  abbrev begun : List WorkInFlight → ℕ → List GrantGiven → View
  begun works used given = record { shape = record fresh_view.shape { life = live; quota = quota; works = works; works_asked = used; given = given }; order = []; contents = filled }

  begins : step [] fresh_view.shape (judged.Begin quota) ≡ done (record fresh_view.shape { life = live; quota = quota })
  begins = checked-false fresh_view.shape (not (is_quota quota)) BadSize [] _ (ap not good) ∙ checked-nil fresh_view.shape _

  begin_step : view_step number fresh_view x ≡ outcome number fresh_view x (judge number fresh_view x) (done (record fresh_view.shape { life = live; quota = quota }))
  begin_step = ap (outcome number fresh_view x (judge number fresh_view x)) begins

  begin_view : (view_step number fresh_view x).view ≡ begun [] 0 []
  begin_view =
      ap (λ o. o.view) begin_step
      ∙ ap (λ t. record { shape = record fresh_view.shape { life = live; quota = quota }; order = []; contents = record no_contents { received = t } }) (kept_as_they_are bytes beside.received)

  begin_told : IsStepOf number fresh_view x (only reply.Ok)
  begin_told = record {
    reply = sym (ap (λ o. o.reply) begin_step);
    posts = sym (ap (λ o. o.posts) begin_step);
    erased = sym (ap (λ o. o.erased) begin_step);
  }

  module _ (works : beside.works ≡ []) (used : beside.used ≡ 0) (given : beside.given ≡ []) where
    row_shows : begun [] 0 [] ≡ seen (new_row job.0 quota) beside filled
    row_shows = ap (λ w. begun w 0 []) (sym works) ∙ ap (λ n. begun beside.works n []) (sym used) ∙ ap (begun beside.works beside.used) (sym given)

    new_shown : IsShown (new_row job.0 quota) beside filled
    new_shown = record {
      kept = subst IsViewKept (begin_view ∙ row_shows) (view_keeps number fresh_view x (bare_kept line grants bytes job.0));
      there = refl;
      listed = λ id k found. cc;
      bytes = λ id k e found lies. cc;
      digests = λ id k found keeps. cc;
      working = λ id k found. cc;
      granted = λ id k found. cc;
      received = refl;
    }

    new_row_view : IsRowView (new_row job.0 quota) beside job.0 (view_step number fresh_view x).view
    new_row_view = subst (IsRowView (new_row job.0 quota) beside job.0) (sym begin_view) (record {
      own = refl;
      shape = ap (λ v. v.shape) row_shows;
      order = refl;
      shown = new_shown;
    })

-- ---- the step

-- what a greater number admitted leaves of another job's view
raised_view : (low high : ℕ) (beside : SharedTables) (q : ℕ) (view : View) (o : Option Row) → low < high → IsViewBy low beside q view o → IsViewBy high beside q view o
raised_view low high beside q view (Some row) lt h = h
raised_view low high beside q view None lt h = record {
  life = h.life;
  is = h.is;
  dead = h.dead;
  fresh = λ above. h.fresh (omega (arith, lt, above));
  works = h.works;
  used = h.used;
  given = h.given;
}

module _ (number : ℕ) (a b : Admissions) (line : WorkLine) (grants : List StandingGrant) (job : JobNo) (quota : Quota) (key : JobKey)
    (old new : List (JobNo × Row)) (kept : AreHosted a old) (passed : admit_check a job quota ≡ None) (is : b ≡ with_admitted a job quota key) where
  above : a.greatest < job.0
  above = (admit_passed a job quota passed).2

  within_old : list_all (λ j. nat_le j.0 a.greatest) (keys_of old) ≡ true
  within_old = ap (list_all (λ j. nat_le j.0 a.greatest)) kept.jobs ∙ kept.within

  pub absent : lookup (same_job job) old ≡ None
  absent = absent_above a.greatest job old above within_old

  abbrev x_live : Live
  x_live = record { quota = quota; key = key; offset = (placed a job quota passed).0; entered = 0 }

  b_is : ◌≡◌ {A = Admissions} b (record a { greatest = job.0; live = a.live ++ (job, x_live) ∷ [] })
  b_is = is ∙ ap (λ o. option_map_or (λ offset. record a { greatest = job.0; live = a.live ++ (job, record { quota = quota; key = key; offset = offset; entered = 0 }) ∷ [] }) o a) (placed a job quota passed).1

  pub admitted_hosted : new ≡ old ++ (job, new_row job.0 quota) ∷ [] → AreHosted b new
  admitted_hosted entries =
      subst (λ c. AreHosted c new) (sym b_is) (record {
        jobs = ap keys_of entries ∙ keys_of-append old _ ∙ ap (λ ks. ks ++ job ∷ []) kept.jobs ∙ sym (keys_of-append a.live ((job, x_live) ∷ []));
        within = ap (list_all (λ j. nat_le j.0 job.0)) (keys_of-append a.live ((job, x_live) ∷ []))
            ∙ list_all-append (λ j. nat_le j.0 job.0) (keys_of a.live) (job ∷ [])
            ∙ both _ _ (raised a.greatest job.0 (keys_of a.live) above kept.within) (both (nat_le job.0 job.0) true (grind (arith, nat_tests)) refl);
      })

  module _ (updated : (q : JobNo) → lookup (same_job q) new ≡ cond (same_job job q) (Some (new_row job.0 quota)) (lookup (same_job q) old))
      (lives : lives_of b.live ≡ window_admitted a.memory job.0 quota.window (lives_of a.live)) where
    abbrev before : Hosted
    before = node_of number a line grants old

    abbrev after : Hosted
    after = node_of number b line grants new

    good : is_quota quota ≡ true
    good = (admit_passed a job quota passed).1

    -- no object has other bytes by the new row
    same_bytes : (id : ObjectId) → bytes_here old id ≡ bytes_here new id
    same_bytes id = by (same_job job id.job) refl
      where
        by : (t : Bool) → same_job job id.job ≡ t → bytes_here old id ≡ bytes_here new id
        by false e = sym (ap (λ o. option_map_or (λ row. row_bytes row id) o []) (updated id.job ∙ ap (λ t. cond t (Some (new_row job.0 quota)) (lookup (same_job id.job) old)) e))
        by true e =
            let jobs : id.job.0 ≡ job.0 = sym (eqb-true job.0 id.job.0 e) in
            absent_bytes old id (ap (λ n. lookup (same_job (record { 0 = n })) old) jobs ∙ absent)
            ∙ sym (ap (λ o. option_map_or (λ row. row_bytes row id) o []) (updated id.job ∙ ap (λ t. cond t (Some (new_row job.0 quota)) (lookup (same_job id.job) old)) e))

    same : (q : ℕ) → IsAlike (beside_at before q) (beside_at after q)
    same q = alike_bytes (bytes_here old) (bytes_here new) line line grants q (record { works = refl; used = refl }) (λ id there. same_bytes id)

    no_row : (view : View) → Shows before job.0 view → IsBare a.greatest (beside_at before job.0) job.0 view
    no_row view h = subst (IsViewBy a.greatest (beside_at before job.0) job.0 view) absent h.by_row

    fresh_is : (view : View) → IsBare a.greatest (beside_at before job.0) job.0 view → view ≡ empty_view job.0 not_begun (beside_at before job.0)
    fresh_is view h = h.is ∙ ap (λ life. empty_view job.0 life (beside_at before job.0)) (h.fresh above)

    shows_at : (q : ℕ) (view : View) → IsViewBy job.0 (beside_at before q) q view (lookup (same_job (record { 0 = q })) new) → Shows after q view
    shows_at q view h = record {
      by_row = subst (λ (c : Admissions). IsViewBy c.greatest (beside_at after q) q view (lookup (same_job (record { 0 = q })) new)) (sym b_is)
          (other_view (beside_at before q) (beside_at after q) (same q) job.0 q view (lookup (same_job (record { 0 = q })) new) h);
    }

    own_shows : (view : View) → Shows before job.0 view → Shows after job.0 (view_step number view (input.Begin quota)).view
    own_shows view h =
        let n = no_row view h in
        subst (λ v. Shows after job.0 (view_step number v (input.Begin quota)).view) (sym (fresh_is view n))
        (shows_at job.0 _ (subst (IsViewBy job.0 (beside_at before job.0) job.0 _)
        (sym (updated job ∙ ap (λ t. cond t (Some (new_row job.0 quota)) (lookup (same_job job) old)) (itself job)))
        (new_row_view number line grants (bytes_here old) job quota good n.works n.used n.given)))

    other_shows : (q : ℕ) (view : View) → (q == job.0) ≡ false → Shows before q view → Shows after q view
    other_shows q view differ h =
        shows_at q view (subst (IsViewBy job.0 (beside_at before q) q view)
        (sym (updated (record { 0 = q }) ∙ ap (λ t. cond t (Some (new_row job.0 quota)) (lookup (same_job (record { 0 = q })) old)) (another job q differ)))
        (raised_view a.greatest job.0 (beside_at before q) q view (lookup (same_job (record { 0 = q })) old) above h.by_row))

    views : (q : ℕ) (view : View) → Shows before q view → Shows after q (cond (q == job.0) (view_step number view (input.Begin quota)).view view)
    views q view h = by (q == job.0) refl
      where
        by : (t : Bool) → (q == job.0) ≡ t → Shows after q (cond t (view_step number view (input.Begin quota)).view view)
        by true e =
            let same = eqb-true q job.0 e in
            subst (λ n. Shows after n (view_step number view (input.Begin quota)).view) (sym same) (own_shows view (subst (λ n. Shows before n view) same h))
        by false e = other_shows q view e h

    pub admit_steps : NodeStepOne before (event.Admit job quota key) (only reply.Ok) after
    admit_steps = record {
      number = refl;
      views = λ v shows q. views q (v q) (shows q);
      response = λ view h. subst (λ v. IsStepOf number v (input.Begin quota) (only reply.Ok)) (sym (fresh_is view (no_row view h))) (begin_told number line grants (bytes_here old) job quota good);
      operator = sym (ap answer_of_check passed);
      by_views = λ v h. refl;
      admissions = is;
      lives = lives;
      line = λ v shows. refl;
      grants = refl;
    }
