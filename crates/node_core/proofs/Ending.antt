-- What the end of a job leaves: nothing of the job, and the others as they were.
use Rattle.std.proofs.Common.{◌≡◌, ℕ, Bool, true, false, not, cond, ◌||◌, List, [], ◌∷◌, ◌++◌, map, filter, Some, None, is_some, refl, sym, ap, subst, ◌∙◌, arith, T}
use Rattle.std.specs.Prelude.{nat_le}
use Rattle.std.specs.List.{list_all, list_any}
use Rattle.std.specs.Map.{keys_of, lookup, remove_entry}
use Rattle.std.specs.Option.{option_map_or}
use Rattle.std.proofs.lemmas.List.{append-nil}
use Rattle.std.proofs.lemmas.Bool.{eqb-true}
use Rattle.std.proofs.lemmas.Bool.Decides.{nat_tests}
use Rattle.obj_id.specs.declared.ids.JobNo.{JobNo}
use Rattle.obj_id.specs.declared.ids.ObjectId.{ObjectId}
use Rattle.obj_id.specs.declared.messages.DirectoryMessage.TheVariants.{EndJob}
use Rattle.obj_id.specs.declared.commands.Reply.TheVariants as reply
use Rattle.obj_id.specs.declared.refusals.Refusal.TheVariants.{Stale, NotAdmitted}
use Rattle.private_store.specs.declared.inputs.Input.TheVariants as input
use Rattle.private_store.specs.declared.inputs.Judged.TheVariants as judged
use Rattle.private_store.specs.declared.schedules.Event.TheVariants as event
use Rattle.private_store.specs.declared.schedules.NodeEvent.TheVariants.{Own}
use Rattle.private_store.specs.rules.Jobs.{same_job}
use Rattle.private_store.specs.rules.Shape.{Seen, ended}
use Rattle.private_store.specs.rules.Tables.{ids_of}
use Rattle.obj_id.specs.declared.works.DeviceKey.{DeviceKey}
use Rattle.private_store.specs.rules.Change.{sending, erasing}
use Rattle.private_store.specs.rules.Events.{end_job_here, over}
use Rattle.private_store.specs.rules.Step.{step}
use Rattle.private_store.specs.rules.Contents.{Contents, View, kept}
use Rattle.private_store.specs.rules.Grants.{StandingGrant, grants_ended, grants_left, is_given_by}
use Rattle.private_store.specs.laws.Invariants.{has_grant}
use Rattle.private_store.specs.rules.Private.{view_step, outcome, to_directory, no_contents}
use Rattle.private_store.specs.rules.Shared.{job_is}
use Rattle.store_facts.proofs.Checks.{checked-nil, checked-false}
use Rattle.store_facts.proofs.Tests.{true_false, both, both_left, both_right}
use Rattle.spill_work.specs.Line.{WorkLine, Drops, is_of as is_of_line}
use Rattle.grants.specs.Table.{AreGrants}
use Rattle.grants.proofs.ForCallers.{left_are_grants}
use Rattle.job_admission.specs.Admissions.{Admissions, live_at, lives_of, finished}
use Rattle.row_commands.specs.Granting.{row_bytes}
use Rattle.row_commands.specs.Notes.{beside_rest}
use Rattle.job_row.specs.Row.{Row}
use Rattle.row_steps.specs.Shown.{seen, only, IsShown, RowGiven}
use Rattle.job_row.proofs.ForCallers.{sorted-copies}
use Rattle.row_commands.proofs.ForCallers.{keys-backed, is_of, none_given, rest_of_job}
use Rattle.row_steps.proofs.ForCallers.{kept_as_they_are}
use Rattle.job_row.specs.Ending.{keys_backed}
use Rattle.node_core.proofs.Granted.{own_gave}
use Rattle.node_core.proofs.GrantsEnd.{ended_shows, ended_inputs, ends_judged}
use Rattle.node_core.specs.Hosted.{Hosted, AreHosted, IsHosted, IsRowView, IsBare, IsViewBy, Shows, ShowsAll, empty_view, bytes_here, beside_at}
use Rattle.node_core.specs.JobEnds.{IsOwnEnd, LetsJobGo}
use Rattle.node_core.specs.OneJob.{IsStepOf}
use Rattle.node_core.specs.Outcomes.{with_no_notes, with_ends, end_noted}
use Rattle.node_core.specs.Steps.{NodeGiven, answer_of_check, queued, NodeStep}
use Rattle.node_core.proofs.Views.{itself, view_is, node_of}
use Rattle.row_steps.specs.Beside.{SharedTables, row_given_by, received_bytes}

-- ---- the numbers

pub is_some-lookup : {X : Type 0} (test : JobNo → Bool) (es : List (JobNo × X)) → is_some (lookup test es) ≡ list_any test (keys_of es)
is_some-lookup test [] = refl
is_some-lookup test (e ∷ es) = by (test e.0) (is_some-lookup test es)
  where
    by : (b : Bool) → is_some (lookup test es) ≡ list_any test (keys_of es) → is_some (cond b (Some e.1) (lookup test es)) ≡ b || list_any test (keys_of es)
    by true h = refl
    by false h = h

-- a live job's number isn't above the greatest
low_found : (greatest : ℕ) (job : JobNo) (jobs : List JobNo) → list_any (same_job job) jobs ≡ true → list_all (λ j. nat_le j.0 greatest) jobs ≡ true → nat_le job.0 greatest ≡ true
low_found greatest job [] there h = absurd cc
low_found greatest job (j ∷ jobs) there h = by (same_job job j) refl there (λ t. low_found greatest job jobs t (both_right (nat_le j.0 greatest) _ h))
  where
    by : (b : Bool) → same_job job j ≡ b → b || list_any (same_job job) jobs ≡ true → (list_any (same_job job) jobs ≡ true → nat_le job.0 greatest ≡ true) → nat_le job.0 greatest ≡ true
    by true e there later = let low : nat_le j.0 greatest ≡ true = both_left (nat_le j.0 greatest) _ h in grind (arith, nat_tests, low, e)
    by false e there later = later there

-- the numbers without the first that passes
abbrev without : (JobNo → Bool) → List JobNo → List JobNo
without test [] = []
without test (j ∷ jobs) = cond (test j) jobs (j ∷ without test jobs)

keys_of-removed : {X : Type 0} (test : JobNo → Bool) (es : List (JobNo × X)) → keys_of (remove_entry test es) ≡ without test (keys_of es)
keys_of-removed test [] = refl
keys_of-removed test (e ∷ es) = by (test e.0) (keys_of-removed test es)
  where
    by : (b : Bool) → keys_of (remove_entry test es) ≡ without test (keys_of es) → keys_of (cond b es (e ∷ remove_entry test es)) ≡ cond b (keys_of es) (e.0 ∷ without test (keys_of es))
    by true h = refl
    by false h = ap (λ ks. e.0 ∷ ks) h

all_without : (p test : JobNo → Bool) (jobs : List JobNo) → list_all p jobs ≡ true → list_all p (without test jobs) ≡ true
all_without p test [] h = refl
all_without p test (j ∷ jobs) h = by (test j) (all_without p test jobs (both_right (p j) _ h))
  where
    by : (b : Bool) → list_all p (without test jobs) ≡ true → list_all p (cond b jobs (j ∷ without test jobs)) ≡ true
    by true k = both_right (p j) _ h
    by false k = both (p j) _ (both_left (p j) _ h) k

pub finished_hosted : (a b : Admissions) (job : JobNo) (old new : List (JobNo × Row)) → AreHosted a old → b ≡ finished a job → new ≡ remove_entry (same_job job) old → AreHosted b new
finished_hosted a b job old new kept is removed =
    subst (λ c. AreHosted c new) (sym is) (record {
      jobs = ap keys_of removed ∙ keys_of-removed (same_job job) old ∙ ap (without (same_job job)) kept.jobs ∙ sym (keys_of-removed (same_job job) a.live);
      within = ap (list_all (λ j. nat_le j.0 a.greatest)) (keys_of-removed (same_job job) a.live)
          ∙ all_without (λ j. nat_le j.0 a.greatest) (same_job job) (keys_of a.live) kept.within;
    })

-- ---- the job's own store

none_left : (ids : List ObjectId) → filter (λ (id : ObjectId). false) ids ≡ []
none_left [] = refl
none_left (id ∷ ids) = none_left ids

module _ (number : ℕ) (row : Row) (beside : SharedTables) (contents : Contents) (h : IsShown row beside contents) where
  abbrev v : View
  v = seen row beside contents

  ends : step row.order v.shape judged.End ≡ erasing v.shape (end_job_here v.shape)
  ends = checked-false v.shape false Stale [] (erasing v.shape (end_job_here v.shape)) refl ∙ checked-nil v.shape (erasing v.shape (end_job_here v.shape))

  end_step : view_step number v input.End ≡ outcome number v input.End judged.End (erasing v.shape (end_job_here v.shape))
  end_step = ap (outcome number v input.End judged.End) ends

  -- what others granted stays
  received_stays : kept (λ seen. true) (λ seen. []) contents.received beside.received ≡ received_bytes beside
  received_stays = ap (λ t. kept (λ (seen : Seen). true) (λ seen. []) t beside.received) h.received ∙ kept_as_they_are beside.bytes beside.received

  pub end_view : (view_step number v input.End).view ≡ empty_view row.job ended beside
  unfolding sending
  end_view =
      ap (λ o. o.view) end_step
      ∙ ap (λ ids. record { shape = over v.shape; order = ids ++ []; contents = record no_contents { received = kept (λ (seen : Seen). true) (λ seen. []) contents.received beside.received } }) (none_left row.order)
      ∙ ap (λ t. record { shape = over v.shape; order = []; contents = record no_contents { received = t } }) received_stays

  pub end_works : (view_step number v input.End).works ≡ []
  unfolding sending
  end_works = ap (λ o. o.works) end_step

  pub end_told : (erased : List DeviceKey) → erased ≡ keys_backed row (ids_of row.copies) → IsStepOf number v input.End (record { reply = reply.Ok; posts = to_directory (EndJob number); erased = erased })
  unfolding sending
  end_told erased keys = record {
    reply = sym (ap (λ o. o.reply) end_step);
    posts = sym (ap (λ o. o.posts) end_step);
    erased = keys ∙ keys-backed row row.copies (subst T (sorted-copies row.copies) (subst T (sym h.kept.kept.shape.by_id) tt)) (λ q k found. found) ∙ sym (ap (λ o. o.erased) end_step);
  }

-- ---- the step

-- a job that isn't live is refused, and nothing changes
pub end_refused : (node : Hosted) (job : JobNo) → is_some (live_at node.admissions job) ≡ false → NodeStep node (Own (event.JobEnd job)) (with_no_notes (only (reply.Refused NotAdmitted))) node
end_refused node job none = record {
  number = refl;
  grants = refl;
  admissions = refl;
  lives = refl;
  each = λ v shows. record {
    views = shows;
    response = record { posts = refl; erased = refl };
    notes = refl;
    operator = sym (ap (λ t. answer_of_check (cond t None (Some NotAdmitted))) none);
    line = sym (append-nil node.works.works);
  };
}

module _ (number : ℕ) (a b : Admissions) (line after_line : WorkLine) (grants : List StandingGrant) (table : AreGrants grants) (job : JobNo) (old new : List (JobNo × Row))
    (kept : AreHosted a old) (is_live : is_some (live_at a job) ≡ true) (is : b ≡ finished a job) (drops : Drops line job after_line)
    (updated : (q : JobNo) → lookup (same_job q) new ≡ cond (same_job job q) None (lookup (same_job q) old))
    (lives : lives_of b.live ≡ filter (λ live. not (job_is job.0 live)) (lives_of a.live))
    (own_row : Row) (found : lookup (same_job job) old ≡ Some own_row) (erased : List DeviceKey) (keys : erased ≡ keys_backed own_row (ids_of own_row.copies)) where
  abbrev test : StandingGrant → Bool
  test = is_given_by job.0

  abbrev left : List StandingGrant
  left = grants_left test grants

  abbrev ended_grants : List StandingGrant
  ended_grants = grants_ended test grants

  abbrev before : Hosted
  before = node_of number a line grants old

  abbrev after : Hosted
  after = node_of number b after_line left new

  listed : list_any (same_job job) (keys_of a.live) ≡ true
  listed = sym (is_some-lookup (same_job job) a.live) ∙ is_live

  not_above : nat_le job.0 a.greatest ≡ true
  not_above = low_found a.greatest job (keys_of a.live) listed kept.within

  row_view : (view : View) → Shows before job.0 view → IsRowView own_row (beside_at before job.0) job.0 view
  row_view view h = subst (IsViewBy a.greatest (beside_at before job.0) job.0 view) found h.by_row

  -- no grant is left of an object of the job
  none_of_job : (id : ObjectId) → list_any (is_of id) left ≡ true → same_job job id.job ≡ true → false ≡ true
  none_of_job id there same =
      let jobs : id.job.0 ≡ job.0 = sym (eqb-true job.0 id.job.0 same) in
      let gave : has_grant (row_given_by left job.0) id ≡ true = subst (λ n. has_grant (row_given_by left n) id ≡ true) jobs (own_gave left (left_are_grants test grants table) id there) in
      ap (λ given. has_grant given id) (sym (none_given grants (bytes_here old) test table number job.0 ended (rest_of_job grants (bytes_here old) job.0))) ∙ gave

  rows_other : (q : JobNo) → same_job job q ≡ false → lookup (same_job q) new ≡ lookup (same_job q) old
  rows_other q e = updated q ∙ ap (λ t. cond t None (lookup (same_job q) old)) e

  bytes_left : (id : ObjectId) → list_any (is_of id) left ≡ true → bytes_here old id ≡ bytes_here new id
  bytes_left id there = by (same_job job id.job) refl
    where
      by : (t : Bool) → same_job job id.job ≡ t → bytes_here old id ≡ bytes_here new id
      by true e = true_false (none_of_job id there e)
      by false e = sym (ap (λ o. option_map_or (λ row. row_bytes row id) o []) (rows_other id.job e))

  low : b.greatest ≡ a.greatest
  low = ap (λ (c : Admissions). c.greatest) is

  module _ (v : ℕ → View) (shows : ShowsAll before v) where
    r : IsRowView own_row (beside_at before job.0) job.0 (v job.0)
    r = row_view (v job.0) (shows job.0)

    -- after the own step, before it is notified of ends
    left_bare : IsBare a.greatest (beside_rest after_line test grants (bytes_here old) job.0) job.0 (view_step number (v job.0) input.End).view
    left_bare = record {
      life = ended;
      is = ap (λ w. (view_step number w input.End).view) (view_is own_row (beside_at before job.0) job.0 (v job.0) r)
          ∙ end_view number own_row (beside_at before job.0) (v job.0).contents r.shown ∙ ap (λ n. empty_view n ended (beside_at before job.0)) r.own;
      dead = refl;
      fresh = λ above. absurd (grind (arith, nat_tests, not_above, above));
      works = drops.own_works;
      used = drops.own_used;
      given = rest_of_job grants (bytes_here old) job.0;
    }

    own_left : IsViewBy a.greatest (beside_rest after_line test grants (bytes_here old) job.0) job.0 (view_step number (v job.0) input.End).view (lookup (same_job job) new)
    own_left =
        subst (IsViewBy a.greatest (beside_rest after_line test grants (bytes_here old) job.0) job.0 (view_step number (v job.0) input.End).view)
        (sym (updated job ∙ ap (λ t. cond t None (lookup (same_job job) old)) (itself job))) left_bare

    told_end : IsStepOf number (v job.0) input.End (record { reply = reply.Ok; posts = to_directory (EndJob number); erased = erased })
    told_end =
        subst (λ w. IsStepOf number w input.End (record { reply = reply.Ok; posts = to_directory (EndJob number); erased = erased }))
        (sym (view_is own_row (beside_at before job.0) job.0 (v job.0) r)) (end_told number own_row (beside_at before job.0) (v job.0).contents r.shown erased keys)

    no_works : (view_step number (v job.0) input.End).works ≡ []
    no_works =
        ap (λ w. (view_step number w input.End).works) (view_is own_row (beside_at before job.0) job.0 (v job.0) r)
        ∙ end_works number own_row (beside_at before job.0) (v job.0).contents r.shown

  abbrev pub given : NodeGiven
  given = record { reply = reply.Ok; posts = to_directory (EndJob number); erased = erased; notes = map end_noted ended_grants }

  pub end_steps : NodeStep before (Own (event.JobEnd job)) given after
  end_steps = record {
    number = refl;
    grants = refl;
    admissions = is;
    lives = lives;
    each = λ v shows.
        let response = told_end v shows in
        record {
          views = λ q. subst (Shows after q) (sym (ended_inputs number job.0 input.End ended_grants q (v q)))
              (ended_shows number a b low line after_line grants table test job input.End old new (λ grant e. e) rows_other drops.others bytes_left v shows (own_left v shows) q);
          response = record { reply = response.reply; posts = response.posts; erased = response.erased };
          notes = ends_judged number v ended_grants;
          operator = sym (ap (λ t. answer_of_check (cond t None (Some NotAdmitted))) is_live);
          line = drops.works ∙ sym (append-nil (filter (λ work. not (is_of_line job work)) line.works))
              ∙ ap (λ ws. filter (λ work. not (is_of_line job work)) line.works ++ queued job.0 ws) (sym (no_works v shows));
        };
  }

-- from what it gives and what it leaves
pub job_ends : (old new : Hosted) (job : JobNo) (own : RowGiven) → IsHosted old.admissions old.grants old.rows → is_some (live_at old.admissions job) ≡ true → IsOwnEnd old job own → LetsJobGo old job new
    → NodeStep old (Own (event.JobEnd job)) (with_ends own (grants_ended (is_given_by job.0) old.grants)) new
job_ends old new job own hosted is_live gives leaves =
    let at_end : new ≡ node_of old.number new.admissions new.works (grants_left (is_given_by job.0) old.grants) new.rows = λ i. node_of (leaves.number i) new.admissions new.works (leaves.grants i) new.rows in
    subst (λ (n : Hosted). NodeStep old (Own (event.JobEnd job)) (with_ends own (grants_ended (is_given_by job.0) old.grants)) n) (sym at_end)
    (subst (λ (given : RowGiven). NodeStep old (Own (event.JobEnd job)) (with_ends given (grants_ended (is_given_by job.0) old.grants)) (node_of old.number new.admissions new.works (grants_left (is_given_by job.0) old.grants) new.rows)) (sym gives.is)
    (end_steps old.number old.admissions new.admissions old.works new.works old.grants hosted.table job old.rows new.rows hosted.jobs is_live leaves.admissions leaves.works leaves.rows leaves.lives
    gives.row gives.found (keys_backed gives.row (ids_of gives.row.copies)) refl))

-- a live job has a row
pub has_row : (a : Admissions) (rows : List (JobNo × Row)) (job : JobNo) → AreHosted a rows → true ≡ is_some (live_at a job) → lookup (same_job job) rows ≡ None → true ≡ false
has_row a rows job kept is_live none =
    is_live ∙ is_some-lookup (same_job job) a.live ∙ ap (list_any (same_job job)) (sym kept.jobs) ∙ sym (is_some-lookup (same_job job) rows) ∙ ap is_some none
