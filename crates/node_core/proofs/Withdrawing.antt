-- What a Withdraw leaves at a node: the own step, and then each grantee of what ends is notified.
use Rattle.std.proofs.Common.{◌≡◌, ℕ, ◌==◌, Bool, true, false, cond, not, ◌||◌, ◌&&◌, List, [], ◌++◌, Some, None, refl, sym, ap, subst, ◌∙◌, arith}
use Rattle.std.specs.Prelude.{is_none}
use Rattle.std.specs.List.{list_any, list_all}
use Rattle.std.specs.Map.{lookup}
use Rattle.std.proofs.lemmas.Bool.Decides.{nat_tests}
use Rattle.std.proofs.lemmas.List.{append-nil}
use Rattle.obj_id.specs.declared.ids.JobNo.{JobNo}
use Rattle.obj_id.specs.declared.ids.ObjectId.{ObjectId}
use Rattle.obj_id.specs.declared.commands.Command.TheVariants as command
use Rattle.obj_id.specs.declared.commands.Reply.TheVariants as reply
use Rattle.obj_id.specs.Ids.{same_id}
use Rattle.private_store.specs.declared.inputs.Input.{Input}
use Rattle.private_store.specs.declared.inputs.Input.TheVariants as input
use Rattle.private_store.specs.declared.schedules.Event.{Event}
use Rattle.private_store.specs.declared.schedules.Event.TheVariants as event
use Rattle.private_store.specs.declared.schedules.NodeEvent.TheVariants.{Own}
use Rattle.private_store.specs.rules.Contents.{View, judge}
use Rattle.private_store.specs.rules.Grants.{StandingGrant, grants_ended, grants_left, is_withdrawn, is_given_by, ended_from, same_grant}
use Rattle.private_store.specs.rules.Jobs.{same_job}
use Rattle.private_store.specs.laws.Invariants.{has_grant}
use Rattle.private_store.specs.rules.Shape.{GrantGiven}
use Rattle.private_store.specs.rules.Private.{view_step}
use Rattle.store_facts.proofs.KeptLists.{any-filter-only}
use Rattle.store_facts.proofs.OwnJob.{step_keeps_job}
use Rattle.store_facts.proofs.Tests.{both_left}
use Rattle.grants.specs.Table.{AreGrants, is_first, withdraw_check}
use Rattle.grants.proofs.ForCallers.{left_are_grants, first_stands}
use Rattle.job_admission.specs.Admissions.{Admissions}
use Rattle.spill_work.specs.Line.{WorkLine}
use Rattle.row_commands.specs.Notes.{beside_rest}
use Rattle.job_row.specs.Row.{Row}
use Rattle.row_steps.specs.Shown.{seen, RowGiven, RowStep}
use Rattle.row_commands.proofs.ForCallers.{is_of, first_left}
use Rattle.node_core.specs.Granting.{TakesWithdraw}
use Rattle.node_core.specs.Hosted.{Hosted, IsRowView, IsViewBy, ShowsAll, Shows, bytes_here, beside_at}
use Rattle.node_core.specs.Outcomes.{with_ends}
use Rattle.node_core.specs.Steps.{queued, IsStepOf, NodeStep, NodeStepFrom}
use Rattle.node_core.proofs.AllJobs.{asks_nothing}
use Rattle.node_core.proofs.Granted.{granted_copy, sealed_stay, own_gave, bytes_where}
use Rattle.node_core.proofs.GrantsEnd.{ended_shows, ended_inputs, ends_judged}
use Rattle.node_core.proofs.Views.{itself, view_is, node_of}
use Rattle.row_steps.specs.Beside.{SharedTables, row_given_by, shape_of}

module _ (number : ℕ) (a : Admissions) (line : WorkLine) (grants : List StandingGrant) (table : AreGrants grants) (job : JobNo) (session : ℕ) (id : ObjectId) (target : JobNo)
    (old new : List (JobNo × Row)) (row after : Row) (response : RowGiven) (is_ok : response.reply ≡ reply.Ok) (granted : Bool)
    (found : lookup (same_job job) old ≡ Some row)
    (updated : (q : JobNo) → lookup (same_job q) new ≡ cond (same_job job q) (Some after) (lookup (same_job q) old))
    (stands : withdraw_check grants job.0 id target.0 ≡ None)
    (says : granted ≡ list_any (is_first id) (grants_left (is_withdrawn job.0 id target.0) grants))
    (takes : TakesWithdraw row job.0 session id target granted response after) where
  abbrev x : Input
  x = input.Call session (command.Withdraw id target)

  abbrev e : Event
  e = event.Call job session (command.Withdraw id target)

  abbrev test : StandingGrant → Bool
  test = is_withdrawn job.0 id target.0

  abbrev left : List StandingGrant
  left = grants_left test grants

  abbrev ended : List StandingGrant
  ended = grants_ended test grants

  abbrev before : Hosted
  before = node_of number a line grants old

  abbrev now : Hosted
  now = node_of number a line left new

  -- once the own step is done, before the grantees are notified
  abbrev between : SharedTables
  between = beside_rest line test grants (bytes_here old) job.0

  left_are : AreGrants left
  left_are = left_are_grants test grants table

  own_test : (grant : StandingGrant) → test grant ≡ true → is_given_by job.0 grant ≡ true
  own_test grant passes =
      both_left (grant.grantor == job.0) (same_id id grant.id) (both_left (grant.grantor == job.0 && same_id id grant.id) (grant.grantee == target.0) passes)

  rows_other : (q : JobNo) → same_job job q ≡ false → lookup (same_job q) new ≡ lookup (same_job q) old
  rows_other q other = updated q ∙ ap (λ b. cond b (Some after) (lookup (same_job q) old)) other

  module _ (v : ℕ → View) (shows : ShowsAll before v) where
    r : IsRowView row (beside_at before job.0) job.0 (v job.0)
    r = subst (IsViewBy a.greatest (beside_at before job.0) job.0 (v job.0)) found (shows job.0).by_row

    t : RowStep number row (beside_at before job.0) (v job.0).contents x response after between
    t = takes number line grants (bytes_here old) (v job.0).contents table r.own stands says r.shown

    own_after : after.job ≡ job.0
    own_after = sym (ap (λ s. s.job) t.shape) ∙ step_keeps_job row.order (shape_of row (beside_at before job.0)) (judge number (seen row (beside_at before job.0) (v job.0).contents) x) ∙ r.own

    -- of what stands after it the step leaves the bytes
    bytes_stay : (q : ObjectId) → list_any (is_of q) left ≡ true → bytes_here old q ≡ bytes_here new q
    bytes_stay q there =
        bytes_where job old new row after found updated q (λ jobs.
        let stood : list_any (is_of q) grants ≡ true = any-filter-only (is_of q) (λ grant. not (list_any (same_grant grant) (ended_from test [] grants))) grants there in
        let gave : has_grant (row_given_by grants job.0) q ≡ true = subst (λ n. has_grant (row_given_by grants n) q ≡ true) jobs (own_gave grants table q stood) in
        let mine : (q.job.0 == job.0) ≡ true = grind (arith, nat_tests, jobs) in
        let still : has_grant between.given q ≡ true = first_left grants (bytes_here old) test table job.0 q mine (subst (λ n. list_all (λ (grant : GrantGiven). not (grant.id.job.0 == n) || is_none grant.parent) between.given ≡ true) own_after t.shown.kept.kept.shape.own_grants) ∙ first_stands left left_are q there in
        sealed_stay number row after (beside_at before job.0) between (v job.0).contents x response r.shown t q
        (granted_copy row (beside_at before job.0) (v job.0).contents r.shown q (jobs ∙ sym r.own) gave)
        (granted_copy after between (view_step number (seen row (beside_at before job.0) (v job.0).contents) x).view.contents t.shown q (jobs ∙ sym own_after) still))

    own_left : IsViewBy a.greatest between job.0 (view_step number (v job.0) x).view (lookup (same_job job) new)
    own_left =
        subst (IsViewBy a.greatest between job.0 (view_step number (v job.0) x).view)
        (sym (updated job ∙ ap (λ b. cond b (Some after) (lookup (same_job job) old)) (itself job)))
        (subst (λ w. IsRowView after between job.0 (view_step number w x).view) (sym (view_is row (beside_at before job.0) job.0 (v job.0) r))
        (record { own = own_after; shape = t.shape; order = t.order; shown = t.shown }))

    no_works : (view_step number (v job.0) x).works ≡ []
    no_works =
        asks_nothing number before job (v job.0) x (shows job.0)
        (subst (λ w. (view_step number w x).view.shape.works ≡ between.works) (sym (view_is row (beside_at before job.0) job.0 (v job.0) r)) (ap (λ s. s.works) t.shape))

    steps_from : NodeStepFrom before v (Own e) (with_ends (record { reply = reply.Ok; posts = response.posts; erased = response.erased }) ended) now
    steps_from = record {
      views = λ q. subst (Shows now q) (sym (ended_inputs number job.0 x ended q (v q)))
          (ended_shows number a a refl line line grants table test job x old new own_test rows_other (λ other differ. record { works = refl; used = refl }) bytes_stay v shows own_left q);
      response = subst (λ w. IsStepOf number w x (with_ends (record { reply = reply.Ok; posts = response.posts; erased = response.erased }) ended))
          (sym (view_is row (beside_at before job.0) job.0 (v job.0) r)) (record { reply = sym is_ok ∙ t.reply; posts = t.posts; erased = t.erased });
      notes = ends_judged number v ended;
      operator = refl;
      line = sym (append-nil line.works) ∙ ap (λ ws. line.works ++ queued job.0 ws) (sym no_works);
    }

  pub withdraw_steps : NodeStep before (Own e) (with_ends response ended) now
  withdraw_steps =
      subst (λ o. NodeStep before (Own e) (with_ends (record { reply = o; posts = response.posts; erased = response.erased }) ended) now) (sym is_ok)
      (record { number = refl; grants = refl; admissions = refl; lives = refl; each = steps_from })
