-- The end of a task: its job's row takes the step, the grants of the task's objects end with all that hangs on them, and each
-- grantee is notified.
use Rattle.std.proofs.Common.{◌≡◌, ℕ, Bool, true, false, cond, ◌++◌, List, [], Option, Some, None, refl, sym, ap, subst, ◌∙◌, eq-eqb}
use Rattle.std.specs.Prelude.{not, is_none, ◌||◌, ◌==◌}
use Rattle.std.specs.List.{list_any, list_all}
use Rattle.std.specs.Map.{lookup}
use Rattle.std.specs.Option.{option_map_or}
use Rattle.std.proofs.lemmas.List.{append-nil}
use Rattle.obj_id.specs.declared.commands.Command.TheVariants as command
use Rattle.obj_id.specs.declared.commands.Reply.TheVariants as reply
use Rattle.obj_id.specs.declared.ids.JobNo.{JobNo}
use Rattle.obj_id.specs.declared.ids.ObjectId.{ObjectId}
use Rattle.obj_id.specs.declared.ids.TaskNo.{TaskNo}
use Rattle.obj_id.specs.declared.refusals.Refusal.{Refusal}
use Rattle.obj_id.specs.declared.refusals.Refusal.TheVariants.{NotAdmitted}
use Rattle.obj_id.specs.declared.works.DeviceKey.{DeviceKey}
use Rattle.obj_id.specs.Ids.{same_task}
use Rattle.private_store.specs.declared.inputs.Input.{Input}
use Rattle.private_store.specs.declared.inputs.Input.TheVariants as input
use Rattle.private_store.specs.declared.schedules.Event.TheVariants as event
use Rattle.private_store.specs.declared.schedules.NodeEvent.TheVariants.{Own}
use Rattle.private_store.specs.rules.Contents.{Contents, View, judge}
use Rattle.private_store.specs.rules.Grants.{StandingGrant, grants_ended, grants_left, is_of_task, is_given_by}
use Rattle.private_store.specs.rules.Jobs.{same_job}
use Rattle.private_store.specs.laws.Invariants.{has_grant}
use Rattle.private_store.specs.rules.Private.{Post, view_step}
use Rattle.private_store.specs.rules.Shape.{GrantGiven}
use Rattle.store_facts.proofs.OwnJob.{step_keeps_job}
use Rattle.store_facts.proofs.Tests.{both_left, none_some, some_value}
use Rattle.spill_work.specs.Line.{WorkLine, works_of, used_by}
use Rattle.grants.specs.Table.{AreGrants}
use Rattle.grants.proofs.ForCallers.{any_filtered, left_are_grants, first_stands}
use Rattle.job_admission.specs.Admissions.{Admissions}
use Rattle.job_row.specs.Checks.{end_task_check}
use Rattle.row_commands.specs.Notes.{beside_rest}
use Rattle.job_row.specs.Row.{Row}
use Rattle.row_steps.specs.Shown.{seen, IsShown, RowGiven, only, RowStep}
use Rattle.row_commands.proofs.ForCallers.{is_of, end_task_refused, rest_of_task, first_left}
use Rattle.node_core.specs.Hosted.{Hosted, row_at, IsRowView, IsViewBy, Shows, bytes_here, beside_at}
use Rattle.node_core.specs.MemoryLast.{task_refusal, IsCallUnrefused}
use Rattle.node_core.specs.OneJob.{IsStepOf}
use Rattle.node_core.specs.Outcomes.{with_no_notes, with_ends}
use Rattle.node_core.specs.Steps.{queued, NodeStep}
use Rattle.node_core.proofs.AllJobs.{Works, works_shown, all_steps, refused_still}
use Rattle.node_core.proofs.Granted.{granted_copy, sealed_stay, own_gave, bytes_where}
use Rattle.node_core.proofs.GrantsEnd.{ended_shows, ended_inputs, ends_judged}
use Rattle.node_core.proofs.Lines.{above, above-used, asked_nothing}
use Rattle.node_core.proofs.Listed.{row_stays}
use Rattle.node_core.proofs.Views.{itself, view_is, node_of, call_steps, refused_steps}
use Rattle.row_steps.specs.Beside.{SharedTables, row_given_by, shape_of, beside_ended, beside_after}

-- ---- it is refused, or it isn't

-- a task that nothing keeps from ending
pub task_unrefused : (node : Hosted) (job : JobNo) (session : ℕ) (task : TaskNo) → task_refusal (row_at node job) task ≡ None → IsCallUnrefused node job session (command.EndTask task)
task_unrefused node job session task = by (row_at node job) refl
  where
    by : (o : Option Row) → row_at node job ≡ o → task_refusal o task ≡ None → IsCallUnrefused node job session (command.EndTask task)
    by None none e = none_some NotAdmitted (sym e)
    by (Some row) found e = record { row = row; found = found; unrefused = record { own = refl; passed = e; grows = refl }; by_grants = refl; by_room = λ own. tt }

module _ (number : ℕ) (a : Admissions) (line : WorkLine) (grants : List StandingGrant) (table : AreGrants grants) (job : JobNo) (session : ℕ) (task : TaskNo) (rows : List (JobNo × Row)) where
  abbrev at_node : Hosted
  at_node = node_of number a line grants rows

  row_refuses : (row : Row) (r : Refusal) → lookup (same_job job) rows ≡ Some row → end_task_check row task ≡ Some r → NodeStep at_node (Own (event.Call job session (command.EndTask task))) (with_no_notes (only (reply.Refused r))) at_node
  row_refuses row r found failed =
      all_steps at_node at_node (event.Call job session (command.EndTask task)) (only (reply.Refused r)) (refused_still (event.Call job session (command.EndTask task)) r)
      (call_steps number a line grants job session (command.EndTask task) table rows rows row row line (only (reply.Refused r)) found (row_stays rows job row found) (asked_nothing line job)
      (λ contents own shown.
      let beside = beside_at at_node job.0 in
      subst (λ o. RowStep number row beside contents (input.Call session (command.EndTask task)) (only (reply.Refused r)) row (option_map_or (λ (refusal : Refusal). beside) o (beside_ended row.job task beside))) failed
      (end_task_refused number row beside contents session task shown r failed))
      (λ other differ. record { works = refl; used = refl }))

  pub task_refused : (r : Refusal) → task_refusal (lookup (same_job job) rows) task ≡ Some r → NodeStep at_node (Own (event.Call job session (command.EndTask task))) (with_no_notes (only (reply.Refused r))) at_node
  task_refused r failed = by (lookup (same_job job) rows) refl failed
    where
      by : (o : Option Row) → lookup (same_job job) rows ≡ o → task_refusal o task ≡ Some r → NodeStep at_node (Own (event.Call job session (command.EndTask task))) (with_no_notes (only (reply.Refused r))) at_node
      by (Some row) found failed = row_refuses row r found failed
      by None none failed =
          subst (λ q. NodeStep at_node (Own (event.Call job session (command.EndTask task))) (with_no_notes (only (reply.Refused q))) at_node) (some_value NotAdmitted r failed)
          (all_steps at_node at_node (event.Call job session (command.EndTask task)) (only (reply.Refused NotAdmitted)) (refused_still (event.Call job session (command.EndTask task)) NotAdmitted) (refused_steps number a line grants job session (command.EndTask task) rows none))

-- ---- it is taken

module _ (number : ℕ) (a : Admissions) (line : WorkLine) (grants : List StandingGrant) (table : AreGrants grants) (job : JobNo) (session : ℕ) (task : TaskNo) (old new : List (JobNo × Row)) (row after : Row)
    (posts : List Post) (erased : List DeviceKey)
    (found : lookup (same_job job) old ≡ Some row)
    (updated : (q : JobNo) → lookup (same_job q) new ≡ cond (same_job job q) (Some after) (lookup (same_job q) old))
    (passed : end_task_check row task ≡ None)
    (takes : (beside : SharedTables) (contents : Contents) → IsShown row beside contents
    → RowStep number row beside contents (input.Call session (command.EndTask task)) (record { reply = reply.Ok; posts = posts; erased = erased }) after (beside_after row task beside)) where
  abbrev test : StandingGrant → Bool
  test = is_of_task job.0 task

  abbrev left : List StandingGrant
  left = grants_left test grants

  abbrev ended_grants : List StandingGrant
  ended_grants = grants_ended test grants

  abbrev x : Input
  x = input.Call session (command.EndTask task)

  abbrev response : RowGiven
  response = record { reply = reply.Ok; posts = posts; erased = erased }

  abbrev before : Hosted
  before = node_of number a line grants old

  abbrev at_end : Hosted
  at_end = node_of number a line left new

  abbrev beside : SharedTables
  beside = beside_at before job.0

  -- after the own step, before any grantee is notified
  abbrev rest : SharedTables
  rest = beside_rest line test grants (bytes_here old) job.0

  rest_is : row.job ≡ job.0 → beside_after row task beside ≡ rest
  rest_is own =
      ap (λ o. option_map_or (λ (refusal : Refusal). beside) o (beside_ended row.job task beside)) passed
      ∙ ap (λ n. beside_ended n task beside) own ∙ rest_of_task grants (bytes_here old) job.0 line task

  row_view : (view : View) → Shows before job.0 view → IsRowView row beside job.0 view
  row_view view h = subst (IsViewBy a.greatest beside job.0 view) found h.by_row

  rows_other : (q : JobNo) → same_job job q ≡ false → lookup (same_job q) new ≡ lookup (same_job q) old
  rows_other q e = updated q ∙ ap (λ t. cond t (Some after) (lookup (same_job q) old)) e

  own_test : (grant : StandingGrant) → test grant ≡ true → is_given_by job.0 grant ≡ true
  own_test grant e = both_left (grant.grantor == job.0) (grant.id.job.0 == job.0) (both_left _ (same_task task grant.id.task) e)

  module _ (view : View) (shown : Shows before job.0 view) where
    r : IsRowView row beside job.0 view
    r = row_view view shown

    t : RowStep number row beside view.contents x response after rest
    t = subst (RowStep number row beside view.contents x response after) (rest_is r.own) (takes beside view.contents r.shown)

    own_after : after.job ≡ job.0
    own_after = sym (ap (λ s. s.job) t.shape) ∙ step_keeps_job row.order (shape_of row beside) (judge number (seen row beside view.contents) x) ∙ r.own

    own_left : IsViewBy a.greatest rest job.0 (view_step number view x).view (lookup (same_job job) new)
    own_left =
        subst (IsViewBy a.greatest rest job.0 (view_step number view x).view) (sym (updated job ∙ ap (λ b. cond b (Some after) (lookup (same_job job) old)) (itself job)))
        (subst (λ w. IsRowView after rest job.0 (view_step number w x).view) (sym (view_is row beside job.0 view r)) (record { own = own_after; shape = t.shape; order = t.order; shown = t.shown }))

    -- a grant of an own object that is left was given, and didn't end by itself
    given_left : (id : ObjectId) → id.job.0 ≡ job.0 → list_any (is_of id) left ≡ true → has_grant rest.given id ≡ true
    given_left id own there =
        let hung : list_all (λ (grant : GrantGiven). not (grant.id.job.0 == job.0) || is_none grant.parent) rest.given ≡ true =
        subst (λ n. list_all (λ (grant : GrantGiven). not (grant.id.job.0 == n) || is_none grant.parent) rest.given ≡ true) own_after t.shown.kept.kept.shape.own_grants in
        first_left grants (bytes_here old) test table job.0 id (eq-eqb id.job.0 job.0 own) hung ∙ first_stands left (left_are_grants test grants table) id there

    bytes_left : (id : ObjectId) → list_any (is_of id) left ≡ true → bytes_here old id ≡ bytes_here new id
    bytes_left id there =
        bytes_where job old new row after found updated id (λ jobs.
        let gave : has_grant (row_given_by grants job.0) id ≡ true = subst (λ n. has_grant (row_given_by grants n) id ≡ true) jobs (own_gave grants table id (any_filtered (is_of id) _ grants there)) in
        sealed_stay number row after beside rest view.contents x response r.shown t id
        (granted_copy row beside view.contents r.shown id (jobs ∙ sym r.own) gave)
        (granted_copy after rest (view_step number (seen row beside view.contents) x).view.contents t.shown id (jobs ∙ sym own_after) (given_left id jobs there)))

    told_so : IsStepOf number view x response
    told_so = subst (λ w. IsStepOf number w x response) (sym (view_is row beside job.0 view r)) (record { reply = t.reply; posts = t.posts; erased = t.erased })

    -- it asks for no work
    no_works : (view_step number view x).works ≡ []
    no_works =
        let w : Works before job.0 view = works_shown before job.0 view shown in
        let works = ap (λ u. (view_step number u x).view.shape.works) (view_is row beside job.0 view r) ∙ ap (λ s. s.works) t.shape in
        (λ i. above (w.asked i) (works i)) ∙ above-used (used_by line job) (works_of line job) w.used

  pub task_steps : NodeStep before (Own (event.Call job session (command.EndTask task))) (with_ends response ended_grants) at_end
  task_steps = record {
    number = refl;
    grants = refl;
    admissions = refl;
    lives = refl;
    each = λ v shows.
        let own = told_so (v job.0) (shows job.0) in
        record {
          views = λ q. subst (Shows at_end q) (sym (ended_inputs number job.0 x ended_grants q (v q)))
              (ended_shows number a a refl line line grants table test job x old new own_test rows_other (λ other differ. record { works = refl; used = refl })
              (bytes_left (v job.0) (shows job.0)) v shows (own_left (v job.0) (shows job.0)) q);
          response = record { reply = own.reply; posts = own.posts; erased = own.erased };
          notes = ends_judged number v ended_grants;
          operator = refl;
          line = sym (append-nil line.works) ∙ ap (λ ws. line.works ++ queued job.0 ws) (sym (no_works (v job.0) (shows job.0)));
        };
  }
