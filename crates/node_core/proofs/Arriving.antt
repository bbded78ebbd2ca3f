-- A message that arrives is an input of its own job alone.
use Rattle.std.proofs.Common.{◌≡◌, ℕ, true, false, cond, not, ◌==◌, List, [], ◌∷◌, ◌++◌, Some, None, option_to_list, is_some, refl, sym, ap, subst, ◌∙◌}
use Rattle.std.specs.Prelude.{option_map}
use Rattle.std.specs.Map.{lookup}
use Rattle.obj_id.specs.declared.ids.JobNo.{JobNo}
use Rattle.obj_id.specs.declared.ids.ObjectId.{ObjectId}
use Rattle.obj_id.specs.declared.commands.Reply.TheVariants as reply
use Rattle.obj_id.specs.declared.messages.Arrival.{Arrival}
use Rattle.obj_id.specs.declared.messages.Arrival.TheVariants as arrival
use Rattle.obj_id.specs.declared.messages.PeerMessage.TheVariants as peer
use Rattle.obj_id.specs.declared.refusals.Refusal.TheVariants.{Stale}
use Rattle.private_store.specs.declared.inputs.Input.{Input}
use Rattle.private_store.specs.declared.inputs.Input.TheVariants as input
use Rattle.private_store.specs.declared.inputs.Judged.{Judged}
use Rattle.private_store.specs.declared.schedules.NodeEvent.TheVariants.{Arrive}
use Rattle.private_store.specs.rules.Jobs.{same_job}
use Rattle.private_store.specs.rules.Grants.{StandingGrant}
use Rattle.private_store.specs.rules.Events.{is_live, located, chunk_arrived, not_here_arrived, pull_arrived}
use Rattle.private_store.specs.rules.Contents.{Contents, View, judge, source_in, chunk_verdict, pull_matches}
use Rattle.private_store.specs.rules.Private.{view_step, view_from}
use Rattle.private_store.specs.laws.NodeInputs.{Before, wants_memory, only_of, inputs_to}
use Rattle.store_facts.proofs.Checks.{checked-true}
use Rattle.spill_work.specs.Line.{WorkLine, IsSameFor, same_work_job as same_line_job}
use Rattle.job_admission.specs.Admissions.{Admissions, live_at, lives_of}
use Rattle.room_commands.specs.Asked.{HasAsked}
use Rattle.grants.specs.Table.{AreGrants}
use Rattle.job_row.specs.Row.{Row}
use Rattle.row_steps.specs.Shown.{seen, IsShown, RowGiven, only, RowStep}
use Rattle.node_core.specs.Hosted.{Hosted, IsRowView, IsViewBy, Shows, ShowsAll, empty_view, empty_shape, bytes_here, beside_at}
use Rattle.node_core.specs.Judged.{arrived}
use Rattle.node_core.specs.OneJob.{IsStepOf}
use Rattle.node_core.specs.Outcomes.{with_no_notes}
use Rattle.node_core.specs.Steps.{before_of, answer_of_check, stale_unless, asked_now, line_after, NodeStepFrom, NodeStep}
use Rattle.node_core.proofs.AllJobs.{one_input, called_line, own_shown}
use Rattle.node_core.proofs.Lines.{asked_nothing}
use Rattle.node_core.proofs.Never.{stale_wants}
use Rattle.node_core.proofs.Views.{Refuses, Takes, node_of, view_is, views_stepped, told_stepped, views_same, response_refused}
use Rattle.row_steps.specs.Beside.{beside_of}

-- a store that isn't live refuses it
arrival_refuses : (number : ℕ) (a : Admissions) (line : WorkLine) (grants : List StandingGrant) (job : JobNo) (x : Arrival) → Refuses number a line grants job (input.Arrive x) refl Stale
arrival_refuses number a line grants job (arrival.Located id n entries) life beside dead =
    let s = empty_shape job.0 life beside in checked-true s (not (is_live s)) Stale [] (located s id n (source_in number entries)) (ap not dead)
arrival_refuses number a line grants job (arrival.FromPeer from (peer.Pull id n len digest indexes)) life beside dead =
    let s = empty_shape job.0 life beside in checked-true s (not (is_live s)) Stale [] (pull_arrived [] s id (pull_matches (empty_view job.0 life beside) id len digest)) (ap not dead)
arrival_refuses number a line grants job (arrival.FromPeer from (peer.Chunk id n index bytes)) life beside dead =
    let s = empty_shape job.0 life beside in checked-true s (not (is_live s)) Stale [] (chunk_arrived s id n index from (chunk_verdict (empty_view job.0 life beside) id n index bytes from)) (ap not dead)
arrival_refuses number a line grants job (arrival.FromPeer from (peer.NotHere id n)) life beside dead =
    let s = empty_shape job.0 life beside in checked-true s (not (is_live s)) Stale [] (not_here_arrived s id n from) (ap not dead)

-- what is told of the job's view and of the others' is the step of all of them
module _ (old new : Hosted) (job : JobNo) (a : Arrival) (given : RowGiven)
    (number : new.number ≡ old.number) (admissions : new.admissions ≡ old.admissions) (grants : new.grants ≡ old.grants)
    (views : (v : ℕ → View) → ShowsAll old v → (q : ℕ) → Shows new q (cond (q == job.0) (view_step old.number (v q) (input.Arrive a)).view (v q)))
    (response : (view : View) → Shows old job.0 view → IsStepOf old.number view (input.Arrive a) given)
    (asked : (v : ℕ → View) → ShowsAll old v → HasAsked old.works job new.works)
    (answer : given.reply ≡ answer_of_check (stale_unless (is_some (live_at old.admissions job)))) where
  abbrev x : Input
  x = input.Arrive a

  never : wants_memory given.reply ≡ false
  never = ap wants_memory answer ∙ stale_wants (is_some (live_at old.admissions job))

  module _ (v : ℕ → View) (shows : ShowsAll old v) where
    abbrev before : Before
    before = before_of old v

    inputs_are : (q : ℕ) → inputs_to before (Arrive job a) given.reply q ≡ only_of q (record { job = job.0; input = x } ∷ [])
    inputs_are q = ap (λ w. only_of q (option_to_list (cond w None (Some (record { job = job.0; input = x }))) ++ [])) never

    view_after : (q : ℕ) → view_from old.number (v q) (inputs_to before (Arrive job a) given.reply q) ≡ cond (q == job.0) (view_step old.number (v q) x).view (v q)
    view_after q = ap (view_from old.number (v q)) (inputs_are q) ∙ one_input old.number q job.0 (v q) (Some x)

    line : new.works.works ≡ line_after old v (Arrive job a) given.reply
    line =
        called_line old new v shows job x (own_shown old new v shows job x (views v shows job.0)) (asked v shows)
        ∙ ap (λ w. old.works.works ++ asked_now old.number v (cond w None (Some (record { job = job.0; input = x })))) (sym never)

    from : NodeStepFrom old v (Arrive job a) (with_no_notes given) new
    from = record {
      views = λ q. subst (Shows new q) (sym (view_after q)) (views v shows q);
      response = let t = response (v job.0) (shows job.0) in record { reply = t.reply; posts = t.posts; erased = t.erased };
      notes = refl;
      operator = answer;
      line = line;
    }

  arrival_steps : NodeStep old (Arrive job a) (with_no_notes given) new
  arrival_steps = record {
    number = number;
    grants = grants;
    admissions = admissions;
    lives = ap (λ a. lives_of a.live) admissions;
    each = from;
  }

-- ---- at a node

-- a job that isn't live refuses the message
module _ (number : ℕ) (a : Admissions) (line : WorkLine) (grants : List StandingGrant) (job : JobNo) (x : Arrival) (rows : List (JobNo × Row)) (none : lookup (same_job job) rows ≡ None) (dead : is_some (live_at a job) ≡ false) where
  abbrev all : Hosted
  all = node_of number a line grants rows

  pub stale_steps : NodeStep all (Arrive job x) (with_no_notes (only (reply.Refused Stale))) all
  stale_steps =
      let refuses = arrival_refuses number a line grants job x in
      arrival_steps all all job x (only (reply.Refused Stale)) refl refl refl
      (λ v shows q. views_same number a line grants job (input.Arrive x) refl rows none Stale refuses q (v q) (shows q))
      (response_refused number a line grants job (input.Arrive x) refl rows none Stale refuses)
      (λ v shows. asked_nothing line job)
      (ap (λ b. answer_of_check (stale_unless b)) (sym dead))

-- a row that took the message
module _ (number : ℕ) (a : Admissions) (line : WorkLine) (grants : List StandingGrant) (table : AreGrants grants) (job : JobNo) (x : Arrival) (old new : List (JobNo × Row)) (row after : Row) (works : WorkLine) (response : RowGiven)
    (found : lookup (same_job job) old ≡ Some row)
    (updated : (q : JobNo) → lookup (same_job q) new ≡ cond (same_job job q) (Some after) (lookup (same_job q) old))
    (took : (given : List StandingGrant) (bytes : ObjectId → List ℕ) (contents : Contents) → IsShown row (beside_of line given bytes row.job) contents
    → RowStep number row (beside_of line given bytes row.job) contents (input.Arrive x) response after (beside_of works given bytes row.job))
    (asked : HasAsked line (record { 0 = row.job }) works)
    (others : (other : JobNo) → same_line_job (record { 0 = row.job }) other ≡ false → IsSameFor other line works)
    (live : is_some (live_at a job) ≡ true)
    (is_ok : response.reply ≡ reply.Ok) where
  abbrev at_first : Hosted
  at_first = node_of number a line grants old

  abbrev afterwards : Hosted
  afterwards = node_of number a works grants new

  -- the row is the job's
  module _ (own : row.job ≡ job.0) where
    obeys : Takes number job (input.Arrive x) grants (bytes_here old) row line response after works
    obeys = subst (λ n. (contents : Contents) → row.job ≡ n → IsShown row (beside_of line grants (bytes_here old) n) contents
        → RowStep number row (beside_of line grants (bytes_here old) n) contents (input.Arrive x) response after (beside_of works grants (bytes_here old) n)) own
        (λ contents same shown. took grants (bytes_here old) contents shown)

    same_others : (other : JobNo) → same_line_job job other ≡ false → IsSameFor other line works
    same_others = subst (λ n. (other : JobNo) → same_line_job (record { 0 = n }) other ≡ false → IsSameFor other line works) own others

    views_after : (v : ℕ → View) → ShowsAll at_first v → (q : ℕ) → Shows afterwards q (cond (q == job.0) (view_step number (v q) (input.Arrive x)).view (v q))
    views_after = views_stepped number a a refl line works grants table job (input.Arrive x) old new row after response found updated obeys same_others

    told_after : (view : View) → Shows at_first job.0 view → IsStepOf number view (input.Arrive x) response
    told_after = told_stepped number a a refl line works grants table job (input.Arrive x) old new row after response found updated obeys same_others

    asked_after : HasAsked line job works
    asked_after = subst (λ n. HasAsked line (record { 0 = n }) works) own asked

  own_row : (view : View) → Shows at_first job.0 view → row.job ≡ job.0
  own_row view h = (subst (IsViewBy a.greatest (beside_at at_first job.0) job.0 view) found h.by_row).own

  pub row_steps : NodeStep at_first (Arrive job x) (with_no_notes response) afterwards
  row_steps =
      arrival_steps at_first afterwards job x response refl refl refl
      (λ v shows q. views_after (own_row (v job.0) (shows job.0)) v shows q)
      (λ view h. told_after (own_row view h) view h)
      (λ v shows. asked_after (own_row (v job.0) (shows job.0)))
      (is_ok ∙ ap (λ b. answer_of_check (stale_unless b)) (sym live))

  -- what it was to the job
  module _ (word : Judged)
      (is : (given : List StandingGrant) (bytes : ObjectId → List ℕ) (contents : Contents) → IsShown row (beside_of line given bytes row.job) contents
      → word ≡ judge number (seen row (beside_of line given bytes row.job) contents) (input.Arrive x)) where
    pub row_judged : (view : View) → Shows at_first job.0 view → option_map (judge number view) (arrived x response.reply) ≡ Some word
    row_judged view h =
        let r : IsRowView row (beside_at at_first job.0) job.0 view = subst (IsViewBy a.greatest (beside_at at_first job.0) job.0 view) found h.by_row in
        let word_is : (contents : Contents) → IsShown row (beside_at at_first job.0) contents → word ≡ judge number (seen row (beside_at at_first job.0) contents) (input.Arrive x) =
        subst (λ n. (contents : Contents) → IsShown row (beside_of line grants (bytes_here old) n) contents → word ≡ judge number (seen row (beside_of line grants (bytes_here old) n) contents) (input.Arrive x))
        r.own (is grants (bytes_here old)) in
        ap (λ t. option_map (judge number view) (arrived x t)) is_ok
        ∙ ap (λ v. Some (judge number v (input.Arrive x))) (view_is row (beside_at at_first job.0) job.0 view r)
        ∙ sym (ap Some (word_is view.contents r.shown))
