-- What a Take does: a worker is given the front of the line, which is then marked, and no job sees that.
use Rattle.std.proofs.Common.{◌≡◌, ℕ, ◌≤◌, ◌==◌, ◌&&◌, Bool, true, false, not, cond, List, [], ◌∷◌, filter, map, length, Option, Some, None, refl, sym, ap, subst, ◌∙◌, arith}
use Rattle.std.specs.Prelude.{count_by, option_map}
use Rattle.std.specs.List.{find}
use Rattle.std.specs.Map.{lookup}
use Rattle.std.specs.Option.{option_map_or}
use Rattle.std.proofs.lemmas.Bool.Decides.{nat_tests}
use Rattle.obj_id.specs.declared.ids.JobNo.{JobNo}
use Rattle.obj_id.specs.declared.commands.Reply.{Reply}
use Rattle.obj_id.specs.declared.commands.Reply.TheVariants as reply
use Rattle.obj_id.specs.declared.works.Work.{Work}
use Rattle.private_store.specs.declared.schedules.Event.TheVariants as event
use Rattle.private_store.specs.rules.Jobs.{same_job}
use Rattle.private_store.specs.rules.Contents.{Contents, View}
use Rattle.private_store.specs.rules.Grants.{StandingGrant}
use Rattle.private_store.specs.rules.Shape.{WorkInFlight}
use Rattle.store_facts.proofs.KeptLists.{count-yes, count-no, some_counted, find-any}
use Rattle.store_facts.proofs.Tests.{some_value, none_some}
use Rattle.spill_work.specs.declared.queue.IoRequest.{IoRequest}
use Rattle.spill_work.specs.declared.queue.Queued.{Queued}
use Rattle.spill_work.specs.Line.{WorkLine, shown, is_of, is_at, used_by, front_of, marked_taken, MarksTaken}
use Rattle.job_admission.specs.Admissions.{Admissions}
use Rattle.job_row.specs.Row.{Row}
use Rattle.row_steps.specs.Shown.{seen, only, IsShown}
use Rattle.node_core.specs.Hosted.{Hosted, IsRowView, IsBare, IsViewBy, Shows, ShowsAll, bytes_here, beside_at}
use Rattle.node_core.specs.OneJob.{NodeStepOne}
use Rattle.row_commands.proofs.ForCallers.{copy_at_work, alike_bytes, work_is}
use Rattle.node_core.specs.Steps.{taken_if, row_work_given, row_work_of, take_response}
use Rattle.node_core.proofs.Others.{other_view}
use Rattle.node_core.proofs.Views.{node_of, view_is}
use Rattle.row_steps.specs.Beside.{SharedTables}

-- ---- the line

abbrev pub part : JobNo → List Queued → List WorkInFlight
part job works = map (λ work. shown work.asked) (filter (is_of job) works)

module _ (job : JobNo) (number : ℕ) where
  -- a job's works under one number, in the line and as the job has them
  pub one_each : (ws : List Queued) → length (filter (is_at job number) ws) ≡ count_by (λ w. w.number == number) (part job ws)
  one_each [] = refl
  one_each (w ∷ ws) = by (is_of job w) refl (w.asked.number == number) refl (one_each ws)
    where
      by : (a : Bool) → is_of job w ≡ a → (b : Bool) → (w.asked.number == number) ≡ b → length (filter (is_at job number) ws) ≡ count_by (λ v. v.number == number) (part job ws)
          → length (cond (is_of job w && w.asked.number == number) (w ∷ filter (is_at job number) ws) (filter (is_at job number) ws))
          ≡ count_by (λ v. v.number == number) (map (λ work. shown work.asked) (cond (is_of job w) (w ∷ filter (is_of job) ws) (filter (is_of job) ws)))
      by true a true b rest =
          let yes = count-yes (λ (v : WorkInFlight). v.number == number) (shown w.asked) (part job ws) b in
          let more : length (w ∷ filter (is_at job number) ws) ≡ count_by (λ (v : WorkInFlight). v.number == number) (shown w.asked ∷ part job ws) = omega (arith, rest, yes) in
          (λ i. length (cond (a i && b i) (w ∷ filter (is_at job number) ws) (filter (is_at job number) ws)))
          ∙ more
          ∙ sym (ap (λ t. count_by (λ v. v.number == number) (map (λ (work : Queued). shown work.asked) (cond t (w ∷ filter (is_of job) ws) (filter (is_of job) ws)))) a)
      by true a false b rest =
          (λ i. length (cond (a i && b i) (w ∷ filter (is_at job number) ws) (filter (is_at job number) ws)))
          ∙ rest
          ∙ sym (count-no (λ (v : WorkInFlight). v.number == number) (shown w.asked) (part job ws) b)
          ∙ sym (ap (λ t. count_by (λ v. v.number == number) (map (λ (work : Queued). shown work.asked) (cond t (w ∷ filter (is_of job) ws) (filter (is_of job) ws)))) a)
      by false a b is rest =
          ap (λ t. length (cond (t && w.asked.number == number) (w ∷ filter (is_at job number) ws) (filter (is_at job number) ws))) a
          ∙ rest
          ∙ sym (ap (λ t. count_by (λ v. v.number == number) (map (λ (work : Queued). shown work.asked) (cond t (w ∷ filter (is_of job) ws) (filter (is_of job) ws)))) a)

  pub unmarked : (ws : List Queued) → length (filter (is_at job number) ws) ≤ 0 → map (taken_if job number) ws ≡ ws
  unmarked [] none = refl
  unmarked (w ∷ ws) none = by (is_at job number w) (unmarked ws) none
    where
      by : (b : Bool) → (length (filter (is_at job number) ws) ≤ 0 → map (taken_if job number) ws ≡ ws)
          → length (cond b (w ∷ filter (is_at job number) ws) (filter (is_at job number) ws)) ≤ 0 → cond b (record w { taken = true }) w ∷ map (taken_if job number) ws ≡ w ∷ ws
      by true rest none = absurd (omega (arith, none))
      by false rest none = ap (λ t. w ∷ t) (rest none)

  marked-all : (ws : List Queued) → length (filter (is_at job number) ws) ≤ 1 → map (taken_if job number) ws ≡ marked_taken job number ws
  marked-all [] one = refl
  marked-all (w ∷ ws) one = by (is_at job number w) (marked-all ws) one
    where
      by : (b : Bool) → (length (filter (is_at job number) ws) ≤ 1 → map (taken_if job number) ws ≡ marked_taken job number ws)
          → length (cond b (w ∷ filter (is_at job number) ws) (filter (is_at job number) ws)) ≤ 1
          → cond b (record w { taken = true }) w ∷ map (taken_if job number) ws ≡ cond b (record w { taken = true } ∷ ws) (w ∷ marked_taken job number ws)
      by true rest one = ap (λ t. record w { taken = true } ∷ t) (unmarked ws (omega (arith, one)))
      by false rest one = ap (λ t. w ∷ t) (rest one)

  -- the one that is marked is the only one
  pub marked-is : (ws : List Queued) → ((n : ℕ) → count_by (λ w. w.number == n) (part job ws) ≤ 1) → map (taken_if job number) ws ≡ marked_taken job number ws
  marked-is ws one = let n = one_each ws in let few = one number in marked-all ws (omega (arith, n, few))

-- the front is the work of its job under its number
front_found : (ws : List Queued) (asked : IoRequest) → front_of ws ≡ Some asked → count_by (λ w. w.number == asked.number) (part asked.job ws) ≤ 1
    → find (λ w. w.number == asked.number) (part asked.job ws) ≡ Some (shown asked)
front_found [] asked front one = none_some asked front
front_found (w ∷ ws) asked front one = by w.taken front (is_of asked.job w) refl (w.asked.number == asked.number) refl one (front_found ws asked)
  where
    Found : List WorkInFlight → Type 0
    Found vs = find (λ v. v.number == asked.number) vs ≡ Some (shown asked)

    itself : (n : ℕ) → (n == n) ≡ true
    itself n = grind (arith, nat_tests)

    here : w.asked ≡ asked → Found (map (λ (work : Queued). shown work.asked) (cond (is_of asked.job w) (w ∷ filter (is_of asked.job) ws) (filter (is_of asked.job) ws)))
    here is =
        subst (λ (a : IoRequest). find (λ v. v.number == a.number) (map (λ (work : Queued). shown work.asked) (cond (a.job.0 == w.asked.job.0) (w ∷ filter (is_of asked.job) ws) (filter (is_of asked.job) ws))) ≡ Some (shown a)) is
        (ap (λ b. find (λ v. v.number == w.asked.number) (map (λ (work : Queued). shown work.asked) (cond b (w ∷ filter (is_of asked.job) ws) (filter (is_of asked.job) ws)))) (itself w.asked.job.0)
        ∙ ap (λ b. cond b (Some (shown w.asked)) (find (λ v. v.number == w.asked.number) (part asked.job ws))) (itself w.asked.number))

    by : (t : Bool) → option_map (λ (work : Queued). work.asked) (cond (not t) (Some w) (find (λ work. not work.taken) ws)) ≡ Some asked
        → (a : Bool) → is_of asked.job w ≡ a → (b : Bool) → (w.asked.number == asked.number) ≡ b
        → count_by (λ v. v.number == asked.number) (map (λ (work : Queued). shown work.asked) (cond (is_of asked.job w) (w ∷ filter (is_of asked.job) ws) (filter (is_of asked.job) ws))) ≤ 1
        → (front_of ws ≡ Some asked → count_by (λ v. v.number == asked.number) (part asked.job ws) ≤ 1 → Found (part asked.job ws))
        → Found (map (λ (work : Queued). shown work.asked) (cond (is_of asked.job w) (w ∷ filter (is_of asked.job) ws) (filter (is_of asked.job) ws)))
    by false front a is b same one rest = here (some_value w.asked asked front)
    by true front false is b same one rest =
        subst (λ a. Found (map (λ (work : Queued). shown work.asked) (cond a (w ∷ filter (is_of asked.job) ws) (filter (is_of asked.job) ws)))) (sym is)
        (rest front (subst (λ a. count_by (λ v. v.number == asked.number) (map (λ (work : Queued). shown work.asked) (cond a (w ∷ filter (is_of asked.job) ws) (filter (is_of asked.job) ws))) ≤ 1) is one))
    by true front true is b same one rest =
        subst (λ a. Found (map (λ (work : Queued). shown work.asked) (cond a (w ∷ filter (is_of asked.job) ws) (filter (is_of asked.job) ws)))) (sym is)
        (number b same (subst (λ a. count_by (λ v. v.number == asked.number) (map (λ (work : Queued). shown work.asked) (cond a (w ∷ filter (is_of asked.job) ws) (filter (is_of asked.job) ws))) ≤ 1) is one))
      where
        number : (b : Bool) → (w.asked.number == asked.number) ≡ b → count_by (λ v. v.number == asked.number) (shown w.asked ∷ part asked.job ws) ≤ 1 → Found (shown w.asked ∷ part asked.job ws)
        number true same one =
            let more = count-yes (λ (v : WorkInFlight). v.number == asked.number) (shown w.asked) (part asked.job ws) same in
            let some = some_counted (λ (v : WorkInFlight). v.number == asked.number) (part asked.job ws)
            (find-any (λ v. v.number == asked.number) (λ v. v.number == asked.number) (part asked.job ws) (shown asked) (rest front (omega (arith, more, one))) (itself asked.number)) in
            absurd (omega (arith, more, some, one))
        number false same one =
            let less = count-no (λ (v : WorkInFlight). v.number == asked.number) (shown w.asked) (part asked.job ws) same in
            ap (λ b. cond b (Some (shown w.asked)) (find (λ v. v.number == asked.number) (part asked.job ws))) same ∙ rest front (omega (arith, less, one))

-- ---- the step

module _ (number : ℕ) (a : Admissions) (line : WorkLine) (grants : List StandingGrant) (rows : List (JobNo × Row)) where
  abbrev pub at_line : WorkLine → Hosted
  at_line works = node_of number a works grants rows

  same_view : (q : ℕ) (view : View) → Shows (at_line line) q view → (response : Reply (List ℕ)) (new : Hosted) → Shows new q view → Shows new q (cond (q == 0) view view)
  same_view q view h response new shows = by (q == 0)
    where
      by : (b : Bool) → Shows new q (cond b view view)
      by true = shows
      by false = shows

  -- nothing is given
  pub none_taken : ((v : ℕ → View) → ShowsAll (at_line line) v → reply.NoWork ≡ take_response line.works v) → NodeStepOne (at_line line) event.Take (only reply.NoWork) (at_line line)
  none_taken response = record {
    number = refl;
    views = λ v shows q. same_view q (v q) (shows q) reply.NoWork (at_line line) (shows q);
    response = λ view h. record { posts = refl; erased = refl };
    operator = refl;
    by_views = response;
    admissions = refl;
    lives = refl;
    line = λ v shows. refl;
    grants = refl;
  }

  module _ (asked : IoRequest) (front : front_of line.works ≡ Some asked) where
    -- what is told of the front
    front_told : (v : ℕ → View) (o : Option (Work (List ℕ))) → o ≡ row_work_of asked.job.0 asked.number (v asked.job.0) → option_map_or reply.Work o reply.NoWork ≡ take_response line.works v
    front_told v o is =
        ap (λ o. option_map_or reply.Work o reply.NoWork) is
        ∙ sym (ap (λ o. option_map_or (λ (asked : IoRequest). option_map_or reply.Work (row_work_of asked.job.0 asked.number (v asked.job.0)) reply.NoWork) o reply.NoWork) front)

    -- a job without a row has no works
    pub no_row : lookup (same_job asked.job) rows ≡ None → (v : ℕ → View) → ShowsAll (at_line line) v → reply.NoWork ≡ take_response line.works v
    no_row none v shows =
        let beside = beside_at (at_line line) asked.job.0 in
        let b : IsBare a.greatest beside asked.job.0 (v asked.job.0) = subst (IsViewBy a.greatest beside asked.job.0 (v asked.job.0)) none (shows asked.job.0).by_row in
        front_told v None (sym (ap (row_work_of asked.job.0 asked.number) b.is))

    module _ (row : Row) (found : lookup (same_job asked.job) rows ≡ Some row) (o : Option (Work (List ℕ)))
        (given : (beside : SharedTables) (contents : Contents) → asked.job.0 ≡ row.job → IsShown row beside contents → find (λ w. w.number == asked.number) beside.works ≡ Some (shown asked) → o ≡ row_work_of row.job asked.number (seen row beside contents)) where
      pub told_is : (v : ℕ → View) → ShowsAll (at_line line) v → option_map_or reply.Work o reply.NoWork ≡ take_response line.works v
      told_is v shows =
          let beside = beside_at (at_line line) asked.job.0 in
          let r : IsRowView row beside asked.job.0 (v asked.job.0) = subst (IsViewBy a.greatest beside asked.job.0 (v asked.job.0)) found (shows asked.job.0).by_row in
          front_told v o (
          given beside (v asked.job.0).contents (sym r.own) r.shown (front_found line.works asked front (r.shown.kept.kept.shape.one_number asked.number))
          ∙ ap (λ job. row_work_of job asked.number (seen row beside (v asked.job.0).contents)) r.own
          ∙ ap (row_work_of asked.job.0 asked.number) (sym (view_is row beside asked.job.0 (v asked.job.0) r)))

      pub taken_so : (work : Work (List ℕ)) → o ≡ Some work → work.job ≡ asked.job → work.number ≡ asked.number → (after : WorkLine) → MarksTaken line asked.job asked.number after
          → NodeStepOne (at_line line) event.Take (only (reply.Work work)) (at_line after)
      taken_so work is of_job under after marks = record {
        number = refl;
        views = λ v shows q. same_view q (v q) (shows q) (reply.Work work) (at_line after)
            (record {
              by_row = other_view (beside_at (at_line line) q) (beside_at (at_line after) q)
                  (alike_bytes (bytes_here rows) (bytes_here rows) line after grants q (record { works = marks.same (record { 0 = q }); used = ap (λ (l : WorkLine). used_by l (record { 0 = q })) marks.line }) (λ id there. refl))
                  a.greatest q (v q) (lookup (same_job (record { 0 = q })) rows) (shows q).by_row;
            });
        response = λ view h. record { posts = refl; erased = refl };
        operator = refl;
        by_views = λ v shows. sym (ap (λ o. option_map_or reply.Work o reply.NoWork) is) ∙ told_is v shows;
        admissions = refl;
        lives = refl;
        line = λ v shows. ap (λ (l : WorkLine). l.works) marks.line ∙ (λ i. marked_taken (sym of_job i) (sym under i) line.works);
        grants = refl;
      }

-- the front of a job that has a row is given
pub front_given : (node : Hosted) (asked : IoRequest) → front_of node.works.works ≡ Some asked → (row : Row) → lookup (same_job asked.job) node.rows ≡ Some row → (v : ℕ → View) → ShowsAll node v
    → (work : Work (List ℕ)) × (take_response node.works.works v ≡ reply.Work work)
front_given node asked front row found v shows =
    let beside = beside_at node asked.job.0 in
    let r : IsRowView row beside asked.job.0 (v asked.job.0) = subst (IsViewBy node.admissions.greatest beside asked.job.0 (v asked.job.0)) found (shows asked.job.0).by_row in
    let flying = front_found node.works.works asked front (r.shown.kept.kept.shape.one_number asked.number) in
    let k = copy_at_work row beside (v asked.job.0).contents r.shown asked.number (shown asked) flying in
    let given = work_is row beside (v asked.job.0).contents r.shown asked flying k.0 k.1 in
    let work = row_work_given row.job (seen row beside (v asked.job.0).contents) (shown asked) k.0.copy in (
      work,
      ap (λ o. option_map_or (λ (asked : IoRequest). option_map_or reply.Work (row_work_of asked.job.0 asked.number (v asked.job.0)) reply.NoWork) o reply.NoWork) front
          ∙ ap (λ o. option_map_or reply.Work o reply.NoWork)
          (ap (row_work_of asked.job.0 asked.number) (view_is row beside asked.job.0 (v asked.job.0) r)
          ∙ ap (λ job. row_work_of job asked.number (seen row beside (v asked.job.0).contents)) (sym r.own) ∙ given),
    )
