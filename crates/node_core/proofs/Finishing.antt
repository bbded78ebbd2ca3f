-- What a Finish does: a work that was taken leaves the line, and its job alone takes the step.
use Rattle.std.proofs.Common.{◌≡◌, ℕ, ◌≤◌, ◌==◌, ◌&&◌, ◌||◌, Bool, true, false, not, cond, List, [], ◌∷◌, filter, map, length, Option, Some, None, refl, sym, ap, subst, ◌∙◌, arith}
use Rattle.std.specs.Prelude.{count_by, option_map, unwrap_or}
use Rattle.std.specs.List.{find}
use Rattle.std.specs.Option.{option_map_or}
use Rattle.std.specs.Map.{lookup, set_value}
use Rattle.std.proofs.lemmas.Map.Steps.{set_value_same}
use Rattle.obj_id.specs.declared.ids.JobNo.{JobNo}
use Rattle.obj_id.specs.declared.ids.ObjectId.{ObjectId}
use Rattle.obj_id.specs.declared.refusals.Refusal.{Refusal}
use Rattle.obj_id.specs.declared.refusals.Refusal.TheVariants.{Stale}
use Rattle.obj_id.specs.declared.commands.Reply.TheVariants as reply
use Rattle.obj_id.specs.declared.works.DeviceAnswer.{DeviceAnswer}
use Rattle.private_store.specs.declared.inputs.Input.{Input}
use Rattle.private_store.specs.declared.inputs.Input.TheVariants as input
use Rattle.private_store.specs.declared.inputs.Judged.TheVariants as judged
use Rattle.private_store.specs.declared.inputs.WorkVerdict.{WorkVerdict}
use Rattle.private_store.specs.declared.inputs.WorkVerdict.TheVariants as work
use Rattle.private_store.specs.declared.schedules.Event.{Event}
use Rattle.private_store.specs.declared.schedules.Event.TheVariants as event
use Rattle.private_store.specs.rules.Grants.{StandingGrant}
use Rattle.private_store.specs.rules.Jobs.{same_job}
use Rattle.private_store.specs.rules.Tables.{at}
use Rattle.private_store.specs.rules.Shape.{Copy, Shape, Change, WorkInFlight}
use Rattle.private_store.specs.rules.Marks.{marked, read_mark}
use Rattle.private_store.specs.rules.Room.{set_copy}
use Rattle.private_store.specs.rules.Change.{refused, done, needing, erasing, settled}
use Rattle.private_store.specs.rules.Events as events
use Rattle.private_store.specs.rules.Contents.{Contents, View, judge, whole_reply, work_verdict}
use Rattle.private_store.specs.rules.Private.{view_step}
use Rattle.store_facts.proofs.Tests.{true_false, none_some}
use Rattle.spill_work.specs.declared.queue.Queued.{Queued}
use Rattle.spill_work.specs.Line.{WorkLine, IsSameFor, same_work_job as same_line_job, shown, is_of, is_at, finish_check}
use Rattle.job_admission.specs.Admissions.{Admissions}
use Rattle.grants.specs.Table.{AreGrants}
use Rattle.job_row.specs.Row.{Row}
use Rattle.row_steps.specs.Shown.{seen, IsShown, RowGiven, only, RowStep}
use Rattle.job_row.proofs.ForCallers.{at-copies_found}
use Rattle.row_commands.proofs.ForCallers.{copy_at_work}
use Rattle.node_core.specs.Hosted.{Hosted, IsRowView, IsBare, IsViewBy, Shows, ShowsAll, bytes_here, beside_at}
use Rattle.node_core.specs.Judged.{if_ok}
use Rattle.node_core.specs.OneJob.{IsGiven, event_input_of, view_by, NodeStepOne}
use Rattle.node_core.specs.Steps.{is_taken, answer_of_check, stale_unless}
use Rattle.node_core.proofs.Taking.{part, one_each}
use Rattle.node_core.proofs.Views.{node_of, view_is, views_stepped, told_stepped}
use Rattle.row_steps.specs.Beside.{SharedTables, beside_of, shape_of}

-- ---- the line

module _ (job : JobNo) (number : ℕ) where
  abbrev left_by : Queued → Bool
  left_by work = not (is_at job number work && work.taken)

  none_taken_at : (ws : List Queued) → length (filter (is_at job number) ws) ≤ 0 → is_taken ws job.0 number ≡ false
  none_taken_at [] none = refl
  none_taken_at (w ∷ ws) none = by (is_at job number w) (none_taken_at ws) none
    where
      by : (b : Bool) → (length (filter (is_at job number) ws) ≤ 0 → is_taken ws job.0 number ≡ false)
          → length (cond b (w ∷ filter (is_at job number) ws) (filter (is_at job number) ws)) ≤ 0 → ((b && w.taken) || is_taken ws job.0 number) ≡ false
      by true rest none = absurd (omega (arith, none))
      by false rest none = rest none

  -- where none is of the number, both leave as many
  both_stay : (ws : List Queued) → length (filter (is_at job number) ws) ≤ 0 → filter (λ work. not (is_at job number work)) ws ≡ filter left_by ws
  both_stay [] none = refl
  both_stay (w ∷ ws) none = by (is_at job number w) (both_stay ws) none
    where
      by : (b : Bool) → (length (filter (is_at job number) ws) ≤ 0 → filter (λ work. not (is_at job number work)) ws ≡ filter left_by ws)
          → length (cond b (w ∷ filter (is_at job number) ws) (filter (is_at job number) ws)) ≤ 0
          → cond (not b) (w ∷ filter (λ work. not (is_at job number work)) ws) (filter (λ work. not (is_at job number work)) ws) ≡ cond (not (b && w.taken)) (w ∷ filter left_by ws) (filter left_by ws)
      by true rest none = absurd (omega (arith, none))
      by false rest none = ap (λ t. w ∷ t) (rest none)

  -- the one work of the number is taken, and leaves
  taken_leaves : (ws : List Queued) → length (filter (is_at job number) ws) ≤ 1 → is_taken ws job.0 number ≡ true → filter (λ work. not (is_at job number work)) ws ≡ filter left_by ws
  taken_leaves [] one taken = refl
  taken_leaves (w ∷ ws) one taken = by (is_at job number w) w.taken (taken_leaves ws) one taken
    where
      by : (b t : Bool) → (length (filter (is_at job number) ws) ≤ 1 → is_taken ws job.0 number ≡ true → filter (λ work. not (is_at job number work)) ws ≡ filter left_by ws)
          → length (cond b (w ∷ filter (is_at job number) ws) (filter (is_at job number) ws)) ≤ 1 → ((b && t) || is_taken ws job.0 number) ≡ true
          → cond (not b) (w ∷ filter (λ work. not (is_at job number work)) ws) (filter (λ work. not (is_at job number work)) ws) ≡ cond (not (b && t)) (w ∷ filter left_by ws) (filter left_by ws)
      by true true rest one taken = both_stay ws (omega (arith, one))
      by true false rest one taken = true_false (sym (none_taken_at ws (omega (arith, one))) ∙ taken)
      by false t rest one taken = ap (λ t. w ∷ t) (rest one taken)

  untaken_stay : (ws : List Queued) → is_taken ws job.0 number ≡ false → ws ≡ filter left_by ws
  untaken_stay [] none = refl
  untaken_stay (w ∷ ws) none = by (is_at job number w && w.taken) (untaken_stay ws) none
    where
      by : (b : Bool) → (is_taken ws job.0 number ≡ false → ws ≡ filter left_by ws) → (b || is_taken ws job.0 number) ≡ false → w ∷ ws ≡ cond (not b) (w ∷ filter left_by ws) (filter left_by ws)
      by true rest none = true_false (sym none)
      by false rest none = ap (λ t. w ∷ t) (rest none)

  -- the check of the work that is found
  abbrev check_found : Option Queued → Option Refusal
  check_found o = elim o [ None ↦ Some Stale | Some work ↦ cond work.taken None (Some Stale) ]

  check_by : (ws : List Queued) → length (filter (is_at job number) ws) ≤ 1 → check_found (find (is_at job number) ws) ≡ stale_unless (is_taken ws job.0 number)
  check_by [] one = refl
  check_by (w ∷ ws) one = by (is_at job number w) (check_by ws) one
    where
      by_taken : (t : Bool) → length (filter (is_at job number) ws) ≤ 0 → cond t None (Some Stale) ≡ stale_unless (t || is_taken ws job.0 number)
      by_taken true none = refl
      by_taken false none = sym (ap stale_unless (none_taken_at ws none))

      by : (b : Bool) → (length (filter (is_at job number) ws) ≤ 1 → check_found (find (is_at job number) ws) ≡ stale_unless (is_taken ws job.0 number))
          → length (cond b (w ∷ filter (is_at job number) ws) (filter (is_at job number) ws)) ≤ 1
          → check_found (cond b (Some w) (find (is_at job number) ws)) ≡ stale_unless ((b && w.taken) || is_taken ws job.0 number)
      by true rest one = by_taken w.taken (omega (arith, one))
      by false rest one = rest one

  check_passed : (o : Option Queued) → check_found o ≡ None → (w : Queued) × (o ≡ Some w)
  check_passed None passed = none_some Stale (sym passed)
  check_passed (Some w) passed = (w, refl)

  -- a job without works has none that is taken
  none_out : (ws : List Queued) → part job ws ≡ [] → is_taken ws job.0 number ≡ false
  none_out ws none =
      let n = one_each job number ws in
      let zero : count_by (λ (w : WorkInFlight). w.number == number) (part job ws) ≡ 0 = ap (count_by (λ (w : WorkInFlight). w.number == number)) none in
      none_taken_at ws (omega (arith, n, zero))

  -- what is found in the line is found among the job's works
  found_part : (ws : List Queued) (w : Queued) → find (is_at job number) ws ≡ Some w → find (λ v. v.number == number) (part job ws) ≡ Some (shown w.asked)
  found_part [] w found = none_some w found
  found_part (x ∷ xs) w found = by (is_of job x) (x.asked.number == number) refl found (found_part xs w)
    where
      by : (a b : Bool) → (x.asked.number == number) ≡ b → cond (a && x.asked.number == number) (Some x) (find (is_at job number) xs) ≡ Some w
          → (find (is_at job number) xs ≡ Some w → find (λ v. v.number == number) (part job xs) ≡ Some (shown w.asked))
          → find (λ v. v.number == number) (map (λ (work : Queued). shown work.asked) (cond a (x ∷ filter (is_of job) xs) (filter (is_of job) xs))) ≡ Some (shown w.asked)
      by false b is found rest = rest found
      by true true is found rest =
          ap (λ n. cond n (Some (shown x.asked)) (find (λ (v : WorkInFlight). v.number == number) (part job xs))) is
          ∙ ap (λ o. Some (shown (unwrap_or o x).asked)) (sym (ap (λ n. cond n (Some x) (find (is_at job number) xs)) is) ∙ found)
      by true false is found rest =
          ap (λ n. cond n (Some (shown x.asked)) (find (λ (v : WorkInFlight). v.number == number) (part job xs))) is
          ∙ rest (sym (ap (λ n. cond n (Some x) (find (is_at job number) xs)) is) ∙ found)

-- ---- the private step's answer

-- what is done with a work, and with its copy
abbrev ended : Shape → ℕ → WorkVerdict → WorkInFlight → Copy → Change
ended store number verdict w copy =
    let rest = events.without_work store number in
    cond w.writes (events.written rest w copy verdict) (erasing rest (done (settled (set_copy rest w.id (marked (read_mark verdict) copy)) w.id)))

abbrev ended_work : Shape → ℕ → WorkVerdict → WorkInFlight → Change
ended_work store number verdict w = needing store (at store.copies w.id) Stale (ended store number verdict w)

ended_ok : (store : Shape) (number : ℕ) (w : WorkInFlight) (copy : Copy) (verdict : WorkVerdict) (writes : Bool)
    → (ended store number verdict (record w { writes = writes }) copy).reply ≡ reply.Ok
ended_ok store number w copy work.Failed true = refl
ended_ok store number w copy work.Fine true = refl
ended_ok store number w copy work.Damaged true = refl
ended_ok store number w copy verdict false = refl

-- the answer to a work of a copy that is there is Ok
answer_ok : (store : Shape) (number : ℕ) (verdict : WorkVerdict) (w : WorkInFlight) (copy : Copy) → events.work_of store number ≡ Some w → at store.copies w.id ≡ Some copy
    → (events.answer store number verdict).reply ≡ reply.Ok
unfolding needing
answer_ok store number verdict w copy flying found =
    ap (λ o. (option_map_or (ended_work store number verdict) o (refused store Stale)).reply) flying
    ∙ ap (λ o. (option_map_or (ended store number verdict w) o (refused store Stale)).reply) found
    ∙ ended_ok store number w copy verdict w.writes

-- ---- a job that isn't live

-- nothing changes
same_view : (q job : ℕ) (old : Hosted) (view : View) → Shows old q view → Shows old q (cond (q == job) view view)
same_view q job old view h = by (q == job)
  where
    by : (b : Bool) → Shows old q (cond b view view)
    by true = h
    by false = h

module _ (nodeno : ℕ) (a : Admissions) (line : WorkLine) (grants : List StandingGrant) (job : JobNo) (number : ℕ) (answer : DeviceAnswer) where
  abbrev x : Input
  x = input.Answer number answer

  abbrev e : Event
  e = event.Finish job number answer

  module _ (rows : List (JobNo × Row)) (none : lookup (same_job job) rows ≡ None) where
    abbrev without : Hosted
    without = node_of nodeno a line grants rows

    none_at : (view : View) → Shows without job.0 view → is_taken line.works job.0 number ≡ false
    none_at view h =
        let b : IsBare a.greatest (beside_at without job.0) job.0 view = subst (IsViewBy a.greatest (beside_at without job.0) job.0 view) none h.by_row in
        none_out job number line.works b.works

    pub stale_steps : NodeStepOne without e (only (reply.Refused Stale)) without
    stale_steps = record {
      number = refl;
      views = λ v shows q. same_view q job.0 without (v q) (shows q);
      response = λ view h. record { posts = refl; erased = refl };
      operator = refl;
      by_views = λ v shows. sym (ap (λ t. answer_of_check (stale_unless t)) (none_at (v job.0) (shows job.0)));
      admissions = refl;
      lives = refl;
      line = λ v shows. untaken_stay job number line.works (none_at (v job.0) (shows job.0));
      grants = refl;
    }

  -- ---- a live job

  -- what is told of the row and the line, where the row's job is of this number
  pub record Finished (row after : Row) (works : WorkLine) (response : RowGiven) (verdict : WorkVerdict) (n : ℕ) : Type 0 where
    pub step : finish_check line (record { 0 = n }) number ≡ None → (bytes : ObjectId → List ℕ) (contents : Contents) → IsShown row (beside_of line grants bytes n) contents
        → RowStep nodeno row (beside_of line grants bytes n) contents x response after (beside_of works grants bytes n)
    pub judged : finish_check line (record { 0 = n }) number ≡ None → (bytes : ObjectId → List ℕ) (contents : Contents) → IsShown row (beside_of line grants bytes n) contents
        → verdict ≡ work_verdict (seen row (beside_of line grants bytes n) contents) number answer
    pub line_is : finish_check line (record { 0 = n }) number ≡ None → works ≡ record line { works = filter (λ work. not (is_at (record { 0 = n }) number work)) line.works }
    pub others : (other : JobNo) → same_line_job (record { 0 = n }) other ≡ false → IsSameFor other line works
    pub stale : (r : Refusal) → finish_check line (record { 0 = n }) number ≡ Some r → response ≡ only (reply.Refused Stale)
    pub same : (r : Refusal) → finish_check line (record { 0 = n }) number ≡ Some r → after ≡ row
    pub same_line : (r : Refusal) → finish_check line (record { 0 = n }) number ≡ Some r → works ≡ line

  module _ (table : AreGrants grants) (old new : List (JobNo × Row)) (row after : Row) (works : WorkLine) (response : RowGiven) (verdict : WorkVerdict)
      (found : lookup (same_job job) old ≡ Some row)
      (updated : (q : JobNo) → lookup (same_job q) new ≡ cond (same_job job q) (Some after) (lookup (same_job q) old))
      (new_is : new ≡ set_value (same_job job) old after)
      (finished : Finished row after works response verdict row.job) where
    abbrev node_old : Hosted
    node_old = node_of nodeno a line grants old

    abbrev node_new : Hosted
    node_new = node_of nodeno a works grants new

    abbrev beside : SharedTables
    beside = beside_at node_old job.0

    abbrev taken : Bool
    taken = is_taken line.works job.0 number

    -- with the view of the job
    module _ (view : View) (h : Shows node_old job.0 view) where
      r : IsRowView row beside job.0 view
      r = subst (IsViewBy a.greatest beside job.0 view) found h.by_row

      f : Finished row after works response verdict job.0
      f = subst (Finished row after works response verdict) r.own finished

      few : length (filter (is_at job number) line.works) ≤ 1
      few = let n = one_each job number line.works in let one = r.shown.kept.kept.shape.one_number number in omega (arith, n, one)

      check_is : finish_check line job number ≡ stale_unless taken
      check_is = check_by job number line.works few

      passed : taken ≡ true → finish_check line job number ≡ None
      passed is = check_is ∙ ap stale_unless is

      failed : taken ≡ false → finish_check line job number ≡ Some Stale
      failed is = check_is ∙ ap stale_unless is

      untouched : taken ≡ false → node_new ≡ node_old
      untouched is =
          (λ i. node_of nodeno a (f.same_line Stale (failed is) i) grants ((new_is ∙ ap (set_value (same_job job) old) (f.same Stale (failed is)) ∙ set_value_same (same_job job) old row found) i))

      step_ok : taken ≡ true → (view_step nodeno (seen row beside view.contents) x).reply ≡ reply.Ok
      step_ok is =
          let w = check_passed job number (find (is_at job number) line.works) (passed is) in
          let flying = found_part job number line.works w.0 w.1 in
          let k = copy_at_work row beside view.contents r.shown number (shown w.0.asked) flying in
          ap (whole_reply (seen row beside view.contents) x)
          (answer_ok (shape_of row beside) number (work_verdict (seen row beside view.contents) number answer) (shown w.0.asked) k.0.copy flying (at-copies_found row.copies w.0.asked.id k.0 k.1))

      response_ok : taken ≡ true → response.reply ≡ reply.Ok
      response_ok is = (f.step (passed is) (bytes_here old) view.contents r.shown).reply ∙ step_ok is

      told_stale : taken ≡ false → response ≡ only (reply.Refused Stale)
      told_stale is = f.stale Stale (failed is)

      reply_is : response.reply ≡ answer_of_check (stale_unless taken)
      reply_is = by taken refl
        where
          by : (t : Bool) → taken ≡ t → response.reply ≡ answer_of_check (stale_unless t)
          by true is = response_ok is
          by false is = ap (λ g. g.reply) (told_stale is)

      given : IsGiven nodeno view (event_input_of e response.reply) response
      given = by taken refl
        where
          by : (t : Bool) → taken ≡ t → IsGiven nodeno view (event_input_of e response.reply) response
          by true is =
              subst (λ g. IsGiven nodeno view (event_input_of e g) response) (sym (response_ok is))
              (told_stepped nodeno a a refl line works grants table job x old new row after response found updated (λ contents own shown. f.step (passed is) (bytes_here old) contents shown) f.others view h)
          by false is = subst (λ g. IsGiven nodeno view (event_input_of e g.reply) g) (sym (told_stale is)) (record { posts = refl; erased = refl })

      line_left : works.works ≡ filter (left_by job number) line.works
      line_left = by taken refl
        where
          by : (t : Bool) → taken ≡ t → works.works ≡ filter (left_by job number) line.works
          by true is = ap (λ (l : WorkLine). l.works) (f.line_is (passed is)) ∙ taken_leaves job number line.works few is
          by false is = ap (λ (l : WorkLine). l.works) (f.same_line Stale (failed is)) ∙ untaken_stay job number line.works is

      -- what it was to the job
      pub finish_judged : option_map (judge nodeno view) (event_input_of e response.reply) ≡ if_ok response.reply (judged.Answer number verdict)
      finish_judged = by taken refl
        where
          by : (t : Bool) → taken ≡ t → option_map (judge nodeno view) (event_input_of e response.reply) ≡ if_ok response.reply (judged.Answer number verdict)
          by true is =
              subst (λ g. option_map (judge nodeno view) (event_input_of e g) ≡ if_ok g (judged.Answer number verdict)) (sym (response_ok is))
              (ap (λ v. Some (judged.Answer number v)) (ap (λ v. work_verdict v number answer) (view_is row beside job.0 view r) ∙ sym (f.judged (passed is) (bytes_here old) view.contents r.shown)))
          by false is = subst (λ g. option_map (judge nodeno view) (event_input_of e g.reply) ≡ if_ok g.reply (judged.Answer number verdict)) (sym (told_stale is)) refl

    views : (v : ℕ → View) → ShowsAll node_old v → (q : ℕ) → Shows node_new q (cond (q == job.0) (view_by nodeno (v q) (event_input_of e response.reply)) (v q))
    views v shows q = by taken refl
      where
        own : Shows node_old job.0 (v job.0)
        own = shows job.0

        by : (t : Bool) → taken ≡ t → Shows node_new q (cond (q == job.0) (view_by nodeno (v q) (event_input_of e response.reply)) (v q))
        by true is =
            let f = f (v job.0) own in
            subst (λ g. Shows node_new q (cond (q == job.0) (view_by nodeno (v q) (event_input_of e g)) (v q))) (sym (response_ok (v job.0) own is))
            (views_stepped nodeno a a refl line works grants table job x old new row after response found updated (λ contents at shown. f.step (passed (v job.0) own is) (bytes_here old) contents shown) f.others v shows q)
        by false is =
            subst (λ g. Shows node_new q (cond (q == job.0) (view_by nodeno (v q) (event_input_of e g.reply)) (v q))) (sym (told_stale (v job.0) own is))
            (subst (λ n. Shows n q (cond (q == job.0) (v q) (v q))) (sym (untouched (v job.0) own is)) (same_view q job.0 node_old (v q) (shows q)))

    pub finish_steps : NodeStepOne node_old e response node_new
    finish_steps = record {
      number = refl;
      views = views;
      response = given;
      operator = refl;
      by_views = λ v shows. reply_is (v job.0) (shows job.0);
      admissions = refl;
      lives = refl;
      line = λ v shows. line_left (v job.0) (shows job.0);
      grants = refl;
    }
