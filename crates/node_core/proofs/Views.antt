-- A step of one job changes the views of that job alone.
use Rattle.std.proofs.Common.{◌≡◌, ℕ, ◌==◌, Bool, true, false, cond, not, List, [], Some, None, refl, sym, ap, subst, ◌∙◌, arith}
use Rattle.std.specs.List.{list_any}
use Rattle.std.specs.Map.{lookup}
use Rattle.std.proofs.lemmas.Bool.{eqb-true}
use Rattle.std.proofs.lemmas.Bool.Decides.{nat_tests}
use Rattle.obj_id.specs.declared.ids.JobNo.{JobNo}
use Rattle.obj_id.specs.declared.ids.ObjectId.{ObjectId}
use Rattle.obj_id.specs.declared.commands.Command.{Command}
use Rattle.obj_id.specs.declared.commands.Reply.TheVariants as reply
use Rattle.obj_id.specs.declared.refusals.Refusal.{Refusal}
use Rattle.obj_id.specs.declared.refusals.Refusal.TheVariants.{NotAdmitted}
use Rattle.private_store.specs.declared.inputs.Input.{Input}
use Rattle.private_store.specs.declared.inputs.Input.TheVariants as input
use Rattle.private_store.specs.declared.schedules.Event.TheVariants as event
use Rattle.private_store.specs.rules.Jobs.{same_job}
use Rattle.private_store.specs.rules.Grants.{StandingGrant}
use Rattle.private_store.specs.rules.Shape.{Life, Shape, Seen}
use Rattle.private_store.specs.rules.Change.{refused, erasing}
use Rattle.private_store.specs.rules.Events.{is_live}
use Rattle.private_store.specs.rules.Step.{step, commanded}
use Rattle.private_store.specs.rules.Contents.{Contents, View, without_payload, judge, bytes_received, brought, kept}
use Rattle.private_store.specs.rules.Private.{view_step, outcome}
use Rattle.store_facts.proofs.Checks.{checked-true}
use Rattle.spill_work.specs.Line.{WorkLine, IsSameFor, same_work_job as same_line_job}
use Rattle.node_core.proofs.Others.{other_view, not_same}
use Rattle.job_admission.specs.Admissions.{Admissions}
use Rattle.grants.specs.Table.{AreGrants}
use Rattle.job_row.specs.Row.{Row}
use Rattle.row_steps.specs.Shown.{seen, IsShown, RowGiven, only, RowStep}
use Rattle.row_commands.proofs.ForCallers.{is_of, alike_bytes}
use Rattle.row_steps.proofs.ForCallers.{kept_as_they_are}
use Rattle.node_core.specs.Hosted.{Hosted, IsRowView, IsBare, IsViewBy, Shows, ShowsAll, empty_view, empty_shape, bytes_here, beside_at}
use Rattle.node_core.proofs.Granted.{bytes_same}
use Rattle.node_core.specs.OneJob.{IsStepOf, NodeStepOne}
use Rattle.room_commands.specs.Asked.{HasAsked}
use Rattle.node_core.proofs.Lines.{asked_nothing}
use Rattle.store_facts.proofs.OwnJob.{step_keeps_job}
use Rattle.row_steps.specs.Beside.{SharedTables, beside_of, received_bytes, shape_of}

pub itself : (job : JobNo) → same_job job job ≡ true
itself job = grind (arith, nat_tests)

pub another : (job : JobNo) (q : ℕ) → (q == job.0) ≡ false → same_job job (record { 0 = q }) ≡ false
another job q e = grind (arith, nat_tests, e)

-- the view that a row shows with what stands beside it
pub view_is : (row : Row) (beside : SharedTables) (job : ℕ) (view : View) → IsRowView row beside job view → view ≡ seen row beside view.contents
view_is row beside job view h =
    ap (λ s. record { shape = s; order = view.order; contents = view.contents }) h.shape
    ∙ ap (λ ids. record { shape = shape_of row beside; order = ids; contents = view.contents }) h.order

abbrev pub node_of : ℕ → Admissions → WorkLine → List StandingGrant → List (JobNo × Row) → Hosted
node_of number a line grants rows = record { number = number; admissions = a; works = line; grants = grants; rows = rows }

-- ---- a row takes a step, and no grant changes

-- the row and the line of works take the step, beside these grants where objects have these bytes
abbrev pub Takes : ℕ → JobNo → Input → List StandingGrant → (ObjectId → List ℕ) → Row → WorkLine → RowGiven → Row → WorkLine → Type 0
Takes number job x grants bytes row line response after works =
    (contents : Contents) → row.job ≡ job.0 → IsShown row (beside_of line grants bytes job.0) contents
    → RowStep number row (beside_of line grants bytes job.0) contents x response after (beside_of works grants bytes job.0)

module _ (number : ℕ) (a b : Admissions) (low : b.greatest ≡ a.greatest) (line works : WorkLine) (grants : List StandingGrant) (table : AreGrants grants) (job : JobNo) (x : Input)
    (old new : List (JobNo × Row)) (row after : Row) (response : RowGiven)
    (found : lookup (same_job job) old ≡ Some row)
    (updated : (q : JobNo) → lookup (same_job q) new ≡ cond (same_job job q) (Some after) (lookup (same_job q) old))
    (obeys : Takes number job x grants (bytes_here old) row line response after works)
    (others : (other : JobNo) → same_line_job job other ≡ false → IsSameFor other line works) where
  abbrev at_old : Hosted
  at_old = node_of number a line grants old

  abbrev at_new : Hosted
  at_new = node_of number b works grants new

  abbrev before : SharedTables
  before = beside_at at_old job.0

  -- after the step, while objects have the bytes that they had
  abbrev between : SharedTables
  between = beside_of works grants (bytes_here old) job.0

  row_view : (view : View) → Shows at_old job.0 view → IsRowView row before job.0 view
  row_view view h = subst (IsViewBy a.greatest before job.0 view) found h.by_row

  shows_at : (q : ℕ) (view : View) → IsViewBy a.greatest (beside_at at_new q) q view (lookup (same_job (record { 0 = q })) new) → Shows at_new q view
  shows_at q view h = record { by_row = subst (λ g. IsViewBy g (beside_at at_new q) q view (lookup (same_job (record { 0 = q })) new)) (sym low) h }

  pub told_stepped : (view : View) → Shows at_old job.0 view → IsStepOf number view x response
  told_stepped view h =
      let r = row_view view h in
      let t = obeys view.contents r.own r.shown in
      subst (λ v. IsStepOf number v x response) (sym (view_is row before job.0 view r)) (record { reply = t.reply; posts = t.posts; erased = t.erased })

  module _ (own : View) (h : Shows at_old job.0 own) where
    r : IsRowView row before job.0 own
    r = row_view own h

    t : RowStep number row before own.contents x response after between
    t = obeys own.contents r.own r.shown

    own_after : after.job ≡ job.0
    own_after = sym (ap (λ s. s.job) t.shape) ∙ step_keeps_job row.order (shape_of row before) (judge number (seen row before own.contents) x) ∙ r.own

    same_bytes : (id : ObjectId) → list_any (is_of id) grants ≡ true → bytes_here old id ≡ bytes_here new id
    same_bytes = bytes_same grants table number line works (bytes_here old) job old new row after own.contents x response found updated r.own own_after r.shown t

    row_stepped : IsRowView after between job.0 (view_step number own x).view
    row_stepped =
        subst (λ v. IsRowView after between job.0 (view_step number v x).view) (sym (view_is row before job.0 own r))
        (record { own = own_after; shape = t.shape; order = t.order; shown = t.shown })

    own_shows : Shows at_new job.0 (view_step number own x).view
    own_shows =
        shows_at job.0 (view_step number own x).view
        (other_view between (beside_at at_new job.0) (alike_bytes (bytes_here old) (bytes_here new) works works grants job.0 (record { works = refl; used = refl }) same_bytes)
        a.greatest job.0 (view_step number own x).view (lookup (same_job job) new)
        (subst (IsViewBy a.greatest between job.0 (view_step number own x).view)
        (sym (updated job ∙ ap (λ b. cond b (Some after) (lookup (same_job job) old)) (itself job))) row_stepped))

    other_shows : (q : ℕ) (view : View) → (q == job.0) ≡ false → Shows at_old q view → Shows at_new q view
    other_shows q view differ shown =
        shows_at q view
        (other_view (beside_at at_old q) (beside_at at_new q) (alike_bytes (bytes_here old) (bytes_here new) line works grants q (others (record { 0 = q }) (not_same job q differ)) same_bytes)
        a.greatest q view (lookup (same_job (record { 0 = q })) new)
        (subst (IsViewBy a.greatest (beside_at at_old q) q view)
        (sym (updated (record { 0 = q }) ∙ ap (λ b. cond b (Some after) (lookup (same_job (record { 0 = q })) old)) (another job q differ))) shown.by_row))

  pub views_stepped : (v : ℕ → View) → ShowsAll at_old v → (q : ℕ) → Shows at_new q (cond (q == job.0) (view_step number (v q) x).view (v q))
  views_stepped v shows q = by (q == job.0) refl
    where
      by : (b : Bool) → (q == job.0) ≡ b → Shows at_new q (cond b (view_step number (v q) x).view (v q))
      by true e = subst (λ n. Shows at_new n (view_step number (v n) x).view) (sym (eqb-true q job.0 e)) (own_shows (v job.0) (shows job.0))
      by false e = other_shows (v job.0) (shows job.0) q (v q) e (shows q)

-- ---- on a job that isn't live

module _ (number : ℕ) (a : Admissions) (line : WorkLine) (grants : List StandingGrant) (job : JobNo) (x : Input) (quiet : bytes_received x ≡ None) where
  module _ (life : Life) (beside : SharedTables) (refusal : Refusal) (is_refused : step [] (empty_shape job.0 life beside) (judge number (empty_view job.0 life beside) x) ≡ refused (empty_shape job.0 life beside) refusal) where
    abbrev s : Shape
    s = empty_shape job.0 life beside

    abbrev v : View
    v = empty_view job.0 life beside

    refused_step : view_step number v x ≡ outcome number v x (judge number v x) (refused s refusal)
    refused_step = ap (outcome number v x (judge number v x)) is_refused

    received_stays : kept (λ seen. true) (λ seen. []) (brought (received_bytes beside) (bytes_received x)) beside.received ≡ received_bytes beside
    received_stays = ap (λ o. kept (λ (seen : Seen). true) (λ seen. []) (brought (received_bytes beside) o) beside.received) quiet ∙ kept_as_they_are beside.bytes beside.received

    pub bare_stays : (view_step number v x).view ≡ v
    bare_stays = ap (λ o. o.view) refused_step ∙ ap (λ t. record { shape = s; order = []; contents = record { bytes = []; digests = []; received = t } }) received_stays

    pub without_row_told : IsStepOf number v x (only (reply.Refused refusal))
    without_row_told = record {
      reply = sym (ap (λ o. o.reply) refused_step);
      posts = sym (ap (λ o. o.posts) refused_step);
      erased = sym (ap (λ o. o.erased) refused_step);
    }

  -- whatever of it was not begun or has ended
  abbrev pub Refuses : Refusal → Type 0
  Refuses refusal =
      (life : Life) (beside : SharedTables) → is_live (empty_shape job.0 life beside) ≡ false
      → step [] (empty_shape job.0 life beside) (judge number (empty_view job.0 life beside) x) ≡ refused (empty_shape job.0 life beside) refusal

  module _ (rows : List (JobNo × Row)) (none : lookup (same_job job) rows ≡ None) (refusal : Refusal) (refuses : Refuses refusal) where
    abbrev node : Hosted
    node = node_of number a line grants rows

    no_row : (view : View) → Shows node job.0 view → IsBare a.greatest (beside_at node job.0) job.0 view
    no_row view h = subst (IsViewBy a.greatest (beside_at node job.0) job.0 view) none h.by_row

    stays_bare : (view : View) → IsBare a.greatest (beside_at node job.0) job.0 view → (view_step number view x).view ≡ view
    stays_bare view b =
        ap (λ w. (view_step number w x).view) b.is ∙ bare_stays b.life (beside_at node job.0) refusal (refuses b.life (beside_at node job.0) b.dead) ∙ sym b.is

    pub views_same : (q : ℕ) (view : View) → Shows node q view → Shows node q (cond (q == job.0) (view_step number view x).view view)
    views_same q view h = by (q == job.0) refl
      where
        by : (b : Bool) → (q == job.0) ≡ b → Shows node q (cond b (view_step number view x).view view)
        by true e =
            let same = eqb-true q job.0 e in
            subst (Shows node q) (sym (stays_bare view (no_row view (subst (λ n. Shows node n view) same h)))) h
        by false e = h

    pub response_refused : (view : View) → Shows node job.0 view → IsStepOf number view x (only (reply.Refused refusal))
    response_refused view h =
        let b = no_row view h in
        subst (λ w. IsStepOf number w x (only (reply.Refused refusal))) (sym b.is) (without_row_told b.life (beside_at node job.0) refusal (refuses b.life (beside_at node job.0) b.dead))

-- ---- a command

module _ (number : ℕ) (a : Admissions) (line : WorkLine) (grants : List StandingGrant) (job : JobNo) (session : ℕ) (c : Command (List ℕ)) where
  module _ (table : AreGrants grants) (old new : List (JobNo × Row)) (row after : Row) (works : WorkLine) (response : RowGiven)
      (found : lookup (same_job job) old ≡ Some row)
      (updated : (q : JobNo) → lookup (same_job q) new ≡ cond (same_job job q) (Some after) (lookup (same_job q) old))
      (line_after : HasAsked line job works)
      (obeys : Takes number job (input.Call session c) grants (bytes_here old) row line response after works)
      (others : (other : JobNo) → same_line_job job other ≡ false → IsSameFor other line works) where
    pub call_steps : NodeStepOne (node_of number a line grants old) (event.Call job session c) response (node_of number a works grants new)
    call_steps = record {
      number = refl;
      views = views_stepped number a a refl line works grants table job (input.Call session c) old new row after response found updated obeys others;
      response = told_stepped number a a refl line works grants table job (input.Call session c) old new row after response found updated obeys others;
      operator = refl;
      by_views = λ v h. refl;
      admissions = refl;
      lives = refl;
      line = λ v shows. line_after;
      grants = refl;
    }

  pub call_refuses : Refuses number a line grants job (input.Call session c) refl NotAdmitted
  call_refuses life beside dead =
      let s = empty_shape job.0 life beside in
      checked-true s (not (is_live s)) NotAdmitted [] (erasing s (commanded [] s session (without_payload c))) (ap not dead)

  module _ (rows : List (JobNo × Row)) (none : lookup (same_job job) rows ≡ None) where
    pub refused_steps : NodeStepOne (node_of number a line grants rows) (event.Call job session c) (only (reply.Refused NotAdmitted)) (node_of number a line grants rows)
    refused_steps = record {
      number = refl;
      views = λ v shows q. views_same number a line grants job (input.Call session c) refl rows none NotAdmitted call_refuses q (v q) (shows q);
      response = response_refused number a line grants job (input.Call session c) refl rows none NotAdmitted call_refuses;
      operator = refl;
      by_views = λ v h. refl;
      admissions = refl;
      lives = refl;
      line = λ v shows. asked_nothing line job;
      grants = refl;
    }
