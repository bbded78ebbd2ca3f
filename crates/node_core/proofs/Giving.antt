-- What a Grant leaves at a node: the own step, a grant more beside every row, and its grantee is notified.
use Rattle.std.proofs.Common.{◌≡◌, ℕ, ◌==◌, Bool, true, false, cond, ◌||◌, ◌&&◌, List, [], ◌∷◌, ◌++◌, length, map, inl, inr, ◌⊎◌, Option, Some, None, refl, sym, ap, subst, ◌∙◌, arith}
use Rattle.std.specs.List.{find, list_any}
use Rattle.std.specs.Map.{lookup}
use Rattle.std.specs.Option.{option_map_or}
use Rattle.std.proofs.lemmas.Bool.{eqb-true}
use Rattle.std.proofs.lemmas.Bool.Decides.{nat_tests}
use Rattle.std.proofs.lemmas.List.{append-nil}
use Rattle.std.proofs.lemmas.List.Folds.{list_any-append}
use Rattle.obj_id.specs.declared.ids.JobNo.{JobNo}
use Rattle.obj_id.specs.declared.ids.ObjectId.{ObjectId}
use Rattle.obj_id.specs.declared.commands.Command.{Command}
use Rattle.obj_id.specs.declared.commands.Command.TheVariants as command
use Rattle.obj_id.specs.declared.commands.Reply.TheVariants as reply
use Rattle.obj_id.specs.declared.refusals.Refusal.{Refusal}
use Rattle.obj_id.specs.declared.refusals.Refusal.TheVariants.{BadId, NotAdmitted}
use Rattle.obj_id.specs.Ids.{same_id}
use Rattle.store_facts.proofs.Ids.{same_id-equal}
use Rattle.private_store.specs.declared.inputs.Input.{Input}
use Rattle.private_store.specs.declared.inputs.Input.TheVariants as input
use Rattle.private_store.specs.declared.schedules.Event.{Event}
use Rattle.private_store.specs.declared.schedules.Event.TheVariants as event
use Rattle.private_store.specs.declared.schedules.NodeEvent.TheVariants.{Own}
use Rattle.private_store.specs.rules.Contents.{View, bytes_at, judge}
use Rattle.private_store.specs.rules.Grants.{StandingGrant, ground, new_grant, with_grant}
use Rattle.private_store.specs.rules.Jobs.{same_job}
use Rattle.private_store.specs.laws.Invariants.{has_grant}
use Rattle.private_store.specs.laws.NodeInputs.{JobInput, only_of, received_here}
use Rattle.private_store.specs.rules.Private.{view_step, view_from}
use Rattle.store_facts.proofs.OwnJob.{step_keeps_job}
use Rattle.store_facts.proofs.Tests.{none_some, or_cases, or_false, true_false}
use Rattle.grants.specs.Table.{AreGrants, is_no_grantee, limits_check, hung_check, grant_check as table_check}
use Rattle.grants.proofs.ForCallers.{pushed_are_grants, made_for}
use Rattle.job_admission.specs.Admissions.{Admissions}
use Rattle.spill_work.specs.Line.{WorkLine}
use Rattle.row_commands.specs.Granting.{row_bytes}
use Rattle.job_row.specs.Row.{Row}
use Rattle.row_steps.specs.Shown.{seen, only, IsShown, RowGiven, RowStep}
use Rattle.row_commands.proofs.ForCallers.{is_of, alike_bytes, lengths, same_given, others_stand, row_receives, bare_receives, received_is}
use Rattle.row_steps.proofs.ForCallers.{past}
use Rattle.node_core.specs.Granting.{grant_refusal, TakesGrant}
use Rattle.node_core.specs.Hosted.{Hosted, IsRowView, IsViewBy, Shows, ShowsAll, bytes_here, beside_at}
use Rattle.node_core.specs.MemoryLast.{grants_check, IsCallUnrefused, IsRoomDue, IsUnrefused}
use Rattle.node_core.specs.Outcomes.{with_given, with_no_notes, received_noted}
use Rattle.node_core.specs.Steps.{queued, IsStepOf, NodeStep, NodeStepFrom}
use Rattle.node_core.proofs.AllJobs.{all_steps, asks_nothing, refused_still}
use Rattle.node_core.proofs.Granted.{IsSealedCopy, granted_copy, sealed_bytes, sealed_stay, own_gave, bytes_where}
use Rattle.node_core.proofs.GrantCommands.{table_passed, own_sealed}
use Rattle.node_core.proofs.Lines.{asked_nothing}
use Rattle.node_core.proofs.Others.{other_view}
use Rattle.node_core.proofs.Views.{itself, view_is, node_of, Takes, call_steps, refused_steps}
use Rattle.row_steps.specs.Beside.{SharedTables, row_given_by, beside_of, shape_of}

-- ---- the table

-- the grantee is another job than the grantor
grantee_apart : (grants : List StandingGrant) (grantor : ℕ) (id : ObjectId) (grantee : ℕ) → table_check grants grantor id grantee ≡ None → (grantor == grantee) ≡ false
grantee_apart grants grantor id grantee passed = by (grantee == 0) (grantee == grantor) (grantee == id.job.0) (grantor == grantee) (grind (arith, nat_tests)) (past (is_no_grantee id grantor grantee) BadId _ passed).0
  where
    by : (a b c d : Bool) → b ≡ d → (a || b || c) ≡ false → d ≡ false
    by a false c false same e = refl
    by a false c true same e = absurd cc
    by true true c d same e = absurd cc
    by false true c d same e = absurd cc

-- another job's object is seen by its grantor
grant_found : (grants : List StandingGrant) (grantor : ℕ) (id : ObjectId) (grantee : ℕ) → (id.job.0 == grantor) ≡ false → table_check grants grantor id grantee ≡ None → list_any (is_of id) grants ≡ true
grant_found grants grantor id grantee foreign passed = some_of grants (by (ground grants id grantor) refl hung)
  where
    hung : hung_check grants grantor id grantee (ground grants id grantor) ≡ None
    hung =
        ap (λ b. cond b (limits_check grants grantor id grantee 0) (hung_check grants grantor id grantee (ground grants id grantor))) (sym foreign)
        ∙ (past (is_no_grantee id grantor grantee) BadId _ passed).1

    by : (o : Option StandingGrant) → ground grants id grantor ≡ o → hung_check grants grantor id grantee o ≡ None → (h : StandingGrant) × (ground grants id grantor ≡ Some h)
    by (Some h) is e = (h, is)
    by None is e = absurd cc

    some_of : (hs : List StandingGrant) → (h : StandingGrant) × (find (λ grant. same_id id grant.id && grant.grantee == grantor) hs ≡ Some h) → list_any (is_of id) hs ≡ true
    some_of [] (h, is) = none_some h is
    some_of (x ∷ hs) (h, is) = each (same_id id x.id) (x.grantee == grantor) is (some_of hs)
      where
        each : (s g : Bool) → cond (s && g) (Some x) (find (λ grant. same_id id grant.id && grant.grantee == grantor) hs) ≡ Some h
            → ((h : StandingGrant) × (find (λ grant. same_id id grant.id && grant.grantee == grantor) hs ≡ Some h) → list_any (is_of id) hs ≡ true) → (s || list_any (is_of id) hs) ≡ true
        each true g is rest = refl
        each false g is rest = rest (h, is)

-- the table with the new grant is one
pub granted_are : (grants : List StandingGrant) (grantor : ℕ) (id : ObjectId) (grantee : ℕ) → AreGrants grants → table_check grants grantor id grantee ≡ None → AreGrants (with_grant grants id grantor grantee)
granted_are grants grantor id grantee table passed = pushed_are_grants grants grantor id grantee (new_grant grants id grantor grantee) true (with_grant grants id grantor grantee) table passed refl refl

-- ---- the inputs

-- the own one, and one to another job
two_inputs : (number job grantee q : ℕ) (x y : Input) (view : View) → (job == grantee) ≡ false
    → view_from number view (only_of q (record { job = job; input = x } ∷ record { job = grantee; input = y } ∷ []))
    ≡ cond (q == job) (view_step number view x).view (cond (q == grantee) (view_step number view y).view view)
two_inputs number job grantee q x y view apart = by (job == q) (grantee == q) (q == job) (q == grantee) (grind (arith, nat_tests)) (grind (arith, nat_tests)) both_no
  where
    both_no : (job == q) ≡ true → (grantee == q) ≡ true → false ≡ true
    both_no a b = absurd (grind (arith, nat_tests, apart, a, b))

    by : (t s u w : Bool) → t ≡ u → s ≡ w → (t ≡ true → s ≡ true → false ≡ true)
        → view_from number view (map (λ (y : JobInput). y.input)
        (cond t (record { job = job; input = x } ∷ cond s (record { job = grantee; input = y } ∷ []) []) (cond s (record { job = grantee; input = y } ∷ []) [])))
        ≡ cond u (view_step number view x).view (cond w (view_step number view y).view view)
    by true false true false a b never = refl
    by false true false true a b never = refl
    by false false false false a b never = refl
    by true true u w a b never = true_false (never refl refl)
    by true false false w a b never = absurd cc
    by true false true true a b never = absurd cc
    by false s true w a b never = absurd cc
    by false true false false a b never = absurd cc
    by false false false true a b never = absurd cc

-- ---- the step

module _ (number : ℕ) (a : Admissions) (line : WorkLine) (grants : List StandingGrant) (table : AreGrants grants) (job : JobNo) (session : ℕ) (id : ObjectId) (target : JobNo)
    (old new : List (JobNo × Row)) (row after : Row) (response : RowGiven) (is_ok : response.reply ≡ reply.Ok)
    (found : lookup (same_job job) old ≡ Some row)
    (updated : (q : JobNo) → lookup (same_job q) new ≡ cond (same_job job q) (Some after) (lookup (same_job q) old))
    (passed : grant_refusal row job.0 id target.0 (table_check grants job.0 id target.0) ≡ None)
    (takes : TakesGrant row job.0 session id target response after) where
  abbrev asks : Input
  asks = input.Call session (command.Grant id target)

  abbrev e : Event
  e = event.Call job session (command.Grant id target)

  abbrev grant : StandingGrant
  grant = new_grant grants id job.0 target.0

  abbrev more : List StandingGrant
  more = with_grant grants id job.0 target.0

  abbrev before : Hosted
  before = node_of number a line grants old

  abbrev now : Hosted
  now = node_of number a line more new

  -- what the grantee is notified of
  abbrev brought : Input
  brought = input.Received id (bytes_here old id) (record { 0 = job.0 }) grant.depth

  accepted : table_check grants job.0 id target.0 ≡ None
  accepted = table_passed row job.0 id target.0 (table_check grants job.0 id target.0) passed

  apart : (job.0 == target.0) ≡ false
  apart = grantee_apart grants job.0 id target.0 accepted

  more_are : AreGrants more
  more_are = granted_are grants job.0 id target.0 table accepted

  -- after the steps, while objects have the bytes that they had
  abbrev between : ℕ → SharedTables
  between q = beside_of line more (bytes_here old) q

  module _ (v : ℕ → View) (shows : ShowsAll before v) where
    abbrev stepped : View
    stepped = (view_step number (v job.0) asks).view

    r : IsRowView row (beside_at before job.0) job.0 (v job.0)
    r = subst (IsViewBy a.greatest (beside_at before job.0) job.0 (v job.0)) found (shows job.0).by_row

    t : RowStep number row (beside_at before job.0) (v job.0).contents asks response after (between job.0)
    t = takes number line grants (bytes_here old) (v job.0).contents r.own passed r.shown

    own_after : after.job ≡ job.0
    own_after = sym (ap (λ s. s.job) t.shape) ∙ step_keeps_job row.order (shape_of row (beside_at before job.0)) (judge number (seen row (beside_at before job.0) (v job.0).contents) asks) ∙ r.own

    -- ---- bytes

    -- those of the object are those of its own job's store
    same_bytes : bytes_here old id ≡ bytes_at (v id.job.0).contents.bytes id
    same_bytes = by (id.job.0 == job.0) refl
      where
        by_row : (own : Row) → lookup (same_job id.job) old ≡ Some own → (IsRowView own (beside_at before id.job.0) id.job.0 (v id.job.0) → IsSealedCopy own id) → bytes_here old id ≡ bytes_at (v id.job.0).contents.bytes id
        by_row own is sealed =
            let h : IsRowView own (beside_at before id.job.0) id.job.0 (v id.job.0) = subst (IsViewBy a.greatest (beside_at before id.job.0) id.job.0 (v id.job.0)) is (shows id.job.0).by_row in
            ap (λ o. option_map_or (λ row. row_bytes row id) o []) is ∙ sealed_bytes own (beside_at before id.job.0) (v id.job.0).contents h.shown id (sealed h)

        gave : (id.job.0 == job.0) ≡ false → has_grant (row_given_by grants id.job.0) id ≡ true
        gave foreign = own_gave grants table id (grant_found grants job.0 id target.0 foreign accepted)

        by_grant : (id.job.0 == job.0) ≡ false → (o : Option Row) → lookup (same_job id.job) old ≡ o → IsViewBy a.greatest (beside_at before id.job.0) id.job.0 (v id.job.0) o → bytes_here old id ≡ bytes_at (v id.job.0).contents.bytes id
        by_grant foreign None is b = true_false (ap (λ given. has_grant given id) (sym b.given) ∙ gave foreign)
        by_grant foreign (Some own) is h = by_row own is (λ h. granted_copy own (beside_at before id.job.0) (v id.job.0).contents h.shown id (sym h.own) (gave foreign))

        by : (b : Bool) → (id.job.0 == job.0) ≡ b → bytes_here old id ≡ bytes_at (v id.job.0).contents.bytes id
        by true mine = by_row row (ap (λ n. lookup (same_job (record { 0 = n })) old) (eqb-true id.job.0 job.0 mine) ∙ found) (λ h. own_sealed row job.0 id target.0 (table_check grants job.0 id target.0) mine passed)
        by false foreign = by_grant foreign (lookup (same_job id.job) old) refl (shows id.job.0).by_row

    -- and the step leaves those of what stands then
    bytes_stay : (q : ObjectId) → list_any (is_of q) more ≡ true → bytes_here old q ≡ bytes_here new q
    bytes_stay q there =
        bytes_where job old new row after found updated q (λ jobs.
        sealed_stay number row after (beside_at before job.0) (between job.0) (v job.0).contents asks response r.shown t q
        (sealed_before jobs (or_cases (list_any (is_of q) grants) (same_id q grant.id || false) (sym (list_any-append (is_of q) grants (grant ∷ [])) ∙ there)))
        (granted_copy after (between job.0) (view_step number (seen row (beside_at before job.0) (v job.0).contents) asks).view.contents t.shown q (jobs ∙ sym own_after)
        (subst (λ n. has_grant (row_given_by more n) q ≡ true) jobs (own_gave more more_are q there))))
      where
        sealed_before : q.job.0 ≡ job.0 → (list_any (is_of q) grants ≡ true) ⊎ ((same_id q grant.id || false) ≡ true) → IsSealedCopy row q
        sealed_before jobs (inl stood) =
            granted_copy row (beside_at before job.0) (v job.0).contents r.shown q (jobs ∙ sym r.own) (subst (λ n. has_grant (row_given_by grants n) q ≡ true) jobs (own_gave grants table q stood))
        sealed_before jobs (inr its) =
            let same : q ≡ id = same_id-equal q grant.id (sym (or_false (same_id q grant.id)) ∙ its) ∙ (made_for (lengths (bytes_here old)) grants job.0 id target.0).0 in
            subst (IsSealedCopy row) (sym same)
            (own_sealed row job.0 id target.0 (table_check grants job.0 id target.0) (let is : id.job.0 ≡ job.0 = ap (λ (i : ObjectId). i.job.0) (sym same) ∙ jobs in grind (arith, nat_tests, is)) passed)

    -- ---- views

    shows_now : (q : ℕ) (view : View) (o : Option Row) → lookup (same_job (record { 0 = q })) new ≡ o → IsViewBy a.greatest (between q) q view o → Shows now q view
    shows_now q view o is h = record {
      by_row = subst (IsViewBy a.greatest (beside_at now q) q view) (sym is)
          (other_view (between q) (beside_at now q) (alike_bytes (bytes_here old) (bytes_here new) line line more q (record { works = refl; used = refl }) bytes_stay) a.greatest q view o h);
    }

    own_shows : Shows now job.0 stepped
    own_shows =
        shows_now job.0 stepped (Some after) (updated job ∙ ap (λ b. cond b (Some after) (lookup (same_job job) old)) (itself job))
        (subst (λ w. IsRowView after (between job.0) job.0 (view_step number w asks).view) (sym (view_is row (beside_at before job.0) job.0 (v job.0) r))
        (record { own = own_after; shape = t.shape; order = t.order; shown = t.shown }))

    row_stays : (q : ℕ) → (job.0 == q) ≡ false → lookup (same_job (record { 0 = q })) new ≡ lookup (same_job (record { 0 = q })) old
    row_stays q differ = updated (record { 0 = q }) ∙ ap (λ b. cond b (Some after) (lookup (same_job (record { 0 = q })) old)) differ

    -- its grantee, live or not
    grantee_shows : Shows now target.0 (view_step number (v target.0) brought).view
    grantee_shows =
        let o = lookup (same_job target) old in
        shows_now target.0 (view_step number (v target.0) brought).view o (row_stays target.0 apart) (by o (shows target.0).by_row)
      where
        by : (o : Option Row) → IsViewBy a.greatest (beside_at before target.0) target.0 (v target.0) o → IsViewBy a.greatest (between target.0) target.0 (view_step number (v target.0) brought).view o
        by (Some own) h = received_row own h.own h
          where
            received_row : (own : Row) → own.job ≡ target.0 → IsRowView own (beside_at before target.0) target.0 (v target.0) → IsRowView own (between target.0) target.0 (view_step number (v target.0) brought).view
            received_row own is h =
                let w = v target.0 in
                subst (λ u. IsRowView own (between target.0) target.0 (view_step number u brought).view) (sym (view_is own (beside_at before target.0) target.0 w h))
                (subst (λ n. IsShown own (beside_of line grants (bytes_here old) n) w.contents → (job.0 == n) ≡ false
                → IsRowView own (beside_of line (with_grant grants id job.0 n) (bytes_here old) n) n
                (view_step number (seen own (beside_of line grants (bytes_here old) n) w.contents) (input.Received id (bytes_here old id) (record { 0 = job.0 }) (new_grant grants id job.0 n).depth)).view) is
                (λ shown other.
                let s = row_receives number line grants (bytes_here old) own w.contents id job.0 other shown in
                record { own = refl; shape = s.shape; order = s.order; shown = s.shown }) h.shown apart)
        by None h = record {
          life = h.life;
          is = ap (λ w. (view_step number w brought).view) h.is ∙ bare_receives number grants (bytes_here old) target.0 h.life id job.0 apart;
          dead = h.dead;
          fresh = h.fresh;
          works = h.works;
          used = h.used;
          given = same_given grants id job.0 target.0 target.0 apart ∙ h.given;
        }

    -- any other job
    other_shows : (q : ℕ) → (job.0 == q) ≡ false → (target.0 == q) ≡ false → Shows now q (v q)
    other_shows q grantor grantee =
        let o = lookup (same_job (record { 0 = q })) old in
        shows_now q (v q) o (row_stays q grantor)
        (subst (λ beside. IsViewBy a.greatest beside q (v q) o) (sym (others_stand line grants (bytes_here old) id job.0 target.0 q grantor grantee)) (shows q).by_row)

    each_shows : (q : ℕ) → Shows now q (cond (q == job.0) (view_step number (v q) asks).view (cond (q == target.0) (view_step number (v q) brought).view (v q)))
    each_shows q = by (q == job.0) (q == target.0) refl refl
      where
        by : (t s : Bool) → (q == job.0) ≡ t → (q == target.0) ≡ s → Shows now q (cond t (view_step number (v q) asks).view (cond s (view_step number (v q) brought).view (v q)))
        by true s e f = subst (λ n. Shows now n (view_step number (v n) asks).view) (sym (eqb-true q job.0 e)) own_shows
        by false true e f = subst (λ n. Shows now n (view_step number (v n) brought).view) (sym (eqb-true q target.0 f)) grantee_shows
        by false false e f = other_shows q (grind (arith, nat_tests, e)) (grind (arith, nat_tests, f))

    -- ---- as inputs

    abbrev bytes_of : ObjectId → List ℕ
    bytes_of = λ i. bytes_at (v i.job.0).contents.bytes i

    noted : received_here bytes_of grant ≡ record { job = target.0; input = brought }
    noted = received_is bytes_of grants id job.0 target.0 ∙ ap (λ bytes. record { job = target.0; input = input.Received id bytes (record { 0 = job.0 }) grant.depth }) (sym same_bytes)

    noted_length : length (bytes_here old id) ≡ length (bytes_of grant.id)
    noted_length = ap length (same_bytes ∙ ap bytes_of (sym (made_for (lengths (bytes_here old)) grants job.0 id target.0).0))

    no_works : (view_step number (v job.0) asks).works ≡ []
    no_works =
        asks_nothing number before job (v job.0) asks (shows job.0)
        (subst (λ w. (view_step number w asks).view.shape.works ≡ (between job.0).works) (sym (view_is row (beside_at before job.0) job.0 (v job.0) r)) (ap (λ s. s.works) t.shape))

    steps_from : NodeStepFrom before v (Own e) (with_given (record { reply = reply.Ok; posts = response.posts; erased = response.erased }) grant (length (bytes_here old id))) now
    steps_from = record {
      views = λ q.
          subst (Shows now q) (sym (ap (λ note. view_from number (v q) (only_of q (record { job = job.0; input = asks } ∷ note ∷ []))) noted ∙ two_inputs number job.0 target.0 q asks brought (v q) apart))
          (each_shows q);
      response = subst (λ w. IsStepOf number w asks (with_given (record { reply = reply.Ok; posts = response.posts; erased = response.erased }) grant (length (bytes_here old id))))
          (sym (view_is row (beside_at before job.0) job.0 (v job.0) r)) (record { reply = sym is_ok ∙ t.reply; posts = t.posts; erased = t.erased });
      notes = ap (λ n. received_noted grant n ∷ []) noted_length;
      operator = refl;
      line = sym (append-nil line.works) ∙ ap (λ ws. line.works ++ queued job.0 ws) (sym no_works);
    }

  pub grant_steps : (n : ℕ) → n ≡ length (bytes_here old id) → NodeStep before (Own e) (with_given response grant n) now
  grant_steps n is =
      subst (λ m. NodeStep before (Own e) (with_given response grant m) now) (sym is)
      (subst (λ o. NodeStep before (Own e) (with_given (record { reply = o; posts = response.posts; erased = response.erased }) grant (length (bytes_here old id))) now) (sym is_ok)
      (record { number = refl; grants = refl; admissions = refl; lives = refl; each = steps_from }))

-- ---- where nothing changes

module _ (number : ℕ) (a : Admissions) (line : WorkLine) (grants : List StandingGrant) (table : AreGrants grants) (job : JobNo) (session : ℕ) (c : Command (List ℕ)) where
  -- of a job that isn't live
  pub no_row_steps : (rows : List (JobNo × Row)) → lookup (same_job job) rows ≡ None
      → NodeStep (node_of number a line grants rows) (Own (event.Call job session c)) (with_no_notes (only (reply.Refused NotAdmitted))) (node_of number a line grants rows)
  no_row_steps rows none =
      let node = node_of number a line grants rows in
      all_steps node node (event.Call job session c) (only (reply.Refused NotAdmitted)) (refused_still (event.Call job session c) NotAdmitted) (refused_steps number a line grants job session c rows none)

  -- of one that its row or the table refuses
  pub row_stays_steps : (old new : List (JobNo × Row)) (row : Row) (r : Refusal) → lookup (same_job job) old ≡ Some row
      → ((q : JobNo) → lookup (same_job q) new ≡ cond (same_job job q) (Some row) (lookup (same_job q) old))
      → Takes number job (input.Call session c) grants (bytes_here old) row line (only (reply.Refused r)) row line
      → NodeStep (node_of number a line grants old) (Own (event.Call job session c)) (with_no_notes (only (reply.Refused r))) (node_of number a line grants new)
  row_stays_steps old new row r found updated takes =
      all_steps (node_of number a line grants old) (node_of number a line grants new) (event.Call job session c) (only (reply.Refused r)) (refused_still (event.Call job session c) r)
      (call_steps number a line grants job session c table old new row row line (only (reply.Refused r)) found updated (asked_nothing line job) takes (λ other differ. record { works = refl; used = refl }))

  -- of one that nothing refuses
  pub unrefused : (rows : List (JobNo × Row)) (row : Row) (node : Hosted) → node_of number a line grants rows ≡ node → lookup (same_job job) rows ≡ Some row → IsUnrefused row job.0 session c
      → grants_check (node_of number a line grants rows) row job.0 c ≡ None → (row.job ≡ job.0 → IsRoomDue number row line c) → IsCallUnrefused node job session c
  unrefused rows row node is found passes by_grants by_room = subst (λ n. IsCallUnrefused n job session c) is (record { row = row; found = found; unrefused = passes; by_grants = by_grants; by_room = by_room })
