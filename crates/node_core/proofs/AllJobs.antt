-- What an event is to its own job, told of one job at a time, is the step of all of them, if it moves no grant.
use Rattle.std.proofs.Common.{◌≡◌, ℕ, Bool, true, false, not, cond, ◌==◌, ◌≤◌, ◌&&◌, List, [], ◌∷◌, ◌++◌, map, filter, Option, Some, None, option_to_list, refl, sym, ap, subst, ◌∙◌, arith}
use Rattle.std.specs.Prelude.{option_map, nat_lt, nat_le, count_by}
use Rattle.std.specs.List.{list_all}
use Rattle.std.proofs.lemmas.Bool.Decides.{nat_tests}
use Rattle.std.proofs.lemmas.List.{append-nil}
use Rattle.obj_id.specs.declared.ids.JobNo.{JobNo}
use Rattle.obj_id.specs.declared.refusals.Refusal.{Refusal}
use Rattle.obj_id.specs.declared.works.DeviceAnswer.{DeviceAnswer}
use Rattle.obj_id.specs.declared.commands.Command.TheVariants as command
use Rattle.obj_id.specs.declared.commands.Reply.{Reply}
use Rattle.obj_id.specs.declared.commands.Reply.TheVariants as reply
use Rattle.private_store.specs.declared.inputs.Input.{Input}
use Rattle.private_store.specs.declared.inputs.Input.TheVariants as input
use Rattle.private_store.specs.declared.schedules.Event.{Event}
use Rattle.private_store.specs.declared.schedules.Event.TheVariants as event
use Rattle.private_store.specs.declared.schedules.NodeEvent.TheVariants.{Own}
use Rattle.private_store.specs.rules.Grants.{StandingGrant}
use Rattle.private_store.specs.rules.Trace.{grants_by}
use Rattle.private_store.specs.laws.NodeInputs.{JobInput, Before, wants_memory, own_here, own_due, notes_of, notes_here, grants_after, only_of, inputs_to}
use Rattle.private_store.specs.rules.Contents.{View, judge}
use Rattle.private_store.specs.rules.Private.{view_step, view_from}
use Rattle.spill_work.specs.declared.queue.Queued.{Queued}
use Rattle.spill_work.specs.Line.{shown, is_of, is_at, works_of, used_by}
use Rattle.room_commands.specs.Asked.{HasAsked}
use Rattle.job_row.specs.Row.{Row}
use Rattle.row_steps.specs.Shown.{RowGiven}
use Rattle.node_core.specs.GrantMoves.{moves_grants}
use Rattle.node_core.specs.Hosted.{Hosted, IsViewBy, Shows, ShowsAll, row_at, beside_at}
use Rattle.node_core.specs.Calls.{needs_no_memory}
use Rattle.node_core.specs.OneJob.{event_input_of, view_by, one_view_after, IsGiven as IsRowGiven, IsOperatorAnswer as IsOneAnswer, IsAnswerByViews, IsLineAfter, NodeStepOne}
use Rattle.node_core.specs.Outcomes.{with_no_notes}
use Rattle.node_core.specs.Judged.{is_finish, judged_as, IsCallJudged}
use Rattle.node_core.specs.Steps.{before_of, job_of_event, IsGiven, answer_of_check, judged_notes, stale_unless, queued, taken_if, line_left, asked_now, line_after, IsEventAnswer, NodeStepFrom, NodeStep}
use Rattle.store_facts.proofs.Tests.{both, both_left, both_right}
use Rattle.node_core.proofs.Never.{told_never}
use Rattle.node_core.proofs.Lines.{above, above-used, asked_now_is}
use Rattle.node_core.proofs.Taking.{marked-is}

-- ---- what an event is

-- to its own job
abbrev pub own_of : Event → Reply (List ℕ) → Option JobInput
own_of e response = option_map (λ x. record { job = job_of_event e; input = x }) (event_input_of e response)

-- a Finish is answered Ok exactly if its work is out
abbrev pub IsFinishAnswer : Before → Event → Reply (List ℕ) → Type 0
IsFinishAnswer before (event.Finish job number a) response = response ≡ answer_of_check (stale_unless (before.out job.0 number))
IsFinishAnswer before _ response = response ≡ response

finish_own : (job : JobNo) (number : ℕ) (a : DeviceAnswer) (out : Bool) → cond out (Some (record { job = job.0; input = input.Answer number a })) None ≡ own_of (event.Finish job number a) (answer_of_check (stale_unless out))
finish_own job number a true = refl
finish_own job number a false = refl

pub own_due_is : (before : Before) (e : Event) (response : Reply (List ℕ)) → IsFinishAnswer before e response → own_due before (Own e) response ≡ own_of e response
own_due_is before (event.Admit job quota key) reply.Ok is = refl
own_due_is before (event.Admit job quota key) _ is = refl
own_due_is before (event.JobEnd job) reply.Ok is = refl
own_due_is before (event.JobEnd job) _ is = refl
own_due_is before (event.Call job session c) response is = refl
own_due_is before (event.Requota job quota) reply.Ok is = refl
own_due_is before (event.Requota job quota) _ is = refl
own_due_is before event.Take response is = refl
own_due_is before (event.Finish job number a) response is = finish_own job number a (before.out job.0 number) ∙ sym (ap (own_of (event.Finish job number a)) is)

pub own_here_is : (before : Before) (e : Event) (response : Reply (List ℕ)) → IsFinishAnswer before e response → wants_memory response ≡ false → own_here before (Own e) response ≡ own_of e response
own_here_is before (event.Admit job quota key) reply.Ok is never = refl
own_here_is before (event.Admit job quota key) _ is never = refl
own_here_is before (event.JobEnd job) reply.Ok is never = refl
own_here_is before (event.JobEnd job) _ is never = refl
own_here_is before (event.Call job session c) response is never =
    ap (λ t. cond t None (Some (record { job = job.0; input = input.Call session c }))) never
own_here_is before (event.Requota job quota) reply.Ok is never = refl
own_here_is before (event.Requota job quota) _ is never = refl
own_here_is before event.Take response is never = refl
own_here_is before (event.Finish job number a) response is never =
    ap (λ t. cond t None (cond (before.out job.0 number) (Some (record { job = job.0; input = input.Answer number a })) None)) never
    ∙ own_due_is before (event.Finish job number a) response is

-- the event with this answer tells no grantee of a grant, and the grants stand as they stood
pub record IsStill (e : Event) (response : Reply (List ℕ)) : Type 0 where
  pub notes : (before : Before) → notes_here before (Own e) response ≡ []
  pub grants : (grants : List StandingGrant) → grants_after grants (Own e) response ≡ grants

no_note : (before : Before) (e : Event) → moves_grants e ≡ false → notes_of before e ≡ []
no_note before (event.Admit job quota key) lasting = refl
no_note before (event.JobEnd job) lasting = absurd cc
no_note before (event.Call job session (command.EndTask task)) lasting = absurd cc
no_note before (event.Call job session (command.Grant id target)) lasting = absurd cc
no_note before (event.Call job session (command.Withdraw id target)) lasting = absurd cc
no_note before (event.Call job session _) lasting = refl
no_note before (event.Requota job quota) lasting = refl
no_note before event.Take lasting = refl
no_note before (event.Finish job number a) lasting = refl

grants_stay : (grants : List StandingGrant) (e : Event) → moves_grants e ≡ false → grants_by grants e ≡ grants
grants_stay grants (event.Admit job quota key) lasting = refl
grants_stay grants (event.JobEnd job) lasting = absurd cc
grants_stay grants (event.Call job session (command.EndTask task)) lasting = absurd cc
grants_stay grants (event.Call job session (command.Grant id target)) lasting = absurd cc
grants_stay grants (event.Call job session (command.Withdraw id target)) lasting = absurd cc
grants_stay grants (event.Call job session _) lasting = refl
grants_stay grants (event.Requota job quota) lasting = refl
grants_stay grants event.Take lasting = refl
grants_stay grants (event.Finish job number a) lasting = refl

pub lasting_still : (e : Event) (response : Reply (List ℕ)) → moves_grants e ≡ false → IsStill e response
lasting_still e reply.Ok lasting = record { notes = λ before. no_note before e lasting; grants = λ grants. grants_stay grants e lasting }
lasting_still e _ lasting = record { notes = λ before. refl; grants = λ grants. refl }

pub refused_still : (e : Event) (refusal : Refusal) → IsStill e (reply.Refused refusal)
refused_still e refusal = record { notes = λ before. refl; grants = λ grants. refl }

-- ---- every job's view

pub one_input : (number job own : ℕ) (view : View) (o : Option Input)
    → view_from number view (only_of job (option_to_list (option_map (λ x. record { job = own; input = x }) o))) ≡ cond (job == own) (view_by number view o) view
one_input number job own view None = by (job == own)
  where
    by : (t : Bool) → view ≡ cond t view view
    by true = refl
    by false = refl
one_input number job own view (Some x) = by (own == job) (job == own) (grind (arith, nat_tests))
  where
    by : (t u : Bool) → t ≡ u → view_from number view (map (λ (y : JobInput). y.input) (cond t (record { job = own; input = x } ∷ []) [])) ≡ cond u (view_step number view x).view view
    by true true e = refl
    by false false e = refl
    by true false e = absurd cc
    by false true e = absurd cc

-- ---- the line

-- what a view says of its job's works
pub record Works (node : Hosted) (job : ℕ) (view : View) : Type 0 where
  pub works : view.shape.works ≡ works_of node.works (record { 0 = job })
  pub asked : view.shape.works_asked ≡ used_by node.works (record { 0 = job })
  pub used : list_all (λ work. nat_lt 0 work.number && nat_le work.number (used_by node.works (record { 0 = job }))) (works_of node.works (record { 0 = job })) ≡ true
  pub one : (n : ℕ) → count_by (λ work. work.number == n) (works_of node.works (record { 0 = job })) ≤ 1

pub works_shown : (node : Hosted) (job : ℕ) (view : View) → Shows node job view → Works node job view
works_shown node job view h = by (row_at node (record { 0 = job })) h.by_row
  where
    by : (o : Option Row) → IsViewBy node.admissions.greatest (beside_at node job) job view o → Works node job view
    by (Some row) r = record {
      works = ap (λ s. s.works) r.shape;
      asked = ap (λ s. s.works_asked) r.shape;
      used = r.shown.kept.kept.shape.numbers_used;
      one = r.shown.kept.kept.shape.one_number;
    }
    by None b = record {
      works = ap (λ v. v.shape.works) b.is ∙ sym b.works;
      asked = ap (λ v. v.shape.works_asked) b.is ∙ sym b.used;
      used = ap (list_all (λ work. nat_lt 0 work.number && nat_le work.number (used_by node.works (record { 0 = job })))) b.works;
      one = λ n. subst (λ ws. count_by (λ work. work.number == n) ws ≤ 1) (sym b.works) (omega arith);
    }

-- a step after which the job's works are those before asks for none
pub asks_nothing : (number : ℕ) (node : Hosted) (job : JobNo) (view : View) (x : Input) → Shows node job.0 view → (view_step number view x).view.shape.works ≡ works_of node.works job → (view_step number view x).works ≡ []
asks_nothing number node job view x h same =
    let w = works_shown node job.0 view h in
    (λ i. above (w.asked i) (same i)) ∙ above-used (used_by node.works job) (works_of node.works job) w.used

-- what is left of a job's works is within what they were within
used_left : (job : JobNo) (stays : Queued → Bool) (used : ℕ) (works : List Queued)
    → list_all (λ work. nat_lt 0 work.number && nat_le work.number used) (map (λ work. shown work.asked) (filter (is_of job) works)) ≡ true
    → list_all (λ work. nat_lt 0 work.number && nat_le work.number used) (map (λ work. shown work.asked) (filter (is_of job) (filter stays works))) ≡ true
used_left job stays used [] h = refl
used_left job stays used (w ∷ ws) h = by (stays w) (is_of job w) refl h (used_left job stays used ws)
  where
    Within : List Queued → Type 0
    Within vs = list_all (λ work. nat_lt 0 work.number && nat_le work.number used) (map (λ (work : Queued). shown work.asked) vs) ≡ true

    by : (s o : Bool) → is_of job w ≡ o → Within (cond o (w ∷ filter (is_of job) ws) (filter (is_of job) ws)) → (Within (filter (is_of job) ws) → Within (filter (is_of job) (filter stays ws)))
        → Within (filter (is_of job) (cond s (w ∷ filter stays ws) (filter stays ws)))
    by true true is h rest =
        subst (λ o. Within (cond o (w ∷ filter (is_of job) (filter stays ws)) (filter (is_of job) (filter stays ws)))) (sym is)
        (both _ _ (both_left _ _ h) (rest (both_right _ _ h)))
    by true false is h rest =
        subst (λ o. Within (cond o (w ∷ filter (is_of job) (filter stays ws)) (filter (is_of job) (filter stays ws)))) (sym is) (rest h)
    by false true is h rest = rest (both_right _ _ h)
    by false false is h rest = rest h

module _ (old new : Hosted) (v : ℕ → View) (shows : ShowsAll old v) where
  -- an input of the job, after which the node shows its step
  module _ (job : JobNo) (x : Input) (after : Shows new job.0 (view_step old.number (v job.0) x).view) where
    own_before : Works old job.0 (v job.0)
    own_before = works_shown old job.0 (v job.0) (shows job.0)

    own_after : Works new job.0 (view_step old.number (v job.0) x).view
    own_after = works_shown new job.0 (view_step old.number (v job.0) x).view after

    asked_are : (view_step old.number (v job.0) x).works ≡ above (used_by old.works job) (works_of new.works job)
    asked_are = λ i. above (own_before.asked i) (own_after.works i)

    pub called_line : HasAsked old.works job new.works → new.works.works ≡ old.works.works ++ queued job.0 (view_step old.number (v job.0) x).works
    called_line h = asked_now_is old.works job new.works h own_before.used ∙ ap (λ ws. old.works.works ++ queued job.0 ws) (sym asked_are)

    -- where the line is the old one, the job asked for nothing
    same_line : new.works.works ≡ old.works.works → new.works.works ≡ old.works.works ++ queued job.0 (view_step old.number (v job.0) x).works
    same_line is =
        is ∙ sym (append-nil old.works.works)
        ∙ ap (λ ws. old.works.works ++ queued job.0 ws) (sym (asked_are ∙ ap (λ ws. above (used_by old.works job) (map (λ work. shown work.asked) (filter (is_of job) ws))) is ∙ above-used (used_by old.works job) (works_of old.works job) own_before.used))

    -- where works leave the line, the job asked for nothing
    left_line : (stays : Queued → Bool) → new.works.works ≡ filter stays old.works.works → new.works.works ≡ filter stays old.works.works ++ queued job.0 (view_step old.number (v job.0) x).works
    left_line stays is =
        is ∙ sym (append-nil (filter stays old.works.works))
        ∙ ap (λ ws. filter stays old.works.works ++ queued job.0 ws) (sym (asked_are ∙ ap (λ ws. above (used_by old.works job) (map (λ work. shown work.asked) (filter (is_of job) ws))) is
        ∙ above-used (used_by old.works job) (map (λ work. shown work.asked) (filter (is_of job) (filter stays old.works.works))) (used_left job stays (used_by old.works job) old.works.works own_before.used)))

  pub own_shown : (job : JobNo) (x : Input) → Shows new job.0 (cond (job.0 == job.0) (view_step old.number (v job.0) x).view (v job.0)) → Shows new job.0 (view_step old.number (v job.0) x).view
  own_shown job x h = let same : (job.0 == job.0) ≡ true = grind (arith, nat_tests) in subst (λ t. Shows new job.0 (cond t (view_step old.number (v job.0) x).view (v job.0))) same h

  pub line_is : (e : Event) (response : Reply (List ℕ)) → IsLineAfter old.works e response new.works → ((job : ℕ) → Shows new job (one_view_after old.number job (v job) e response))
      → new.works.works ≡ line_left old.works.works (Own e) response ++ asked_now old.number v (own_of e response)
  line_is (event.Admit job quota key) reply.Ok h after = same_line job (input.Begin quota) (own_shown job (input.Begin quota) (after job.0)) h
  line_is (event.Admit job quota key) _ h after = h ∙ sym (append-nil old.works.works)
  line_is (event.JobEnd job) reply.Ok h after = left_line job input.End (own_shown job input.End (after job.0)) (λ work. not (is_of job work)) h
  line_is (event.JobEnd job) _ h after = h ∙ sym (append-nil old.works.works)
  line_is (event.Call job session c) response h after = called_line job (input.Call session c) (own_shown job (input.Call session c) (after job.0)) h
  line_is (event.Requota job quota) reply.Ok h after = same_line job (input.Requota quota) (own_shown job (input.Requota quota) (after job.0)) h
  line_is (event.Requota job quota) _ h after = h ∙ sym (append-nil old.works.works)
  line_is event.Take (reply.Work work) h after =
      h ∙ sym (marked-is work.job work.number old.works.works (works_shown old work.job.0 (v work.job.0) (shows work.job.0)).one)
      ∙ sym (append-nil (map (taken_if work.job work.number) old.works.works))
  line_is event.Take _ h after = h ∙ sym (append-nil old.works.works)
  line_is (event.Finish job number a) reply.Ok h after =
      left_line job (input.Answer number a) (own_shown job (input.Answer number a) (after job.0)) (λ work. not (is_at job number work && work.taken)) h
  line_is (event.Finish job number a) _ h after = h ∙ sym (append-nil (filter (λ work. not (is_at job number work && work.taken)) old.works.works))

-- ---- the step

pub finish_answer : (old : Hosted) (v : ℕ → View) (e : Event) (response : Reply (List ℕ)) → IsEventAnswer old v e response → IsFinishAnswer (before_of old v) e response
finish_answer old v (event.Admit job quota key) response is = refl
finish_answer old v (event.JobEnd job) response is = refl
finish_answer old v (event.Call job session c) response is = refl
finish_answer old v (event.Requota job quota) response is = refl
finish_answer old v event.Take response is = refl
finish_answer old v (event.Finish job number a) response is = is

module _ (old new : Hosted) (e : Event) (given : RowGiven) (still : IsStill e given.reply) (h : NodeStepOne old e given new) where
  module _ (v : ℕ → View) (shows : ShowsAll old v) where
    abbrev before : Before
    before = before_of old v

    told_is : (o : Option Input) → IsRowGiven old.number (v (job_of_event e)) o given → IsGiven old.number v (option_map (λ x. record { job = job_of_event e; input = x }) o) (with_no_notes given)
    told_is (Some x) g = record { reply = g.reply; posts = g.posts; erased = g.erased }
    told_is None g = record { posts = g.posts; erased = g.erased }

    operator : IsEventAnswer old v e given.reply
    operator = by e h.operator (h.by_views v shows)
      where
        by : (e : Event) → IsOneAnswer old e given.reply → IsAnswerByViews old v e given.reply → IsEventAnswer old v e given.reply
        by (event.Admit job quota key) is by_views = is
        by (event.JobEnd job) is by_views = is
        by (event.Call job session c) is by_views = is
        by (event.Requota job quota) is by_views = by_views
        by event.Take is by_views = by_views
        by (event.Finish job number a) is by_views = by_views

    answer : IsFinishAnswer before e given.reply
    answer = finish_answer old v e given.reply operator

    response : IsGiven old.number v (own_due before (Own e) given.reply) (with_no_notes given)
    response = subst (λ o. IsGiven old.number v o (with_no_notes given)) (sym (own_due_is before e given.reply answer)) (told_is (event_input_of e given.reply) (h.response (v (job_of_event e)) (shows (job_of_event e))))

    -- an answer is never that there is no memory
    never : wants_memory given.reply ≡ false
    never = told_never old v old.number before e (with_no_notes given) operator response

    inputs_are : (job : ℕ) → inputs_to before (Own e) given.reply job ≡ only_of job (option_to_list (own_of e given.reply))
    inputs_are job =
        ap (only_of job) ((λ i. option_to_list (own_here_is before e given.reply answer never i) ++ still.notes before i)
        ∙ append-nil (option_to_list (own_of e given.reply)))

    view_is : (job : ℕ) → view_from old.number (v job) (inputs_to before (Own e) given.reply job) ≡ one_view_after old.number job (v job) e given.reply
    view_is job = ap (view_from old.number (v job)) (inputs_are job) ∙ one_input old.number job (job_of_event e) (v job) (event_input_of e given.reply)

    views : ShowsAll new (λ job. view_from old.number (v job) (inputs_to before (Own e) given.reply job))
    views job = subst (Shows new job) (sym (view_is job)) (h.views v shows job)

    line : new.works.works ≡ line_after old v (Own e) given.reply
    line = line_is old new v shows e given.reply (h.line v shows) (h.views v shows)
        ∙ ap (λ o. line_left old.works.works (Own e) given.reply ++ asked_now old.number v o) (sym (own_here_is before e given.reply answer never))

    from : NodeStepFrom old v (Own e) (with_no_notes given) new
    from = record {
      views = views;
      response = response;
      notes = sym (ap (judged_notes old.number v) (still.notes before));
      operator = operator;
      line = line;
    }

  pub all_steps : NodeStep old (Own e) (with_no_notes given) new
  all_steps = record {
    number = h.number;
    grants = h.grants ∙ sym (still.grants old.grants);
    admissions = h.admissions;
    lives = h.lives;
    each = from;
  }

-- ---- what it was to its job

pub judged_is : (place : ℕ) (view : View) (e : Event) (answer : Reply (List ℕ)) → is_finish e ≡ false → option_map (judge place view) (event_input_of e answer) ≡ judged_as e answer
judged_is place view (event.Admit job quota key) reply.Ok other = refl
judged_is place view (event.Admit job quota key) _ other = refl
judged_is place view (event.JobEnd job) reply.Ok other = refl
judged_is place view (event.JobEnd job) _ other = refl
judged_is place view (event.Call job session c) answer other = refl
judged_is place view (event.Requota job quota) reply.Ok other = refl
judged_is place view (event.Requota job quota) _ other = refl
judged_is place view event.Take answer other = refl
judged_is place view (event.Finish job number a) answer other = absurd cc

pub call_judged : (e : Event) (answer : Reply (List ℕ)) → IsCallJudged e (judged_as e answer)
call_judged (event.Admit job quota key) _ = refl
call_judged (event.JobEnd job) _ = refl
call_judged (event.Call job session c) _ = refl
call_judged (event.Requota job quota) _ = refl
call_judged event.Take _ = refl
call_judged (event.Finish job number a) _ = refl

-- what moves grants may take memory
pub moves_frugal : (node : Hosted) (e : Event) → moves_grants e ≡ true → needs_no_memory node e ≡ true → ⊥
moves_frugal node (event.JobEnd job) moves frugal = absurd cc
moves_frugal node (event.Call job session (command.EndTask task)) moves frugal = absurd cc
moves_frugal node (event.Call job session (command.Grant id target)) moves frugal = absurd cc
moves_frugal node (event.Call job session (command.Withdraw id target)) moves frugal = absurd cc
moves_frugal node (event.Call job session _) moves frugal = absurd cc
moves_frugal node (event.Admit job quota key) moves frugal = absurd cc
moves_frugal node (event.Requota job quota) moves frugal = absurd cc
moves_frugal node event.Take moves frugal = absurd cc
moves_frugal node (event.Finish job number a) moves frugal = absurd cc

pub no_finish : (e : Event) → ((job : JobNo) (number : ℕ) (a : DeviceAnswer) → e ≡ event.Finish job number a → ⊥) → is_finish e ≡ false
no_finish (event.Admit job quota key) other = refl
no_finish (event.JobEnd job) other = refl
no_finish (event.Call job session c) other = refl
no_finish (event.Requota job quota) other = refl
no_finish event.Take other = refl
no_finish (event.Finish job number a) other = absurd (other job number a refl)
