-- A journal after one step more tells of its node as before.
use Rattle.std.proofs.Common.{◌≡◌, ℕ, Bool, true, false, cond, ◌==◌, List, [], ◌∷◌, ◌++◌, map, append-nil, append_assoc, Option, Some, None, is_some, refl, sym, ap, subst, ◌∙◌, arith}
use Rattle.std.specs.Prelude.{if◌then◌else◌, filter, option_map, option_to_list, ◌↔◌, Result, Ok, Err, OnOk, OnErr}
use Rattle.std.proofs.lemmas.Bool.Decides.{nat_tests}
use Rattle.std.proofs.lemmas.List.{map-append}
use Rattle.std.proofs.Math.Logic.{∥∥₁_map, ∥∥₁_elim}
use mathlib.Core.Bool.{Bool-set}
use Rattle.obj_id.specs.declared.commands.Reply.{Reply}
use Rattle.obj_id.specs.declared.commands.Reply.TheVariants as reply
use Rattle.obj_id.specs.declared.ids.JobNo.{JobNo}
use Rattle.obj_id.specs.declared.messages.Arrival.{Arrival}
use Rattle.obj_id.specs.declared.refusals.Refusal.{Refusal}
use Rattle.obj_id.specs.declared.refusals.Refusal.TheVariants.{Stale}
use Rattle.private_store.specs.declared.inputs.Input.{Input}
use Rattle.private_store.specs.declared.inputs.Input.TheVariants as input
use Rattle.private_store.specs.declared.inputs.Judged.{Judged}
use Rattle.private_store.specs.declared.schedules.Event.{Event}
use Rattle.private_store.specs.declared.schedules.Event.TheVariants as event
use Rattle.private_store.specs.declared.schedules.NodeEvent.TheVariants.{Own, Arrive}
use Rattle.private_store.specs.rules.Contents.{View, judge}
use Rattle.private_store.specs.laws.Answers.{wants_memory, is_small_reply}
use Rattle.private_store.specs.laws.NodeInputs.{JobInput, Before, own_here, notes_here, only_of, inputs_to}
use Rattle.private_store.specs.rules.Private.{view_step, view_from, view_of, no_store}
use Rattle.private_store.specs.rules.Replay.{Line as Replayed, replayed, replay_after, replay_step, replay_state_of}
use Rattle.store_facts.proofs.AnswersAre.{view_never_wants, answers_whole}
use Rattle.store_facts.proofs.Tests.{none_some}
use Rattle.store_facts.proofs.StepsKept.{no_store_kept, view_keeps}
use Rattle.job_admission.specs.Admissions.{Admissions, live_at}
use Rattle.spill_work.specs.Line.{WorkLine, works_taken_by}
use Rattle.node_core.specs.Hosted.{Hosted, Shows, ShowsAll}
use Rattle.node_core.specs.Steps.{NodeGiven, JobJudged, NodeStep, NodeStepFrom, IsStepOf, IsGiven, before_of, job_of_event, job_at, judged_notes, answer_of_check, stale_unless}
use Rattle.node_core.specs.OneJob.{event_input_of}
use Rattle.node_core.specs.Judged.{IsJudged, arrived, IsArrivalJudged, IsSmall, IsSmallCall}
use Rattle.node_journal.specs.declared.entries.Entry.{Entry}
use Rattle.node_journal.specs.declared.entries.EventName.{EventName}
use Rattle.node_journal.specs.declared.entries.Line.{Line}
use Rattle.node_journal.specs.declared.entries.Line.TheVariants as line
use Rattle.node_journal.specs.Replies.{unlisted, kept_reply}
use Rattle.node_journal.specs.Journals.{Journal, fresh, entry_for, event_name, notes_for, lines_made, journal_line_of, lines_of, store_of, AreDue, GivesDue, IsInTime, IsJournalOf, IsLineDue, IsRooted, Tells, gives_work, taken_of, taken_come_first, folded_if, with_lines, is_call}
use Rattle.node_core.proofs.ForCallers.{own_of, IsFinishAnswer, finish_answer, own_due_is, is_note, AreJobNotes, here_notes}
use Rattle.node_journal.proofs.OwnInputs.{of_job, here_is, if_own, own_inputs}
use Rattle.node_journal.proofs.Lists.{lines_of-snoc, replayed-snoc, due-snoc}
use Rattle.node_journal.proofs.Rooted.{folded_rooted, rooted_alike}
use Rattle.node_journal.proofs.TakenWorks.{KeepsTaken, step_keeps, arrival_keeps, stale_keeps, next_taken, folded_taken, numbered}
use Rattle.node_journal.proofs.Timely.{arrival_timely, event_timely}
use Rattle.node_journal.proofs.WorksDue.{arrival_due, event_due, folded_works, next_works, step_gives_none}

-- ---- lines

-- the replay of a list with a line more that is an input
module _ (node : ℕ) (view : View) (x : Input) (j : Journal) (l : Line) (response : Reply ℕ) (h : IsJournalOf view j) where
  abbrev next : Replayed
  next = record { input = judge node view x; reply = response }

  pub line_told : journal_line_of l ≡ Some next → response ≡ unlisted (replay_step (replay_state_of view) next.input).reply → IsJournalOf (view_step node view x).view (with_lines j (l ∷ []))
  line_told is due =
      let ls : List Line = j.list in
      let lines : lines_of (ls ++ l ∷ []) ≡ lines_of ls ++ next ∷ [] = lines_of-snoc ls l ∙ ap (λ o. lines_of ls ++ option_to_list o) is in
      record {
        kept = view_keeps node view x h.kept;
        replays = ap (replayed j.base.store) lines ∙ replayed-snoc j.base.store (lines_of ls) next ∙ ap (λ b. replay_after b next.input) h.replays;
        due = subst (AreDue j.base.store) (sym lines) (due-snoc j.base.store (lines_of ls) next h.due (due ∙ ap (λ b. unlisted (replay_step b next.input).reply) (sym h.replays)));
      }

-- ---- notes

-- no view judges a note
judged_alike : (node : ℕ) (v w : View) (x : Input) → is_note x ≡ true → judge node v x ≡ judge node w x
judged_alike node v w (input.Received id bytes grantor depth) q = refl
judged_alike node v w (input.Withdrawn id grantor depth) q = refl
judged_alike node v w (input.Begin quota) q = absurd cc
judged_alike node v w (input.Requota quota) q = absurd cc
judged_alike node v w (input.Call session c) q = absurd cc
judged_alike node v w (input.Answer number a) q = absurd cc
judged_alike node v w (input.Arrive a) q = absurd cc
judged_alike node v w input.End q = absurd cc

-- and it is answered Ok
note_due : (node : ℕ) (view : View) (x : Input) → is_note x ≡ true → reply.Ok ≡ unlisted (replay_step (replay_state_of view) (judge node view x)).reply
note_due node view (input.Received id bytes grantor depth) q = refl
note_due node view (input.Withdrawn id grantor depth) q = refl
note_due node view (input.Begin quota) q = absurd cc
note_due node view (input.Requota quota) q = absurd cc
note_due node view (input.Call session c) q = absurd cc
note_due node view (input.Answer number a) q = absurd cc
note_due node view (input.Arrive a) q = absurd cc
note_due node view input.End q = absurd cc

notes_told : (node number job : ℕ) (v : ℕ → View) (xs : List JobInput) → AreJobNotes xs → (view : View) (j : Journal) → IsJournalOf view j
    → IsJournalOf (view_from node view (only_of job xs)) (with_lines j (notes_for number (judged_notes node v xs) job))
notes_told node number job v [] q view j h = subst (λ ls. IsJournalOf view (record j { list = ls })) (sym (append-nil j.list)) h
notes_told node number job v (x ∷ xs) q view j h = by (x.job == job) (notes_told node number job v xs q.1)
  where
    note : Line
    note = line.Note number (judge node (v x.job) x.input)

    Then : View → Journal → List Input → List Line → Type 0
    Then w before inputs more = IsJournalOf (view_from node w inputs) (with_lines before more)

    here : IsJournalOf (view_step node view x.input).view (with_lines j (note ∷ []))
    here = line_told node view x.input j note reply.Ok h
        (ap (λ y. Some (record { input = y; reply = reply.Ok })) (judged_alike node (v x.job) view x.input q.0)) (note_due node view x.input q.0)

    by : (t : Bool) → ((w : View) (before : Journal) → IsJournalOf w before → Then w before (only_of job xs) (notes_for number (judged_notes node v xs) job))
        → Then view j (map (λ (y : JobInput). y.input) (cond t (x ∷ filter (λ (y : JobInput). y.job == job) xs) (filter (λ (y : JobInput). y.job == job) xs)))
        (map (λ (n : JobJudged). line.Note number n.input) (cond t (record { job = x.job; input = judge node (v x.job) x.input } ∷ filter (λ (n : JobJudged). n.job == job) (judged_notes node v xs)) (filter (λ (n : JobJudged). n.job == job) (judged_notes node v xs))))
    by true rest =
        subst (λ ls. IsJournalOf (view_from node (view_step node view x.input).view (only_of job xs)) (record j { list = ls })) (append_assoc j.list (note ∷ []) (notes_for number (judged_notes node v xs) job))
        (rest (view_step node view x.input).view (with_lines j (note ∷ [])) here)
    by false rest = rest view j h

-- ---- folding

-- the same journals tell of the same
pub told_alike : (old new : Hosted) (before after : ℕ → Journal) → new ≡ old → ((job : ℕ) → after job ≡ before job) → ∥ Tells old before ∥₁ → ∥ Tells new after ∥₁
told_alike old new before after same is h = subst (λ node. ∥ Tells node after ∥₁) (sym same) (∥∥₁_map h (λ t. record {
  views = t.views;
  shown = t.shown;
  response = λ job. subst (IsJournalOf (t.views job)) (sym (is job)) (t.response job);
  rooted = λ job. rooted_alike job (before job) (after job) (ap (λ (j : Journal). j.base) (is job)) (t.rooted job);
  taken = λ job. ap taken_of (is job) ∙ t.taken job;
  first = t.first;
  works = λ job. subst GivesDue (sym (is job)) (t.works job);
}))

told_folded : (node : Hosted) (journals : ℕ → Journal) (full : ℕ → Bool) → Tells node journals → Tells node (λ job. folded_if (full job) (journals job))
told_folded node journals full h = record {
  views = h.views;
  shown = h.shown;
  response = λ job. by job (full job);
  rooted = λ job. folded_rooted job (full job) (journals job) (h.response job).due (h.rooted job);
  taken = λ job. folded_taken (full job) (journals job) ∙ h.taken job;
  first = h.first;
  works = λ job. folded_works (full job) (journals job) (h.works job);
}
  where
    by : (job : ℕ) (b : Bool) → IsJournalOf (h.views job) (folded_if b (journals job))
    by job true = record { kept = (h.response job).kept; replays = (h.response job).replays; due = refl }
    by job false = h.response job

pub all_folded : (node : Hosted) (before after : ℕ → Journal) (full : ℕ → Bool) → ((job : ℕ) → after job ≡ folded_if (full job) (before job)) → ∥ Tells node before ∥₁ → ∥ Tells node after ∥₁
all_folded node before after full is h = told_alike node node (λ job. folded_if (full job) (before job)) after refl is (∥∥₁_map h (told_folded node before full))

-- ---- inputs of one job

filter-append : {X : Type 0} (test : X → Bool) (xs ys : List X) → filter test (xs ++ ys) ≡ filter test xs ++ filter test ys
filter-append test [] ys = refl
filter-append test (x ∷ xs) ys = by (test x) (filter-append test xs ys)
  where
    by : (b : Bool) → filter test (xs ++ ys) ≡ filter test xs ++ filter test ys → cond b (x ∷ filter test (xs ++ ys)) (filter test (xs ++ ys)) ≡ cond b (x ∷ filter test xs) (filter test xs) ++ filter test ys
    by true h = ap (λ r. x ∷ r) h
    by false h = h

only-append : (job : ℕ) (xs ys : List JobInput) → only_of job (xs ++ ys) ≡ only_of job xs ++ only_of job ys
only-append job xs ys = ap (map (λ (x : JobInput). x.input)) (filter-append (λ (x : JobInput). x.job == job) xs ys) ∙ map-append (λ (x : JobInput). x.input) (filter (λ (x : JobInput). x.job == job) xs) (filter (λ (x : JobInput). x.job == job) ys)

from-append : (node : ℕ) (view : View) (xs ys : List Input) → view_from node view (xs ++ ys) ≡ view_from node (view_from node view xs) ys
from-append node view [] ys = refl
from-append node view (x ∷ xs) ys = from-append node (view_step node view x).view xs ys

-- ---- one entry more, and its notes

module _ (old new : Hosted) (e : Event) (given : NodeGiven) (number : ℕ) (steps : NodeStep old (Own e) given new) (was : Option Judged) (is_judged : IsJudged old e given.reply was) where
  abbrev named : EventName
  named = event_name (Own e)

  abbrev entry : Entry
  entry = entry_for number named was given.reply

  -- the job that the entry stands under
  abbrev own : ℕ
  own = job_at old.works.works (Own e)

  own_at : (g : Event) (response : Reply (List ℕ)) (x : Input) → event_input_of g response ≡ Some x → job_at old.works.works (Own g) ≡ job_of_event g
  own_at (event.Admit job quota key) response x is = refl
  own_at (event.Requota job quota) response x is = refl
  own_at (event.JobEnd job) response x is = refl
  own_at event.Take response x is = none_some x is
  own_at (event.Finish job n a) response x is = refl
  own_at (event.Call job session c) response x is = refl

  module _ (v : ℕ → View) (shows : ShowsAll old v) where
    abbrev before : Before
    before = before_of old v

    abbrev noted : List JobInput
    noted = notes_here before (Own e) given.reply

    from : NodeStepFrom old v (Own e) given new
    from = steps.each v shows

    answer : IsFinishAnswer before e given.reply
    answer = finish_answer old v e given.reply from.operator

    told_is : (x : Input) → event_input_of e given.reply ≡ Some x → IsStepOf old.number (v (job_of_event e)) x given
    told_is x is =
        subst (λ o. IsGiven old.number v (of_job (job_of_event e) o) given) is
        (subst (λ o. IsGiven old.number v o given) (own_due_is before e given.reply answer) from.response)

    -- the answer to an input is never that there is no memory
    never : (x : Input) → event_input_of e given.reply ≡ Some x → wants_memory given.reply ≡ false
    never x is = ap wants_memory (told_is x is).reply ∙ view_never_wants old.number (v (job_of_event e)) x

    inputs_are : (job : ℕ) → inputs_to before (Own e) given.reply job ≡ if_own (job_of_event e == job) (event_input_of e given.reply) ++ only_of job noted
    inputs_are job =
        only-append job (option_to_list (own_here before (Own e) given.reply)) noted
        ∙ ap (λ o. only_of job (option_to_list o) ++ only_of job noted) (here_is before e given.reply answer never_here)
        ∙ ap (λ xs. xs ++ only_of job noted) (own_inputs (job_of_event e) job (event_input_of e given.reply))
      where
        never_here : (job : ℕ) (x : Input) → own_of e given.reply ≡ Some (record { job = job; input = x }) → wants_memory given.reply ≡ false
        never_here job x is = by (event_input_of e given.reply) refl is
          where
            by : (o : Option Input) → event_input_of e given.reply ≡ o → of_job (job_of_event e) o ≡ Some (record { job = job; input = x }) → wants_memory given.reply ≡ false
            by None is f = none_some _ f
            by (Some y) is f = never y is

    judged_is : (o : Option Input) → event_input_of e given.reply ≡ o → was ≡ option_map (judge old.number (v (job_of_event e))) o
    judged_is o is = sym (is_judged.by_view (v (job_of_event e)) (shows (job_of_event e))) ∙ ap (option_map (judge old.number (v (job_of_event e)))) is

    module _ (job : ℕ) (j : Journal) (h : IsJournalOf (v job) j) where
      abbrev ls : List Line
      ls = j.list

      -- an event that is no input of its job
      none_told : event_input_of e given.reply ≡ None → IsJournalOf (v job) (with_lines j (line.Entry entry ∷ []))
      none_told is =
          let lines : lines_of (ls ++ line.Entry entry ∷ []) ≡ lines_of ls =
          lines_of-snoc ls (line.Entry entry) ∙ ap (λ o. lines_of ls ++ option_to_list (option_map (λ x. record { input = x; reply = entry.reply }) o)) (judged_is None is) ∙ append-nil (lines_of ls) in
          record {
            kept = h.kept;
            replays = ap (replayed j.base.store) lines ∙ h.replays;
            due = subst (AreDue j.base.store) (sym lines) h.due;
          }

    -- one that is
    module _ (job : ℕ) (its : job_of_event e ≡ job) (j : Journal) (h : IsJournalOf (v job) j) where
      some_told : (x : Input) → event_input_of e given.reply ≡ Some x → IsJournalOf (view_step old.number (v job) x).view (with_lines j (line.Entry entry ∷ []))
      some_told x is =
          line_told old.number (v job) x j (line.Entry entry) (kept_reply given.reply) h
          (ap (option_map (λ y. record { input = y; reply = entry.reply })) (judged_is (Some x) is ∙ ap (λ k. Some (judge old.number (v k) x)) its))
          (ap kept_reply ((told_is x is).reply ∙ ap (λ k. (view_step old.number (v k) x).reply) its) ∙ ap unlisted (answers_whole old.number (v job) x h.kept))

    -- the job that the entry stands under is that of the event, if it is an input
    input_at : (o : Option Input) → event_input_of e given.reply ≡ o → (job : ℕ) → if_own (job_of_event e == job) o ≡ if_own (own == job) o
    input_at None is job = by (job_of_event e == job) (own == job)
      where
        by : (a b : Bool) → if_own a None ≡ if_own b None
        by true true = refl
        by true false = refl
        by false true = refl
        by false false = refl
    input_at (Some x) is job = ap (λ k. if_own (k == job) (Some x)) (sym (own_at e given.reply x is))

    own_told : (job : ℕ) (j : Journal) → IsJournalOf (v job) j
        → IsJournalOf (view_from old.number (v job) (if_own (own == job) (event_input_of e given.reply))) (with_lines j (if own == job then line.Entry entry ∷ [] else []))
    own_told job j h = by (own == job) (event_input_of e given.reply) refl refl
      where
        own_is : (own == job) ≡ true → own ≡ job
        own_is t = grind (arith, nat_tests)

        by : (b : Bool) (o : Option Input) → (own == job) ≡ b → event_input_of e given.reply ≡ o
            → IsJournalOf (view_from old.number (v job) (if_own b o)) (with_lines j (cond b (line.Entry entry ∷ []) []))
        by true None t is = none_told job j h is
        by true (Some x) t is = some_told job (sym (own_at e given.reply x is) ∙ own_is t) j h x is
        by false o t is = subst (λ ls. IsJournalOf (v job) (record j { list = ls })) (sym (append-nil j.list)) h

    one_told : (job : ℕ) (j : Journal) → IsJournalOf (v job) j
        → IsJournalOf (view_from old.number (v job) (inputs_to before (Own e) given.reply job)) (with_lines j (lines_made number named own was given job))
    one_told job j h =
        let entered : List Line = if own == job then line.Entry entry ∷ [] else [] in
        let mine : List Input = if_own (own == job) (event_input_of e given.reply) in
        let inputs = inputs_are job ∙ ap (λ xs. xs ++ only_of job noted) (input_at (event_input_of e given.reply) refl job) in
        subst (λ xs. IsJournalOf (view_from old.number (v job) xs) (with_lines j (lines_made number named own was given job))) (sym inputs)
        (subst (λ w. IsJournalOf w (with_lines j (lines_made number named own was given job))) (sym (from-append old.number (v job) mine (only_of job noted)))
        (subst (λ notes. IsJournalOf (view_from old.number (view_from old.number (v job) mine) (only_of job noted)) (with_lines j (entered ++ notes_for number notes job))) (sym from.notes)
        (subst (λ ls. IsJournalOf (view_from old.number (view_from old.number (v job) mine) (only_of job noted)) (record j { list = ls })) (append_assoc j.list entered (notes_for number (judged_notes old.number v noted) job))
        (notes_told old.number number job v noted (here_notes before (Own e) given.reply) (view_from old.number (v job) mine) (with_lines j entered) (own_told job j h)))))

  -- the fact under the lock
  told_next : (before after : ℕ → Journal) → ((job : ℕ) → after job ≡ with_lines (before job) (lines_made number named own was given job)) → Tells old before → Tells new after
  told_next before after is h = record {
    views = λ job. view_from old.number (h.views job) (inputs_to (before_of old h.views) (Own e) given.reply job);
    shown = (steps.each h.views h.shown).views;
    response = λ job.
        subst (IsJournalOf (view_from old.number (h.views job) (inputs_to (before_of old h.views) (Own e) given.reply job))) (sym (is job))
        (one_told h.views h.shown job (before job) (h.response job));
    rooted = λ job. rooted_alike job (before job) (after job) (ap (λ (j : Journal). j.base) (is job)) (h.rooted job);
    taken = λ job. next_taken old.works.works new.works.works number own job named was given (before job) (after job) keeps (is job) (h.taken job);
    first = keeps.first h.first;
    works = λ job. next_works number own job named was given (before job) (after job) (due job) (is job) (h.works job);
  }
    where
      due : (job : ℕ) → own ≡ job → IsLineDue (store_of (before job)) (taken_of (before job)) (line.Entry entry)
      due job its =
          subst (λ b. IsLineDue b (taken_of (before job)) (line.Entry entry)) (sym (h.response job).replays)
          (subst (λ n. IsLineDue (replay_state_of (h.views job)) n (line.Entry entry)) (sym (h.taken job))
          (subst (λ k. IsLineDue (replay_state_of (h.views k)) (works_taken_by old.works (numbered k)) (line.Entry entry)) its (
            event_due old h.views h.shown (λ k. (h.response k).kept) h.first number given.reply e was (from h.views h.shown).operator (judged_is h.views h.shown None)
                (λ x is. ap (λ t. gives_work (kept_reply t)) (told_is h.views h.shown x is).reply ∙ step_gives_none old.number (h.views (job_of_event e)) x),
            event_timely old h.views h.shown h.first number given.reply e was (from h.views h.shown).operator (judged_is h.views h.shown),
          )))

      keeps : KeepsTaken old.works.works new.works.works own (line.Entry entry)
      keeps = step_keeps old h.views h.shown number named e given new (steps.each h.views h.shown) was (judged_is h.views h.shown (event_input_of e given.reply) refl)

  -- also where lists are folded first
  pub all_told : (before after : ℕ → Journal) (full : ℕ → Bool) → ((job : ℕ) → after job ≡ with_lines (folded_if (full job) (before job)) (lines_made number named own was given job)) → ∥ Tells old before ∥₁ → ∥ Tells new after ∥₁
  all_told before after full is h = ∥∥₁_map h (λ t. told_next (λ job. folded_if (full job) (before job)) after is (told_folded old before full t))

  -- what a session is answered
  module _ (before : ℕ → Journal) (call : is_call e ≡ true) where
    by_call : {A : Type 0} → ((x : Input) → event_input_of e given.reply ≡ Some x → A) → A
    by_call {A} f = by e call refl
      where
        by : (g : Event) → is_call g ≡ true → e ≡ g → A
        by (event.Call job session c) call is = f (input.Call session c) (ap (λ g. event_input_of g given.reply) is)
        by (event.Admit job quota key) call is = absurd cc
        by (event.Requota job quota) call is = absurd cc
        by (event.JobEnd job) call is = absurd cc
        by event.Take call is = absurd cc
        by (event.Finish job number a) call is = absurd cc

    pub call_never_wants : ∥ Tells old before ∥₁ → wants_memory given.reply ≡ false
    call_never_wants h = ∥∥₁_elim h (Bool-set _ _) (λ t. by_call (never t.views t.shown))

pub call_small : (old : Hosted) (e : Event) (response : Reply (List ℕ)) (before : ℕ → Journal) → IsSmall old e response → is_call e ≡ true → ∥ Tells old before ∥₁ → is_small_reply response ≡ true
call_small old e response before small call h = ∥∥₁_elim h (Bool-set _ _) (λ t. by e call (small t.views t.shown))
  where
    by : (g : Event) → is_call g ≡ true → IsSmallCall g response → is_small_reply response ≡ true
    by (event.Call job session c) call is = is
    by (event.Admit job quota key) call is = absurd cc
    by (event.Requota job quota) call is = absurd cc
    by (event.JobEnd job) call is = absurd cc
    by event.Take call is = absurd cc
    by (event.Finish job number a) call is = absurd cc

-- ---- a message

module _ (old new : Hosted) (to : JobNo) (a : Arrival) (given : NodeGiven) (number : ℕ) (steps : NodeStep old (Arrive to a) given new) (was : Option Judged) (is_judged : IsArrivalJudged old to a given.reply was)
    (stale : given.reply ≡ reply.Refused Stale → new ≡ old) (silent : given.notes ≡ []) where
  abbrev x : Input
  x = input.Arrive a

  abbrev brought : EventName
  brought = event_name (Arrive to a)

  abbrev came : Line
  came = line.Entry (entry_for number brought was given.reply)

  abbrev made : ℕ → List Line
  made job = lines_made number brought to.0 was given job

  made_is : (job : ℕ) → made job ≡ (if to.0 == job then came ∷ [] else [])
  made_is job =
      let own : List Line = if to.0 == job then came ∷ [] else [] in
      ap (λ notes. own ++ notes_for number notes job) silent ∙ append-nil own

  own_is : (job : ℕ) → (to.0 == job) ≡ true → to.0 ≡ job
  own_is job t = grind (arith, nat_tests)

  -- another job's journal
  others_told : (view : View) (j : Journal) → IsJournalOf view j → IsJournalOf view (with_lines j [])
  others_told view j h = subst (λ ls. IsJournalOf view (record j { list = ls })) (sym (append-nil j.list)) h

  module _ (v : ℕ → View) (shows : ShowsAll old v) where
    abbrev before_it : Before
    before_it = before_of old v

    came_from : NodeStepFrom old v (Arrive to a) given new
    came_from = steps.each v shows

    word_is : (response : Reply (List ℕ)) → given.reply ≡ response → was ≡ option_map (judge old.number (v to.0)) (arrived a response)
    word_is response is = sym (is_judged (v to.0) (shows to.0)) ∙ ap (λ t. option_map (judge old.number (v to.0)) (arrived a t)) is

    -- its job takes it
    module _ (ok : given.reply ≡ reply.Ok) where
      own_input : (job : ℕ) → inputs_to before_it (Arrive to a) given.reply job ≡ if_own (to.0 == job) (Some x)
      own_input job =
          ap (λ t. only_of job (option_to_list (cond (wants_memory t) None (Some (record { job = to.0; input = x }))) ++ [])) ok
          ∙ own_inputs to.0 job (Some x)

      here_told : (job : ℕ) → to.0 ≡ job → (j : Journal) → IsJournalOf (v job) j → IsJournalOf (view_step old.number (v job) x).view (with_lines j (came ∷ []))
      here_told job own j h =
          line_told old.number (v job) x j came (kept_reply given.reply) h
          (ap (option_map (λ y. record { input = y; reply = kept_reply given.reply })) (word_is reply.Ok ok ∙ ap (λ k. Some (judge old.number (v k) x)) own))
          (ap kept_reply (came_from.response.reply ∙ ap (λ k. (view_step old.number (v k) x).reply) own) ∙ ap unlisted (answers_whole old.number (v job) x h.kept))

      taken_told : (job : ℕ) (j : Journal) → IsJournalOf (v job) j → IsJournalOf (view_from old.number (v job) (inputs_to before_it (Arrive to a) given.reply job)) (with_lines j (made job))
      taken_told job j h =
          subst (λ xs. IsJournalOf (view_from old.number (v job) xs) (with_lines j (made job))) (sym (own_input job))
          (subst (λ ls. IsJournalOf (view_from old.number (v job) (if_own (to.0 == job) (Some x))) (with_lines j ls)) (sym (made_is job)) (by (to.0 == job) refl))
        where
          by : (b : Bool) → (to.0 == job) ≡ b → IsJournalOf (view_from old.number (v job) (if_own b (Some x))) (with_lines j (cond b (came ∷ []) []))
          by true t = here_told job (own_is job t) j h
          by false t = others_told (v job) j h

    -- its job isn't live
    module _ (late : given.reply ≡ reply.Refused Stale) where
      nothing_told : (view : View) (j : Journal) → IsJournalOf view j → IsJournalOf view (with_lines j (came ∷ []))
      nothing_told view j h =
          let ls : List Line = j.list in
          let lines : lines_of (ls ++ came ∷ []) ≡ lines_of ls =
          lines_of-snoc ls came
          ∙ ap (λ o. lines_of ls ++ option_to_list (option_map (λ y. record { input = y; reply = kept_reply given.reply }) o)) (word_is (reply.Refused Stale) late)
          ∙ append-nil (lines_of ls) in
          record {
            kept = h.kept;
            replays = ap (replayed j.base.store) lines ∙ h.replays;
            due = subst (AreDue j.base.store) (sym lines) h.due;
          }

      stale_told : (job : ℕ) (j : Journal) → IsJournalOf (v job) j → IsJournalOf (v job) (with_lines j (made job))
      stale_told job j h = subst (λ ls. IsJournalOf (v job) (with_lines j ls)) (sym (made_is job)) (by (to.0 == job))
        where
          by : (b : Bool) → IsJournalOf (v job) (with_lines j (cond b (came ∷ []) []))
          by true = nothing_told (v job) j h
          by false = others_told (v job) j h

  arrival_next : (before after : ℕ → Journal) → ((job : ℕ) → after job ≡ with_lines (before job) (made job)) → Tells old before → Tells new after
  arrival_next before after is h = by (is_some (live_at old.admissions to)) (came_from h.views h.shown).operator
    where
      keeps : given.reply ≡ reply.Ok → KeepsTaken old.works.works new.works.works to.0 came
      keeps ok = arrival_keeps old h.views h.shown number brought to a given new (came_from h.views h.shown) was (word_is h.views h.shown reply.Ok ok)

      same : given.reply ≡ reply.Refused Stale → KeepsTaken old.works.works old.works.works to.0 came
      same late = stale_keeps old.works.works to.0 number brought was given.reply Stale (word_is h.views h.shown (reply.Refused Stale) late) late

      in_time : (job : ℕ) → to.0 ≡ job → IsInTime (store_of (before job)) (taken_of (before job)) came
      in_time job its =
          subst (λ b. IsInTime b (taken_of (before job)) came) (sym (h.response job).replays)
          (subst (λ k. IsInTime (replay_state_of (h.views k)) (taken_of (before job)) came) its
          (arrival_timely old.number (h.views to.0) a was given.reply (came_from h.views h.shown).response.reply (word_is h.views h.shown) (taken_of (before job)) number))

      next_due : (live : Bool) → given.reply ≡ answer_of_check (stale_unless live) → (job : ℕ) → GivesDue (after job)
      next_due live op job =
          next_works number to.0 job brought was given (before job) (after job)
          (λ its. (arrival_due (store_of (before job)) (taken_of (before job)) number a was given.reply (stale_unless live) op, in_time job its)) (is job) (h.works job)

      next_rooted : (job : ℕ) → IsRooted job (after job).base.store
      next_rooted job = rooted_alike job (before job) (after job) (ap (λ (j : Journal). j.base) (is job)) (h.rooted job)

      by : (live : Bool) → given.reply ≡ answer_of_check (stale_unless live) → Tells new after
      by true ok = record {
        views = λ job. view_from old.number (h.views job) (inputs_to (before_of old h.views) (Arrive to a) given.reply job);
        shown = (came_from h.views h.shown).views;
        response = λ job.
            subst (IsJournalOf (view_from old.number (h.views job) (inputs_to (before_of old h.views) (Arrive to a) given.reply job))) (sym (is job))
            (taken_told h.views h.shown ok job (before job) (h.response job));
        rooted = next_rooted;
        taken = λ job. next_taken old.works.works new.works.works number to.0 job brought was given (before job) (after job) (keeps ok) (is job) (h.taken job);
        first = (keeps ok).first h.first;
        works = next_due true ok;
      }
      by false late = subst (λ node. Tells node after) (sym (stale late)) (record {
        views = h.views;
        shown = h.shown;
        response = λ job. subst (IsJournalOf (h.views job)) (sym (is job)) (stale_told h.views h.shown late job (before job) (h.response job));
        rooted = next_rooted;
        taken = λ job. next_taken old.works.works old.works.works number to.0 job brought was given (before job) (after job) (same late) (is job) (h.taken job);
        first = h.first;
        works = next_due false late;
      })

  -- also where its list is folded first
  pub arrival_told : (before after : ℕ → Journal) (full : ℕ → Bool) → ((job : ℕ) → after job ≡ with_lines (folded_if (full job) (before job)) (made job)) → ∥ Tells old before ∥₁ → ∥ Tells new after ∥₁
  arrival_told before after full is h = ∥∥₁_map h (λ t. arrival_next (λ job. folded_if (full job) (before job)) after is (told_folded old before full t))

-- ---- a node in which nothing has happened

pub told_at_first : (node : Hosted) (journals : ℕ → Journal) → node.works ≡ record { works = []; used = [] } → ((job : ℕ) → Shows node job (view_of (no_store job))) → ((job : ℕ) → journals job ≡ fresh job) → ∥ Tells node journals ∥₁
told_at_first node journals empty shows none = ∣ record {
  views = λ job. view_of (no_store job);
  shown = shows;
  response = λ job. subst (IsJournalOf (view_of (no_store job))) (sym (none job)) (record { kept = no_store_kept job; replays = refl; due = refl });
  rooted = λ job. rooted_alike job (fresh job) (journals job) (ap (λ (j : Journal). j.base) (none job)) (record { past = []; leads = refl; due = refl });
  taken = λ job. ap taken_of (none job) ∙ sym (ap (λ (works : WorkLine). works_taken_by works (numbered job)) empty);
  first = ap (λ (works : WorkLine). taken_come_first works.works) empty;
  works = λ job. subst GivesDue (sym (none job)) tt;
} ∣₁

-- ---- a session that enters

pub told_entered : (old new : Hosted) (journals : ℕ → Journal) → new.works ≡ old.works → ((job : ℕ) (view : View) → Shows new job view ↔ Shows old job view) → ∥ Tells old journals ∥₁ → ∥ Tells new journals ∥₁
told_entered old new journals same views h = ∥∥₁_map h (λ t. record {
  views = t.views;
  shown = λ job. (views job (t.views job)).1 (t.shown job);
  response = t.response;
  rooted = t.rooted;
  taken = λ job. t.taken job ∙ sym (ap (λ works. works_taken_by works (numbered job)) same);
  first = ap (λ (works : WorkLine). taken_come_first works.works) same ∙ t.first;
  works = t.works;
})

module _ (r : Result ℕ Refusal) (old new : Hosted) (a : Admissions) where
  pub entered_same : {A : Type 0} (part : Hosted → A) → part (record old { admissions = a }) ≡ part old → OnOk r (new ≡ record old { admissions = a }) → OnErr r (new ≡ old) → part new ≡ part old
  entered_same {A} part same ok err = by r ok err
    where
      by : (r : Result ℕ Refusal) → OnOk r (new ≡ record old { admissions = a }) → OnErr r (new ≡ old) → part new ≡ part old
      by (Ok n) ok err = ap part ok ∙ same
      by (Err e) ok err = ap part err
