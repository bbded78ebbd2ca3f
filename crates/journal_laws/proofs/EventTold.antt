-- An event at a node: what it was to its own job, and its notes.
use Rattle.std.proofs.Common.{◌≡◌, ℕ, zero, suc, ◌<◌, ◌≤◌, Bool, true, false, cond, ◌==◌, List, [], ◌∷◌, ◌++◌, length, map, filter, All, Option, Some, None, option_to_list, refl, sym, ap, subst, ◌∙◌, arith}
use Rattle.std.specs.Prelude.{not, nat_le, ◌||◌, is_none, option_map, ⊤}
use Rattle.std.proofs.lemmas.List.{map-append}
use Rattle.std.proofs.lemmas.List.Elements.{filter-append}
use Rattle.obj_id.specs.declared.commands.Reply.{Reply}
use Rattle.obj_id.specs.declared.commands.Reply.TheVariants as reply
use Rattle.obj_id.specs.declared.ids.JobNo.{JobNo}
use Rattle.obj_id.specs.declared.refusals.Refusal.{Refusal}
use Rattle.obj_id.specs.declared.refusals.Refusal.TheVariants.{BadId, BadSize, Exists, NoRoom, Stale}
use Rattle.obj_id.specs.declared.works.Quota.{Quota}
use Rattle.private_store.specs.declared.inputs.Input.{Input}
use Rattle.private_store.specs.declared.inputs.Judged.{Judged}
use Rattle.private_store.specs.declared.schedules.Event.{Event}
use Rattle.private_store.specs.declared.schedules.Event.TheVariants as event
use Rattle.private_store.specs.declared.schedules.NodeEvent.TheVariants.{Own}
use Rattle.private_store.specs.declared.schedules.Step.TheVariants.{At}
use Rattle.private_store.specs.declared.schedules.StepAnswer.TheVariants as answers
use Rattle.private_store.specs.laws.Answers.{reply_without_payload, wants_memory}
use Rattle.private_store.specs.rules.Commands.{granted_items}
use Rattle.private_store.specs.rules.Contents.{View, judge}
use Rattle.private_store.specs.rules.Limits.{is_quota, most_live_jobs}
use Rattle.private_store.specs.laws.NodeInputs.{Before, JobInput, inputs_to, notes_here, only_of, own_here}
use Rattle.private_store.specs.rules.Private.{view_step, view_from}
use Rattle.private_store.specs.rules.Replay.{replay_state_of, replay_step}
use Rattle.private_store.specs.rules.Shared.{first_refusal}
use Rattle.store_facts.proofs.AnswersAre.{answers_whole}
use Rattle.store_facts.proofs.Tests.{none_some, some_value, true_false}
use Rattle.schedule_text.specs.declared.lines.JobAt.{JobAt}
use Rattle.journal_text.specs.declared.entry.Address.{Address}
use Rattle.journal_text.specs.declared.entry.Entry.{Entry}
use Rattle.journal_text.specs.declared.entry.Version.TheVariants.{Three}
use Rattle.journal_text.specs.declared.saved.Answered.{Answered}
use Rattle.journal_text.specs.declared.saved.JournalItem.{JournalItem}
use Rattle.journal_text.specs.Reading.{is_fitting}
use Rattle.journal_text.specs.Saved.{entry_at, saved_lines_of as lines_counted}
use Rattle.journal_text.specs.Typed.{IsProperInput, IsProperReply}
use Rattle.journal_replay.specs.Inputs.{judged_of}
use Rattle.journal_replay.specs.Saved.{AreSound, entries_saved, with_line}
use Rattle.job_admission.specs.Admissions.{Admissions, admit_check, lives_of, window_place_for}
use Rattle.grants.specs.Private.{taken_by}
use Rattle.node_core.specs.declared.outcome.Note.{Note}
use Rattle.node_core.specs.Hosted.{Hosted, IsViewBy, Shows, ShowsAll, beside_at, bytes_here, row_at}
use Rattle.node_core.specs.Judged.{IsJudged}
use Rattle.node_core.specs.OneJob.{event_input_of}
use Rattle.node_core.specs.Outcomes.{inputs_noted}
use Rattle.node_core.specs.Steps.{NodeGiven, IsEventAnswer, IsGiven, IsStepOf, NodeStep, NodeStepFrom, answer_of_check, before_of, job_of_event}
use Rattle.node_core.proofs.ForCallers.{IsFinishAnswer, finish_answer, own_due_is, own_here_is, told_never}
use Rattle.job_row.specs.Row.{Row}
use Rattle.schedule_runs.specs.SavedRuns.{SavedStep, entry_mark, input_said, kept_under, with_entry_item, with_notes, with_step}
use Rattle.journal_laws.proofs.GoodGrants.{AreGood, IsDeep, seen_deep}
use Rattle.journal_laws.proofs.StoreAnswers.{answer_proper, early_stale, is_of_live}
use Rattle.journal_laws.proofs.Entered.{AllJournalsOf, IsJournalOf, due_here, entered, entered_elsewhere, if_none, if_own, place_at, unbegun_here}
use Rattle.journal_laws.proofs.NotesTold.{notes_elsewhere, notes_good, notes_told}

-- ---- what a node shows of what others granted

pub received_is : (node : Hosted) (job : ℕ) (view : View) → Shows node job view → view.shape.received ≡ taken_by (λ id. length (bytes_here node.rows id)) job node.grants
received_is node job view h = by (row_at node (record { 0 = job })) h.by_row
  where
    by : (o : Option Row) → IsViewBy node.admissions.greatest (beside_at node job) job view o → view.shape.received ≡ taken_by (λ id. length (bytes_here node.rows id)) job node.grants
    by (Some row) s = ap (λ shape. shape.received) s.shape
    by None s = ap (λ (v : View). v.shape.received) s.is

-- ---- what an event is to its own job

-- a command is of a job
abbrev pub IsSpoken : Event → Type 0
IsSpoken (event.Call job session c) = 1 ≤ job.0
IsSpoken _ = ⊤

-- its entry says the input and is a proper one
record IsOwnInput (response : Reply (List ℕ)) (x : Input) : Type 0 where
  pub said : (address : Address) (number : ℕ) (view : View) → judged_of Three address (input_said [] (judge number view x)) ≡ judge number view x
  pub proper : (number : ℕ) (view : View) → IsProperInput (input_said [] (judge number view x))
  pub fitting : (number : ℕ) (view : View) → is_fitting (input_said [] (judge number view x)) (reply_without_payload response) ≡ true

own_input : (e : Event) (response : Reply (List ℕ)) (x : Input) → event_input_of e response ≡ Some x → IsOwnInput response x
own_input (event.Admit job quota key) reply.Ok x is = subst (IsOwnInput reply.Ok) (some_value _ x is) (record { said = λ a n w. refl; proper = λ n w. tt; fitting = λ n w. refl })
own_input (event.Admit job quota key) _ x is = none_some x is
own_input (event.Requota job quota) reply.Ok x is = subst (IsOwnInput reply.Ok) (some_value _ x is) (record { said = λ a n w. refl; proper = λ n w. tt; fitting = λ n w. refl })
own_input (event.Requota job quota) _ x is = none_some x is
own_input (event.JobEnd job) reply.Ok x is = subst (IsOwnInput reply.Ok) (some_value _ x is) (record { said = λ a n w. refl; proper = λ n w. tt; fitting = λ n w. refl })
own_input (event.JobEnd job) _ x is = none_some x is
own_input event.Take response x is = none_some x is
own_input (event.Finish job number a) reply.Ok x is = subst (IsOwnInput reply.Ok) (some_value _ x is) (record { said = λ a n w. refl; proper = λ n w. tt; fitting = λ n w. refl })
own_input (event.Finish job number a) _ x is = none_some x is
own_input (event.Call job session c) response x is = subst (IsOwnInput response) (some_value _ x is) (record { said = λ a n w. refl; proper = λ n w. tt; fitting = λ n w. refl })

-- the entry stands under the job of the event
own_place : (e : Event) (response : Reply (List ℕ)) (x : Input) → event_input_of e response ≡ Some x → kept_under e response ≡ record { 0 = job_of_event e }
own_place (event.Admit job quota key) response x is = refl
own_place (event.Requota job quota) response x is = refl
own_place (event.JobEnd job) response x is = refl
own_place event.Take response x is = none_some x is
own_place (event.Finish job number a) response x is = refl
own_place (event.Call job session c) response x is = refl

-- ---- which is a job's

abbrev pub is_refused : {P : Type 0} → Reply P → Bool
is_refused (reply.Refused refusal) = true
is_refused _ = false

pub one_or : (n : ℕ) → (n ≡ 0 → ⊥) → 1 ≤ n
one_or zero f = absurd (f refl)
one_or (suc n) f = omega arith

refused_first : (b : Bool) (r : Refusal) (checks : List (Bool × Refusal)) → b ≡ true → answer_of_check (first_refusal ((b, r) ∷ checks)) ≡ reply.Refused r
refused_first true r checks e = refl
refused_first false r checks e = true_false e

-- what an admission is checked for after its number
abbrev later_checks : Admissions → JobNo → Quota → List (Bool × Refusal)
later_checks a job quota =
    (not (is_quota quota), BadSize)
    ∷ (nat_le job.0 a.greatest, Exists)
    ∷ (nat_le most_live_jobs (length (lives_of a.live)) || is_none (window_place_for a quota.window), NoRoom)
    ∷ []

admitted_one : (a : Admissions) (job : JobNo) (quota : Quota) → reply.Ok ≡ answer_of_check (admit_check a job quota) → 1 ≤ job.0
admitted_one a job quota is = one_or job.0 (λ none. true_false (ap is_refused (is ∙ refused_first (job.0 == 0) BadId (later_checks a job quota) (ap (λ n. n == 0) none))))

-- it has a number, since a store of none never begins
is_one : (node : Hosted) (v : ℕ → View) (number : ℕ) (e : Event) (response : Reply (List ℕ)) (x : Input) → event_input_of e response ≡ Some x → IsEventAnswer node v e response → IsSpoken e
    → (job_of_event e ≡ 0 → is_of_live (judge number (v (job_of_event e)) x) ≡ true → reply_without_payload response ≡ reply.Refused Stale) → 1 ≤ job_of_event e
is_one node v number (event.Admit job quota key) reply.Ok x is op spoken late = admitted_one node.admissions job quota op
is_one node v number (event.Admit job quota key) _ x is op spoken late = none_some x is
is_one node v number (event.Requota job quota) reply.Ok x is op spoken late = one_or job.0 (λ none. true_false (ap is_refused (late none (subst (λ y. is_of_live (judge number (v job.0) y) ≡ true) (some_value _ x is) refl))))
is_one node v number (event.Requota job quota) _ x is op spoken late = none_some x is
is_one node v number (event.JobEnd job) reply.Ok x is op spoken late = one_or job.0 (λ none. true_false (ap is_refused (late none (subst (λ y. is_of_live (judge number (v job.0) y) ≡ true) (some_value _ x is) refl))))
is_one node v number (event.JobEnd job) _ x is op spoken late = none_some x is
is_one node v number event.Take response x is op spoken late = none_some x is
is_one node v number (event.Finish job n a) reply.Ok x is op spoken late = one_or job.0 (λ none. true_false (ap is_refused (late none (subst (λ y. is_of_live (judge number (v job.0) y) ≡ true) (some_value _ x is) refl))))
is_one node v number (event.Finish job n a) _ x is op spoken late = none_some x is
is_one node v number (event.Call job session c) response x is op spoken late = spoken

-- ---- inputs of one job

pub only-append : (job : ℕ) (xs ys : List JobInput) → only_of job (xs ++ ys) ≡ only_of job xs ++ only_of job ys
only-append job xs ys = ap (map (λ (x : JobInput). x.input)) (filter-append (λ (x : JobInput). x.job == job) xs ys) ∙ map-append (λ (x : JobInput). x.input) (filter (λ (x : JobInput). x.job == job) xs) (filter (λ (x : JobInput). x.job == job) ys)

from-append : (node : ℕ) (view : View) (xs ys : List Input) → view_from node view (xs ++ ys) ≡ view_from node (view_from node view xs) ys
from-append node view [] ys = refl
from-append node view (x ∷ xs) ys = from-append node (view_step node view x).view xs ys

abbrev of_job : ℕ → Option Input → Option JobInput
of_job job o = option_map (λ x. record { job = job; input = x }) o

pub own_inputs : (own job : ℕ) (o : Option Input) → only_of job (option_to_list (of_job own o)) ≡ if_own (own == job) o
own_inputs own job None = sym (if_none (own == job))
own_inputs own job (Some x) = by (own == job)
  where
    by : (b : Bool) → map (λ (y : JobInput). y.input) (cond b (record { job = own; input = x } ∷ []) []) ≡ if_own b (Some x)
    by true = refl
    by false = refl

-- ---- elsewhere

pub mark_elsewhere : (at : JobAt) (k : ℕ) (line : Option Answered) (entries : List Entry) (p : ℕ) (u : ℕ → View) → (at.node == p) ≡ false → AllJournalsOf p u entries → AllJournalsOf p u (with_line at k line entries)
mark_elsewhere at k None entries p u apart response = response
mark_elsewhere at k (Some line) entries p u apart response = entered_elsewhere at.node at.job k line entries p u apart response

-- ---- the event

module _ (place : ℕ) (e : Event) (before after : Hosted) (given : NodeGiven) (steps : NodeStep before (Own e) given after) (was : Option Judged) (is_judged : IsJudged before e given.reply was)
    (notes : List Note) (noted : given.notes ≡ inputs_noted notes) (v : ℕ → View) (shows : ShowsAll before v) (marks : List JournalItem) (response : AllJournalsOf place v (entries_saved marks)) (sound : AreSound (entries_saved marks))
    (within : place < 8) (good : AreGood before.grants) (good_after : AreGood after.grants) (spoken : IsSpoken e) where
  abbrev r : Reply (List ℕ)
  r = given.reply

  abbrev number : ℕ
  number = before.number

  abbrev b : Before
  b = before_of before v

  abbrev own : ℕ
  own = job_of_event e

  from : NodeStepFrom before v (Own e) given after
  from = steps.each v shows

  answer : IsFinishAnswer b e r
  answer = finish_answer before v e r from.operator

  wants_none : wants_memory r ≡ false
  wants_none = told_never before v number b e given from.operator from.response

  told_is : (x : Input) → event_input_of e r ≡ Some x → IsStepOf number (v own) x given
  told_is x is =
      subst (λ o. IsGiven number v (of_job own o) given) is
      (subst (λ o. IsGiven number v o given) (own_due_is b e r answer) from.response)

  inputs_are : (j : ℕ) → inputs_to b (Own e) r j ≡ if_own (own == j) (event_input_of e r) ++ only_of j (notes_here b (Own e) r)
  inputs_are j =
      only-append j (option_to_list (own_here b (Own e) r)) (notes_here b (Own e) r)
      ∙ ap (λ o. only_of j (option_to_list o) ++ only_of j (notes_here b (Own e) r)) (own_here_is b e r answer wants_none)
      ∙ ap (λ xs. xs ++ only_of j (notes_here b (Own e) r)) (own_inputs own j (event_input_of e r))

  was_is : (o : Option Input) → event_input_of e r ≡ o → was ≡ option_map (judge number (v own)) o
  was_is o is = sym (is_judged.by_view (v own) (shows own)) ∙ ap (option_map (judge number (v own))) is

  module _ (x : Input) (is : event_input_of e r ≡ Some x) where
    abbrev y : Judged
    y = judge number (v own) x

    abbrev line : Answered
    line = record { input = input_said [] y; reply = reply_without_payload r }

    abbrev k : ℕ
    k = suc (lines_counted (place_at place own) marks)

    abbrev entry : Entry
    entry = entry_at (place_at place own) k line

    own_is : IsOwnInput r x
    own_is = own_input e r x is

    replay_is : reply_without_payload r ≡ (replay_step (replay_state_of (v own)) y).reply
    replay_is = ap reply_without_payload (told_is x is).reply ∙ answers_whole number (v own) x (response own).kept

    late : own ≡ 0 → is_of_live y ≡ true → reply_without_payload r ≡ reply.Refused Stale
    late none live = replay_is ∙ ap (λ b. (replay_step b y).reply) (ap (λ n. replay_state_of (v n)) none ∙ unbegun_here place (v 0) (entries_saved marks) sound (response 0)) ∙ early_stale 0 y live

    deep : All IsDeep (granted_items (v own).shape)
    deep = seen_deep (λ id. length (bytes_here before.rows id)) own before.grants (v own).shape good (received_is before own (v own) (shows own))

    own_told : AllJournalsOf place (λ j. view_from number (v j) (if_own (own == j) (Some x))) (entry ∷ entries_saved marks)
    own_told = entered place (record { 0 = own }) k line (entries_saved marks) number v x response (own_is.said entry.address number (v own))

    own_sound : AreSound (entry ∷ entries_saved marks)
    own_sound = (
      record {
        node = within;
        job = is_one before v number e r x is from.operator spoken late;
        asked = own_is.proper number (v own);
        answered = subst IsProperReply (sym replay_is) (answer_proper (v own).order (v own).shape y deep);
        fitting = own_is.fitting number (v own);
      },
      due_here entry (entries_saved marks) number (v own) x (own_is.said entry.address number (v own)) (response own) replay_is,
      sound,
    )

  abbrev at_job : JobNo → JobAt
  at_job job = record { node = place; job = job }

  abbrev at : JobAt
  at = at_job (kept_under e r)

  -- with the event's own entry
  abbrev Enters : Option Input → Option Judged → JobAt → Type 0
  Enters o w p =
      AllJournalsOf place (λ j. view_from number (v j) (if_own (own == j) o)) (entries_saved (entry_mark p (answers.Response r) w ∷ marks)) × AreSound (entries_saved (entry_mark p (answers.Response r) w ∷ marks))

  enters : (o : Option Input) → event_input_of e r ≡ o → Enters o was at
  enters None is =
      subst (λ w. Enters None w at) (sym (was_is None is))
      (λ j. subst (λ xs. IsJournalOf (place_at place j) (view_from number (v j) xs) (entries_saved marks)) (sym (if_none (own == j))) (response j), sound)
  enters (Some x) is =
      subst (λ w. Enters (Some x) w at) (sym (was_is (Some x) is))
      (subst (λ p. Enters (Some x) (Some (judge number (v own) x)) p) (ap at_job (sym (own_place e r x is))) (own_told x is, own_sound x is))

  abbrev kept : SavedStep
  kept = record { judged = was; notes = notes }

  -- what the journal has of it
  marks_are : with_step (At place e) (answers.Response r) kept marks ≡ with_notes place notes (entry_mark at (answers.Response r) was ∷ marks)
  marks_are = ap (λ t. with_entry_item (cond t None (Some at)) (answers.Response r) kept marks) wants_none

  abbrev pub views_after : ℕ → View
  views_after j = view_from number (v j) (inputs_to b (Own e) r j)

  pub shown_after : ShowsAll after views_after
  shown_after = from.views

  pub event_told : AllJournalsOf place views_after (entries_saved (with_step (At place e) (answers.Response r) kept marks)) × AreSound (entries_saved (with_step (At place e) (answers.Response r) kept marks))
  event_told =
      let one = enters (event_input_of e r) refl in
      let all = notes_told place number within v notes (notes_here b (Own e) r) (sym noted ∙ from.notes) (notes_good b e r good (subst AreGood steps.grants good_after))
      (entry_mark at (answers.Response r) was ∷ marks) (λ j. view_from number (v j) (if_own (own == j) (event_input_of e r))) one.0 one.1 in
      let more = with_notes place notes (entry_mark at (answers.Response r) was ∷ marks) in
      subst (λ ms. AllJournalsOf place views_after (entries_saved ms) × AreSound (entries_saved ms)) (sym marks_are) (
        λ j. subst (λ u. IsJournalOf (place_at place j) u (entries_saved more))
            (sym (ap (view_from number (v j)) (inputs_are j) ∙ from-append number (v j) (if_own (own == j) (event_input_of e r)) (only_of j (notes_here b (Own e) r)))) (all.0 j),
        all.1,
      )

  pub event_elsewhere : (p : ℕ) (u : ℕ → View) → (place == p) ≡ false → AllJournalsOf p u (entries_saved marks) → AllJournalsOf p u (entries_saved (with_step (At place e) (answers.Response r) kept marks))
  event_elsewhere p u apart h =
      subst (λ ms. AllJournalsOf p u (entries_saved ms)) (sym marks_are)
      (notes_elsewhere place notes (entry_mark at (answers.Response r) was ∷ marks) p u apart
      (mark_elsewhere at (suc (lines_counted at marks)) (entry_mark at (answers.Response r) was).line (entries_saved marks) p u apart h))
