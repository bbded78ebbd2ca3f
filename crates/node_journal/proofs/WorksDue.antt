-- What a Take gives is the first work of its job's store that nobody has taken, and so its entry says.
use Rattle.std.proofs.Common.{◌≡◌, ℕ, ◌≤◌, zero, suc, Bool, true, false, cond, ◌==◌, ◌&&◌, List, [], ◌∷◌, ◌++◌, map, length, Option, Some, None, refl, sym, ap, subst, ◌∙◌, arith}
use Rattle.std.specs.Prelude.{if◌then◌else◌, count_by, filter, option_map, option_to_list, slice_get, unwrap_or}
use Rattle.std.specs.List.{find}
use Rattle.std.specs.Option.{option_and_then, option_map_or}
use Rattle.std.proofs.lemmas.Bool.Decides.{nat_tests}
use Rattle.obj_id.specs.declared.commands.CopyState.{CopyState}
use Rattle.obj_id.specs.declared.commands.CopyState.TheVariants.{Created, Sealed, Restoring, Fetching, Away}
use Rattle.obj_id.specs.declared.commands.Reply.{Reply}
use Rattle.obj_id.specs.declared.commands.Reply.TheVariants as reply
use Rattle.obj_id.specs.declared.messages.Arrival.{Arrival}
use Rattle.obj_id.specs.declared.messages.Arrival.TheVariants as arrival
use Rattle.obj_id.specs.declared.messages.PeerMessage.TheVariants as peer
use Rattle.obj_id.specs.declared.refusals.Refusal.{Refusal}
use Rattle.obj_id.specs.declared.works.WorkKind.TheVariants as kind
use Rattle.obj_id.specs.Ids.{same_id}
use Rattle.store_facts.proofs.Ids.{same_id-itself}
use Rattle.private_store.specs.declared.inputs.Input.{Input}
use Rattle.private_store.specs.declared.inputs.Input.TheVariants as input
use Rattle.private_store.specs.declared.inputs.Judged.{Judged}
use Rattle.private_store.specs.declared.schedules.Event.{Event}
use Rattle.private_store.specs.declared.schedules.Event.TheVariants as event
use Rattle.private_store.specs.declared.schedules.NodeEvent.TheVariants.{Own}
use Rattle.private_store.specs.rules.Contents.{View, bytes_at, judge, whole_reply}
use Rattle.private_store.specs.rules.Copies.{is_sealed}
use Rattle.private_store.specs.laws.Invariants.{IsViewKept, has_extent}
use Rattle.private_store.specs.rules.Private.{key_of, view_step}
use Rattle.private_store.specs.rules.Replay.{ReplayState, replay_state_of, replayed}
use Rattle.private_store.specs.rules.Shape.{Copy, Fetch, WorkInFlight}
use Rattle.private_store.specs.rules.Step.{step}
use Rattle.private_store.specs.rules.Tables.{at}
use Rattle.store_facts.proofs.KeptLists.{count-yes, count-no, some_counted, find-any}
use Rattle.store_facts.proofs.Tests.{true_false, false_true, none_some, some_value}
use Rattle.spill_work.specs.declared.queue.IoRequest.{IoRequest}
use Rattle.spill_work.specs.declared.queue.Queued.{Queued}
use Rattle.spill_work.specs.Line.{front_of, shown}
use Rattle.node_core.specs.Hosted.{Hosted, IsViewBy, Shows, ShowsAll, beside_at, row_at}
use Rattle.node_core.specs.Steps.{NodeGiven, JobJudged, IsEventAnswer, answer_of_check, job_at, take_response, row_work_given, row_work_of}
use Rattle.node_core.specs.OneJob.{event_input_of}
use Rattle.node_core.proofs.ForCallers.{works_shown}
use Rattle.node_journal.specs.declared.entries.EventName.{EventName}
use Rattle.node_journal.specs.declared.entries.Line.{Line}
use Rattle.node_journal.specs.declared.entries.Line.TheVariants as line
use Rattle.node_journal.specs.Replies.{kept_reply}
use Rattle.node_journal.specs.Journals.{Journal, AreLinesDue, GivesDue, IsLineDue, IsWorkDue, arrival_name, replay_state_given, entry_for, event_name, folded_if, gives_work, is_take, journal_line_of, lines_made, lines_of, notes_for, store_of, take_due, taken_after, taken_come_first, taken_from, taken_of, with_lines}
use Rattle.node_journal.proofs.Lists.{replayed_one}
use Rattle.node_journal.proofs.TakenLine.{count, front_at, none_at}
use Rattle.node_journal.proofs.TakenWorks.{numbered}

-- ---- lines

pub works-append : (replay_state : ReplayState) (n : ℕ) (xs ys : List Line) → AreLinesDue replay_state n xs → AreLinesDue (replayed replay_state (lines_of xs)) (taken_from n xs) ys → AreLinesDue replay_state n (xs ++ ys)
works-append replay_state n [] ys h more = more
works-append replay_state n (x ∷ xs) ys h more = (
  h.0,
  works-append (replayed replay_state (option_to_list (journal_line_of x))) (taken_after n x) xs ys h.1
      (subst (λ b. AreLinesDue b (taken_from (taken_after n x) xs) ys) (replayed_one replay_state (journal_line_of x) (lines_of xs)) more),
)

-- notes give none
notes_due : (replay_state : ReplayState) (n number job : ℕ) (notes : List JobJudged) → AreLinesDue replay_state n (notes_for number notes job)
notes_due replay_state n number job notes = by replay_state (filter (λ (note : JobJudged). note.job == job) notes)
  where
    by : (b : ReplayState) (xs : List JobJudged) → AreLinesDue b n (map (λ (note : JobJudged). line.Note number note.input) xs)
    by b [] = tt
    by b (x ∷ xs) = ((tt, tt), by (replayed b (option_to_list (journal_line_of (line.Note number x.input)))) xs)

-- the journals say so after a step, if its entry does where it stands
pub next_works : (number own job : ℕ) (named : EventName) (was : Option Judged) (given : NodeGiven) (j next : Journal)
    → (own ≡ job → IsLineDue (store_of j) (taken_of j) (line.Entry (entry_for number named was given.reply)))
    → next ≡ with_lines j (lines_made number named own was given job) → GivesDue j → GivesDue next
next_works number own job named was given j next due is h =
    subst GivesDue (sym is)
    (works-append j.base.store j.base.taken j.list (lines_made number named own was given job) h (by (own == job) refl))
  where
    made : Line
    made = line.Entry (entry_for number named was given.reply)

    same : (own == job) ≡ true → own ≡ job
    same t = grind (arith, nat_tests)

    by : (b : Bool) → (own == job) ≡ b → AreLinesDue (store_of j) (taken_of j) (cond b (line.Entry (entry_for number named was given.reply) ∷ []) [] ++ notes_for number given.notes job)
    by true t = (due (same t), notes_due (replayed (store_of j) (option_to_list (journal_line_of made))) (taken_after (taken_of j) made) number job given.notes)
    by false t = notes_due (store_of j) (taken_of j) number job given.notes

-- folding keeps that
pub folded_works : (b : Bool) (j : Journal) → GivesDue j → GivesDue (folded_if b j)
folded_works true j h = tt
folded_works false j h = h

-- ---- answers that give no work

gives_none : (response : Reply (List ℕ)) (o : Option Refusal) → response ≡ answer_of_check o → gives_work (kept_reply response) ≡ false
gives_none response o is = ap (λ t. gives_work (kept_reply t)) is ∙ by o
  where
    by : (o : Option Refusal) → gives_work (kept_reply (answer_of_check o)) ≡ false
    by None = refl
    by (Some r) = refl

-- a store tells no one a work
pub step_gives_none : (node : ℕ) (view : View) (x : Input) → gives_work (kept_reply (view_step node view x).reply) ≡ false
step_gives_none node view x = by (step view.order view.shape (judge node view x)).reply
  where
    by : (r : Reply ℕ) → gives_work (kept_reply (whole_reply view x r)) ≡ false
    by reply.Ok = refl
    by (reply.Placed offset n) = refl
    by (reply.Got n) = refl
    by (reply.Bytes n) = refl
    by (reply.List own granted) = refl
    by (reply.Usage usage) = refl
    by (reply.Work work) = refl
    by reply.NoWork = refl
    by (reply.Refused refusal) = refl

-- ---- the work that a Take gives

itself : (n : ℕ) → (n == n) ≡ true
itself n = grind (arith, nat_tests)

-- a work at a place is found under its number
found_at : (w : WorkInFlight) (ws : List WorkInFlight) (n : ℕ) → slice_get ws n ≡ Some w → count_by (λ v. v.number == w.number) ws ≤ 1 → find (λ v. v.number == w.number) ws ≡ Some w
found_at w [] n here one = none_some w here
found_at w (v ∷ vs) zero here one =
    ap (λ (x : WorkInFlight). cond (v.number == x.number) (Some v) (find (λ y. y.number == x.number) vs)) (sym (some_value v w here))
    ∙ ap (λ b. cond b (Some v) (find (λ y. y.number == v.number) vs)) (itself v.number)
    ∙ here
found_at w (v ∷ vs) (suc n) here one = by (v.number == w.number) refl (found_at w vs n here)
  where
    by : (b : Bool) → (v.number == w.number) ≡ b → (count_by (λ x. x.number == w.number) vs ≤ 1 → find (λ x. x.number == w.number) vs ≡ Some w)
        → cond (v.number == w.number) (Some v) (find (λ x. x.number == w.number) vs) ≡ Some w
    by true is later =
        let more = count-yes (λ (x : WorkInFlight). x.number == w.number) v vs is in
        let some = some_counted (λ (x : WorkInFlight). x.number == w.number) vs
        (find-any (λ x. x.number == w.number) (λ x. x.number == w.number) vs w (later (omega (arith, more, one))) (itself w.number)) in
        absurd (omega (arith, more, some, one))
    by false is later =
        let less = count-no (λ (x : WorkInFlight). x.number == w.number) v vs is in
        ap (λ b. cond b (Some v) (find (λ x. x.number == w.number) vs)) is ∙ later (omega (arith, less, one))

sealed_extent : (state : CopyState) (fetch : Option Fetch) → is_sealed state ≡ true → has_extent state fetch ≡ true
sealed_extent Created fetch e = refl
sealed_extent Sealed fetch e = refl
sealed_extent Restoring fetch e = refl
sealed_extent Fetching fetch e = true_false e
sealed_extent Away fetch e = true_false e

module _ (job : ℕ) (view : View) (h : IsViewKept view) (own : view.shape.job ≡ job) (number : ℕ) (w : WorkInFlight) (flying : find (λ v. v.number == number) view.shape.works ≡ Some w) where
  -- the bytes of a write are its copy's
  written_length : (copy : Copy) → at view.shape.copies w.id ≡ Some copy → w.writes ≡ true → length (bytes_at view.contents.bytes w.id) ≡ copy.length
  written_length copy found writes =
      let k = h.kept.shape.each w.id copy found in
      let spilled = k.spilled (find-any (λ v. v.number == number) (λ v. same_id w.id v.id && v.writes) view.shape.works w flying (ap (λ b. b && w.writes) (same_id-itself w.id) ∙ writes)) in
      (h.kept.filled.each w.id copy found).bytes (k.resident ∙ sealed_extent copy.state copy.fetch spilled.0)

  -- without its bytes
  replay_is : (copy : Copy) → at view.shape.copies w.id ≡ Some copy → kept_reply (reply.Work (row_work_given job view w copy)) ≡ reply.Work (replay_state_given view.shape.job w copy)
  replay_is copy found = λ i. reply.Work (record {
    job = record { 0 = sym own i };
    number = w.number;
    kind = if w.writes then kind.Write else kind.Read;
    key = key_of (sym own i) (if w.writes then w.number else unwrap_or copy.backed 0);
    length = copy.length;
    payload = payload_is w.writes refl i;
  })
    where
      payload_is : (b : Bool) → w.writes ≡ b → option_map length (if b then Some (bytes_at view.contents.bytes w.id) else None) ≡ (if b then Some copy.length else None)
      payload_is true is = ap Some (written_length copy found is)
      payload_is false is = refl

  given_is : (o : Option Copy) → at view.shape.copies w.id ≡ o
      → kept_reply (option_map_or reply.Work (option_map (row_work_given job view w) o) reply.NoWork) ≡ option_map_or reply.Work (option_map (replay_state_given view.shape.job w) o) reply.NoWork
  given_is None is = refl
  given_is (Some copy) is = replay_is copy is

-- a view is its own job's
job_shown : (node : Hosted) (job : ℕ) (view : View) → Shows node job view → view.shape.job ≡ job
job_shown node job view h =
    elim (row_at node (record { 0 = job })) as (λ o. IsViewBy node.admissions.greatest (beside_at node job) job view o → view.shape.job ≡ job) [
      | Some row ↦ λ v. ap (λ s. s.job) v.shape ∙ v.own
      | None ↦ λ v. ap (λ (w : View). w.shape.job) v.is
    ] h.by_row

module _ (old : Hosted) (v : ℕ → View) (shows : ShowsAll old v) (kept : (job : ℕ) → IsViewKept (v job)) (first : taken_come_first old.works.works ≡ true) where
  abbrev works : List Queued
  works = old.works.works

  -- the job whose turn it is, by the front of the line
  abbrev turn : Option IoRequest → ℕ
  turn o = option_map_or (λ asked. asked.job.0) o 0

  abbrev due : ℕ → Reply ℕ
  due job = take_due (replay_state_of (v job)) (count (numbered job) works)

  due_by : (job : ℕ) (o : Option WorkInFlight) → slice_get (v job).shape.works (count (numbered job) works) ≡ o
      → due job ≡ option_map_or reply.Work (option_and_then (λ w. option_map (replay_state_given (v job).shape.job w) (at (v job).shape.copies w.id)) o) reply.NoWork
  due_by job o is = ap (λ o. option_map_or reply.Work (option_and_then (λ (w : WorkInFlight). option_map (replay_state_given (v job).shape.job w) (at (v job).shape.copies w.id)) o) reply.NoWork) is

  front_due : (asked : IoRequest) → front_of works ≡ Some asked → kept_reply (option_map_or reply.Work (row_work_of asked.job.0 asked.number (v asked.job.0)) reply.NoWork) ≡ due asked.job.0
  front_due asked front =
      let job : ℕ = asked.job.0 in
      let view : View = v job in
      let w : WorkInFlight = shown asked in
      let here : slice_get view.shape.works (count asked.job works) ≡ Some w = ap (λ ws. slice_get ws (count asked.job works)) (works_shown old job view (shows job)).works ∙ front_at asked works front first in
      let flying = found_at w view.shape.works (count asked.job works) here ((kept job).kept.shape.one_number asked.number) in
      ap (λ o. kept_reply (option_map_or reply.Work (option_and_then (λ (w : WorkInFlight). option_map (row_work_given job view w) (at view.shape.copies w.id)) o) reply.NoWork)) flying
      ∙ given_is job view (kept job) (job_shown old job view (shows job)) asked.number w flying (at view.shape.copies w.id) refl
      ∙ sym (due_by job (Some w) here)

  none_due : (job : ℕ) → front_of works ≡ None → reply.NoWork ≡ due job
  none_due job front = sym (due_by job None (ap (λ ws. slice_get ws (count (numbered job) works)) (works_shown old job (v job) (shows job)).works ∙ none_at (numbered job) works front))

  take_is : kept_reply (take_response works v) ≡ due (job_at works (Own event.Take))
  take_is = by (front_of works) refl
    where
      by : (o : Option IoRequest) → front_of works ≡ o
          → kept_reply (option_map_or (λ asked. option_map_or reply.Work (row_work_of asked.job.0 asked.number (v asked.job.0)) reply.NoWork) o reply.NoWork) ≡ due (turn o)
      by None front = none_due 0 front
      by (Some asked) front = front_due asked front

  -- ---- the entry of an event

  module _ (number : ℕ) (response : Reply (List ℕ)) where
    abbrev Due : Event → Option Judged → Type 0
    Due e was = IsWorkDue (replay_state_of (v (job_at works (Own e)))) (count (numbered (job_at works (Own e))) works) (line.Entry (entry_for number (event_name (Own e)) was response))

    pub event_due : (e : Event) (was : Option Judged) → IsEventAnswer old v e response → (event_input_of e response ≡ None → was ≡ None)
        → ((x : Input) → event_input_of e response ≡ Some x → gives_work (kept_reply response) ≡ false) → Due e was
    event_due (event.Admit job quota key) was is none some = (λ t. true_false t, λ _. gives_none response _ is)
    event_due (event.Requota job quota) was is none some = (λ t. true_false t, λ _. gives_none response _ is)
    event_due (event.JobEnd job) was is none some = (λ t. true_false t, λ _. gives_none response _ is)
    event_due event.Take was is none some = (λ _. (none refl, ap kept_reply is ∙ take_is), λ t. false_true t)
    event_due (event.Finish job n a) was is none some = (λ t. true_false t, λ _. gives_none response _ is)
    event_due (event.Call job session c) was is none some = (λ t. true_false t, λ _. some (input.Call session c) refl)

-- ---- the entry of a message

pub arrival_due : (replay_state : ReplayState) (n number : ℕ) (a : Arrival) (was : Option Judged) (response : Reply (List ℕ)) (o : Option Refusal) → response ≡ answer_of_check o → IsWorkDue replay_state n (line.Entry (entry_for number (arrival_name a) was response))
arrival_due replay_state n number a was response o is = (by a, λ _. gives_none response o is)
  where
    by : {B : Type 0} (a : Arrival) → is_take (arrival_name a) ≡ true → B
    by (arrival.Located id k entries) t = true_false t
    by (arrival.FromPeer from (peer.Pull id k size digest indexes)) t = true_false t
    by (arrival.FromPeer from (peer.Chunk id k index bytes)) t = true_false t
    by (arrival.FromPeer from (peer.NotHere id k)) t = true_false t
