-- A step and the works that are taken: what the line has of each job afterwards is what its journal tells.
use Rattle.std.proofs.Common.{◌≡◌, ℕ, ◌+◌, ◌-◌, ◌≤◌, suc, Bool, true, false, not, cond, ◌==◌, ◌&&◌, List, [], ◌∷◌, ◌++◌, map, filter, length, Option, Some, None, is_some, refl, sym, ap, subst, ◌∙◌, arith}
use Rattle.std.specs.Prelude.{if◌then◌else◌, option_map}
use Rattle.std.specs.Option.{option_map_or, option_and_then}
use Rattle.std.specs.List.{find}
use Rattle.std.proofs.lemmas.Bool.Decides.{nat_tests}
use Rattle.obj_id.specs.declared.ids.JobNo.{JobNo}
use Rattle.obj_id.specs.declared.commands.Reply.{Reply}
use Rattle.obj_id.specs.declared.commands.Reply.TheVariants as reply
use Rattle.obj_id.specs.declared.messages.Arrival.{Arrival}
use Rattle.obj_id.specs.declared.messages.Arrival.TheVariants as arrival
use Rattle.obj_id.specs.declared.messages.PeerMessage.TheVariants as peer
use Rattle.obj_id.specs.declared.refusals.Refusal.{Refusal}
use Rattle.obj_id.specs.declared.refusals.Refusal.TheVariants.{NotAdmitted}
use Rattle.obj_id.specs.declared.works.DeviceAnswer.{DeviceAnswer}
use Rattle.obj_id.specs.declared.works.Work.{Work}
use Rattle.private_store.specs.declared.inputs.Input.TheVariants as input
use Rattle.private_store.specs.declared.inputs.Judged.{Judged}
use Rattle.private_store.specs.declared.schedules.Event.{Event}
use Rattle.private_store.specs.declared.schedules.Event.TheVariants as event
use Rattle.private_store.specs.declared.schedules.NodeEvent.TheVariants.{Own, Arrive}
use Rattle.private_store.specs.rules.Tables.{at}
use Rattle.private_store.specs.rules.Shape.{Copy, WorkInFlight}
use Rattle.private_store.specs.rules.Contents.{View, judge}
use Rattle.private_store.specs.laws.NodeInputs.{JobInput, own_here}
use Rattle.private_store.specs.rules.Private.{view_step}
use Rattle.store_facts.proofs.KeptLists.{find-passes}
use Rattle.store_facts.proofs.Tests.{none_some, some_value}
use Rattle.spill_work.specs.declared.queue.IoRequest.{IoRequest}
use Rattle.spill_work.specs.declared.queue.Queued.{Queued}
use Rattle.spill_work.specs.Line.{same_work_job, is_of, is_at, front_of}
use Rattle.node_core.specs.Hosted.{Hosted, ShowsAll}
use Rattle.node_core.specs.OneJob.{event_input_of}
use Rattle.node_core.specs.Steps.{NodeGiven, JobJudged, NodeStepFrom, IsEventAnswer, before_of, job_of_event, job_at, is_taken, taken_if, line_left, asked_now, answer_of_check, requota_check, stale_unless, row_work_given, row_work_of}
use Rattle.node_core.proofs.ForCallers.{works_shown, one_each}
use Rattle.job_admission.specs.Admissions.{admit_check, live_at}
use Rattle.node_journal.specs.declared.entries.EventName.{EventName}
use Rattle.node_journal.specs.declared.entries.Line.{Line}
use Rattle.node_journal.specs.declared.entries.Line.TheVariants as line
use Rattle.node_journal.specs.Journals.{Journal, entry_for, notes_for, lines_made, taken_after, taken_from, taken_of, taken_come_first, with_lines, folded_if}
use Rattle.node_journal.proofs.TakenLine.{count, are_untaken, count_more, first_more, queued_untaken, first_left, others_left, none_left, stays, one_less, others_keep, first_marked, one_more, others_unmarked}

abbrev pub numbered : ℕ → JobNo
numbered job = record { 0 = job }

-- after a step whose entry is this and stands under the job of this number
pub record KeepsTaken (before after : List Queued) (own : ℕ) (made : Line) : Type 0 where
  pub first : taken_come_first before ≡ true → taken_come_first after ≡ true
  pub counts : (job : ℕ) → count (numbered job) after ≡ (if own == job then taken_after (count (numbered job) before) made else count (numbered job) before)

same_line : (works : List Queued) (own : ℕ) (made : Line) → ((n : ℕ) → taken_after n made ≡ n) → KeepsTaken works works own made
same_line works own made keep = record { first = λ h. h; counts = λ job. by job (own == job) }
  where
    by : (job : ℕ) (b : Bool) → count (numbered job) works ≡ cond b (taken_after (count (numbered job) works) made) (count (numbered job) works)
    by job true = sym (keep (count (numbered job) works))
    by job false = refl

-- of one job in this way, and of no other
of_one : (own : JobNo) (before after : JobNo → ℕ) (next : ℕ → ℕ) → after own ≡ next (before own) → ((other : JobNo) → same_work_job own other ≡ false → after other ≡ before other)
    → (job : ℕ) → after (numbered job) ≡ (if own.0 == job then next (before (numbered job)) else before (numbered job))
of_one own before after next mine others job = by (own.0 == job) refl
  where
    same : (a b : ℕ) → (a == b) ≡ true → a ≡ b
    same a b h = grind (arith, nat_tests, h)

    by : (b : Bool) → (own.0 == job) ≡ b → after (numbered job) ≡ cond b (next (before (numbered job))) (before (numbered job))
    by true is = subst (λ k. after (numbered k) ≡ next (before (numbered k))) (same own.0 job is) mine
    by false is = others (numbered job) is

-- works that are asked for
and_asked : (before left asked : List Queued) (own : ℕ) (made : Line) → KeepsTaken before left own made → are_untaken asked ≡ true → KeepsTaken before (left ++ asked) own made
and_asked before left asked own made h none = record {
  first = λ f. first_more left asked (h.first f) none;
  counts = λ job. count_more (numbered job) left asked none ∙ h.counts job;
}

-- ---- the work that a Take gives

module _ (job number : ℕ) (view : View) (work : Work (List ℕ)) where
  abbrev is_numbered : WorkInFlight → Bool
  is_numbered w = w.number == number

  same_number : (n : ℕ) → (n == number) ≡ true → n ≡ number
  same_number n h = grind (arith, nat_tests, h)

  work_is : row_work_of job number view ≡ Some work → (work.job ≡ numbered job) × (work.number ≡ number)
  work_is is = by (find is_numbered view.shape.works) refl is
    where
      given : (w : WorkInFlight) → is_numbered w ≡ true → (o : Option Copy) → option_map (row_work_given job view w) o ≡ Some work → (work.job ≡ numbered job) × (work.number ≡ number)
      given w found None is = none_some work is
      given w found (Some copy) is =
          let e : row_work_given job view w copy ≡ work = some_value (row_work_given job view w copy) work is in
          (sym (ap (λ (x : Work (List ℕ)). x.job) e), sym (ap (λ (x : Work (List ℕ)). x.number) e) ∙ same_number w.number found)

      by : (o : Option WorkInFlight) → find is_numbered view.shape.works ≡ o
          → option_and_then (λ w. option_map (row_work_given job view w) (at view.shape.copies w.id)) o ≡ Some work → (work.job ≡ numbered job) × (work.number ≡ number)
      by None found is = none_some work is
      by (Some w) found is = given w (find-passes is_numbered view.shape.works w found) (at view.shape.copies w.id) is

-- ---- what leaves the line

module _ (old : Hosted) (v : ℕ → View) (shows : ShowsAll old v) (number : ℕ) (named : EventName) where
  abbrev works : List Queued
  works = old.works.works

  few : (job : JobNo) (n : ℕ) → length (filter (is_at job n) works) ≤ 1
  few job n =
      let each = one_each job n works in
      let one = (works_shown old job.0 (v job.0) (shows job.0)).one n in
      omega (arith, each, one)

  abbrev Leaves : Event → Reply (List ℕ) → Option Judged → Type 0
  Leaves e response was = KeepsTaken works (line_left works (Own e) response) (job_at works (Own e)) (line.Entry (entry_for number named was response))

  -- what an event with this answer is to its job
  abbrev pub word : Event → Reply (List ℕ) → Option Judged
  word e response = option_map (judge old.number (v (job_of_event e))) (event_input_of e response)

  -- a Take
  taken_so : (asked : IoRequest) (work : Work (List ℕ)) → front_of works ≡ Some asked → row_work_of asked.job.0 asked.number (v asked.job.0) ≡ Some work → Leaves event.Take (reply.Work work) None
  taken_so asked work front is =
      let given = work_is asked.job.0 asked.number (v asked.job.0) work is in
      let once = few asked.job asked.number in
      let own : job_at works (Own event.Take) ≡ asked.job.0 = ap (λ o. option_map_or (λ (a : IoRequest). a.job.0) o 0) front in
      subst (λ k. KeepsTaken works (line_left works (Own event.Take) (reply.Work work)) k (line.Entry (entry_for number named None (reply.Work work)))) (sym own)
      (subst (λ left. KeepsTaken works left asked.job.0 (line.Entry (entry_for number named None (reply.Work work)))) (λ i. map (taken_if (sym (given.0) i) (sym (given.1) i)) works)
      (record {
        first = first_marked asked works front once;
        counts = of_one asked.job (λ k. count k works) (λ k. count k (map (taken_if asked.job asked.number) works)) (λ n. n + 1) (one_more asked works front once ∙ plus_one (count asked.job works))
            (λ other apart. others_unmarked asked other works apart);
      }))
    where
      plus_one : (n : ℕ) → suc n ≡ n + 1
      plus_one n = omega arith

  take_leaves : (response : Reply (List ℕ)) → IsEventAnswer old v event.Take response → Leaves event.Take response None
  take_leaves response is = subst (λ t. Leaves event.Take t None) (sym is) (by (front_of works) refl)
    where
      nothing : Leaves event.Take reply.NoWork None
      nothing = same_line works (job_at works (Own event.Take)) (line.Entry (entry_for number named None reply.NoWork)) (λ n. refl)

      given : (asked : IoRequest) → front_of works ≡ Some asked → (o : Option (Work (List ℕ))) → row_work_of asked.job.0 asked.number (v asked.job.0) ≡ o → Leaves event.Take (option_map_or reply.Work o reply.NoWork) None
      given asked front None is = nothing
      given asked front (Some work) is = taken_so asked work front is

      by : (o : Option IoRequest) → front_of works ≡ o
          → Leaves event.Take (option_map_or (λ asked. option_map_or reply.Work (row_work_of asked.job.0 asked.number (v asked.job.0)) reply.NoWork) o reply.NoWork) None
      by None front = nothing
      by (Some asked) front = given asked front (row_work_of asked.job.0 asked.number (v asked.job.0)) refl

  -- a device's answer
  finish_leaves : (job : JobNo) (n : ℕ) (a : DeviceAnswer) (response : Reply (List ℕ)) → IsEventAnswer old v (event.Finish job n a) response → Leaves (event.Finish job n a) response (word (event.Finish job n a) response)
  finish_leaves job n a response is = subst (λ t. Leaves e t (word e t)) (sym is) (by (is_taken works job.0 n) refl)
    where
      e : Event
      e = event.Finish job n a

      one_off : (k m : ℕ) → suc k ≡ m → k ≡ m - 1
      one_off k m h = omega (arith, h)

      by : (out : Bool) → is_taken works job.0 n ≡ out → Leaves (event.Finish job n a) (answer_of_check (stale_unless out)) (word (event.Finish job n a) (answer_of_check (stale_unless out)))
      by true out = record {
        first = first_left (λ w. not (is_at job n w && w.taken)) works;
        counts = of_one job (λ k. count k works) (λ k. count k (filter (λ w. not (is_at job n w && w.taken)) works)) (λ m. m - 1)
            (one_off _ _ (one_less job n works out (few job n)))
            (λ other apart. others_keep job n other works apart);
      }
      by false out =
          let made : Line = line.Entry (entry_for number named None (answer_of_check (stale_unless false))) in
          subst (λ left. KeepsTaken works left job.0 made) (sym (stays job n works out)) (same_line works job.0 made (λ m. refl))

  -- the end of a job
  end_leaves : (job : JobNo) (response : Reply (List ℕ)) → IsEventAnswer old v (event.JobEnd job) response → Leaves (event.JobEnd job) response (word (event.JobEnd job) response)
  end_leaves job response is = subst (λ t. Leaves (event.JobEnd job) t (word (event.JobEnd job) t)) (sym is) (by (is_some (live_at old.admissions job)))
    where
      differ : (a b c : ℕ) → (a == b) ≡ false → (b == c) ≡ true → (a == c) ≡ false
      differ a b c h k = grind (arith, nat_tests, h, k)

      by : (live : Bool) → Leaves (event.JobEnd job) (answer_of_check (if live then None else Some NotAdmitted)) (word (event.JobEnd job) (answer_of_check (if live then None else Some NotAdmitted)))
      by true = record {
        first = first_left (λ w. not (is_of job w)) works;
        counts = of_one job (λ k. count k works) (λ k. count k (filter (λ w. not (is_of job w)) works)) (λ m. 0) (none_left job works)
            (λ other apart. others_left (λ w. not (is_of job w)) other works (λ w of. ap not (differ job.0 other.0 w.asked.job.0 apart of)));
      }
      by false = same_line works job.0 (line.Entry (entry_for number named None (reply.Refused NotAdmitted))) (λ m. refl)

  leaves : (e : Event) (response : Reply (List ℕ)) → IsEventAnswer old v e response → Leaves e response (word e response)
  leaves (event.Admit job quota key) response is = subst (λ t. Leaves (event.Admit job quota key) t (word (event.Admit job quota key) t)) (sym is) (by (admit_check old.admissions job quota))
    where
      by : (o : Option Refusal) → Leaves (event.Admit job quota key) (answer_of_check o) (word (event.Admit job quota key) (answer_of_check o))
      by None = same_line works job.0 _ (λ n. refl)
      by (Some r) = same_line works job.0 _ (λ n. refl)
  leaves (event.Requota job quota) response is = subst (λ t. Leaves (event.Requota job quota) t (word (event.Requota job quota) t)) (sym is) (by (requota_check old.admissions (v job.0) job quota))
    where
      by : (o : Option Refusal) → Leaves (event.Requota job quota) (answer_of_check o) (word (event.Requota job quota) (answer_of_check o))
      by None = same_line works job.0 _ (λ n. refl)
      by (Some r) = same_line works job.0 _ (λ n. refl)
  leaves (event.JobEnd job) response is = end_leaves job response is
  leaves event.Take response is = take_leaves response is
  leaves (event.Finish job n a) response is = finish_leaves job n a response is
  leaves (event.Call job session c) response is = same_line works job.0 _ (λ n. refl)

  asked_untaken : (o : Option JobInput) → are_untaken (asked_now old.number v o) ≡ true
  asked_untaken None = refl
  asked_untaken (Some x) = queued_untaken x.job (view_step old.number (v x.job) x.input).works

  -- a step
  pub step_keeps : (e : Event) (given : NodeGiven) (new : Hosted) → NodeStepFrom old v (Own e) given new → (was : Option Judged) → was ≡ word e given.reply
      → KeepsTaken works new.works.works (job_at works (Own e)) (line.Entry (entry_for number named was given.reply))
  step_keeps e given new from was is =
      let made : Line = line.Entry (entry_for number named was given.reply) in
      subst (λ after. KeepsTaken works after (job_at works (Own e)) made) (sym from.line)
      (and_asked works (line_left works (Own e) given.reply) (asked_now old.number v (own_here (before_of old v) (Own e) given.reply)) (job_at works (Own e)) made
      (subst (Leaves e given.reply) (sym is) (leaves e given.reply from.operator))
      (asked_untaken (own_here (before_of old v) (Own e) given.reply)))

  -- a message takes no work and ends none
  message_keeps : (view : View) (a : Arrival) (n : ℕ) (response : Reply (List ℕ)) → taken_after n (line.Entry (entry_for number named (Some (judge old.number view (input.Arrive a))) response)) ≡ n
  message_keeps view (arrival.Located id k entries) n response = refl
  message_keeps view (arrival.FromPeer from (peer.Pull id k size digest indexes)) n response = refl
  message_keeps view (arrival.FromPeer from (peer.Chunk id k index bytes)) n response = refl
  message_keeps view (arrival.FromPeer from (peer.NotHere id k)) n response = refl

  pub arrival_keeps : (to : JobNo) (a : Arrival) (given : NodeGiven) (new : Hosted) → NodeStepFrom old v (Arrive to a) given new → (was : Option Judged) → was ≡ Some (judge old.number (v to.0) (input.Arrive a))
      → KeepsTaken works new.works.works to.0 (line.Entry (entry_for number named was given.reply))
  arrival_keeps to a given new from was is =
      let made : Line = line.Entry (entry_for number named was given.reply) in
      subst (λ after. KeepsTaken works after to.0 made) (sym from.line)
      (and_asked works works (asked_now old.number v (own_here (before_of old v) (Arrive to a) given.reply)) to.0 made
      (same_line works to.0 made (λ n. ap (λ w. taken_after n (line.Entry (entry_for number named w given.reply))) is ∙ message_keeps (v to.0) a n given.reply))
      (asked_untaken (own_here (before_of old v) (Arrive to a) given.reply)))

-- one that came too late
pub stale_keeps : (works : List Queued) (own number : ℕ) (named : EventName) (was : Option Judged) (response : Reply (List ℕ)) (r : Refusal) → was ≡ None → response ≡ reply.Refused r
    → KeepsTaken works works own (line.Entry (entry_for number named was response))
stale_keeps works own number named was response r none refused = same_line works own (line.Entry (entry_for number named was response)) (λ n i. taken_after n (line.Entry (entry_for number named (none i) (refused i))))

-- ---- what a journal tells

from-append : (n : ℕ) (ls more : List Line) → taken_from n (ls ++ more) ≡ taken_from (taken_from n ls) more
from-append n [] more = refl
from-append n (l ∷ ls) more = from-append (taken_after n l) ls more

notes_keep : (n number job : ℕ) (notes : List JobJudged) → taken_from n (notes_for number notes job) ≡ n
notes_keep n number job notes = by (filter (λ (note : JobJudged). note.job == job) notes)
  where
    by : (xs : List JobJudged) → taken_from n (map (λ (note : JobJudged). line.Note number note.input) xs) ≡ n
    by [] = refl
    by (x ∷ xs) = by xs

taken_made : (j : Journal) (number own job : ℕ) (named : EventName) (was : Option Judged) (given : NodeGiven)
    → taken_of (with_lines j (lines_made number named own was given job)) ≡ (if own == job then taken_after (taken_of j) (line.Entry (entry_for number named was given.reply)) else taken_of j)
taken_made j number own job named was given = from-append j.base.taken j.list (lines_made number named own was given job) ∙ by (own == job)
  where
    made : Line
    made = line.Entry (entry_for number named was given.reply)

    by : (b : Bool) → taken_from (taken_of j) (cond b (line.Entry (entry_for number named was given.reply) ∷ []) [] ++ notes_for number given.notes job) ≡ cond b (taken_after (taken_of j) (line.Entry (entry_for number named was given.reply))) (taken_of j)
    by true = notes_keep (taken_after (taken_of j) made) number job given.notes
    by false = notes_keep (taken_of j) number job given.notes

-- the journals tell of what the line has
pub next_taken : (before after : List Queued) (number own job : ℕ) (named : EventName) (was : Option Judged) (given : NodeGiven) (j next : Journal) → KeepsTaken before after own (line.Entry (entry_for number named was given.reply))
    → next ≡ with_lines j (lines_made number named own was given job) → taken_of j ≡ count (numbered job) before → taken_of next ≡ count (numbered job) after
next_taken before after number own job named was given j next keeps is h =
    ap taken_of is ∙ taken_made j number own job named was given
    ∙ ap (λ n. if own == job then taken_after n (line.Entry (entry_for number named was given.reply)) else n) h
    ∙ sym (keeps.counts job)

-- folding keeps that
pub folded_taken : (b : Bool) (j : Journal) → taken_of (folded_if b j) ≡ taken_of j
folded_taken true j = refl
folded_taken false j = refl
