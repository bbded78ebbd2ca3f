-- What came too late, and nothing else, was answered Stale.
use Rattle.std.proofs.Common.{◌≡◌, ℕ, Bool, true, false, not, ◌==◌, List, take, Option, Some, None, is_some, refl, sym, ap, ◌∙◌}
use Rattle.std.specs.Prelude.{option_map}
use Rattle.std.specs.List.{list_any}
use Rattle.obj_id.specs.declared.commands.Reply.{Reply}
use Rattle.obj_id.specs.declared.commands.Reply.TheVariants as reply
use Rattle.obj_id.specs.declared.messages.Arrival.{Arrival}
use Rattle.obj_id.specs.declared.messages.Arrival.TheVariants as arrival
use Rattle.obj_id.specs.declared.messages.PeerMessage.TheVariants as peer
use Rattle.obj_id.specs.declared.refusals.Refusal.TheVariants.{Stale}
use Rattle.private_store.specs.declared.inputs.Input.{Input}
use Rattle.private_store.specs.declared.inputs.Input.TheVariants as input
use Rattle.private_store.specs.declared.inputs.Judged.{Judged}
use Rattle.private_store.specs.declared.schedules.Event.{Event}
use Rattle.private_store.specs.declared.schedules.Event.TheVariants as event
use Rattle.private_store.specs.declared.schedules.NodeEvent.TheVariants.{Own}
use Rattle.private_store.specs.rules.Contents.{View, judge}
use Rattle.private_store.specs.rules.Events.{is_live}
use Rattle.private_store.specs.rules.Private.{view_step}
use Rattle.private_store.specs.rules.Replay.{replay_state_of}
use Rattle.private_store.specs.rules.Shape.{WorkInFlight}
use Rattle.spill_work.specs.declared.queue.Queued.{Queued}
use Rattle.node_core.specs.Hosted.{Hosted, ShowsAll}
use Rattle.node_core.specs.Judged.{arrived}
use Rattle.node_core.specs.OneJob.{event_input_of}
use Rattle.node_core.specs.Steps.{IsEventAnswer, answer_of_check, is_taken, job_at, job_of_event, stale_unless}
use Rattle.node_core.proofs.ForCallers.{works_shown}
use Rattle.node_journal.specs.declared.entries.Entry.{Entry}
use Rattle.node_journal.specs.declared.entries.Line.TheVariants as line
use Rattle.node_journal.specs.Journals.{IsInTime, IsTimely, arrival_name, entry_for, event_name, taken_come_first}
use Rattle.node_journal.specs.Replies.{kept_reply}
use Rattle.node_journal.proofs.TakenLine.{count, out_among}
use Rattle.node_journal.proofs.TakenWorks.{numbered}
use Rattle.node_journal.proofs.TakesMessages.{dead_refuses, live_takes}

-- an entry whose event was in time, or wasn't
timely : (fine : Bool) (entry : Entry) (was : Option Judged) (response : Reply (List ℕ)) → entry.input ≡ was → entry.reply ≡ kept_reply response → (fine ≡ true → is_some was ≡ true)
    → (fine ≡ false → (was ≡ None) × (response ≡ reply.Refused Stale)) → IsTimely (Some (not fine)) entry
timely true entry was response is told fits late = ap is_some is ∙ fits refl
timely false entry was response is told fits late = (is ∙ (late refl).0, told ∙ ap kept_reply (late refl).1)

-- ---- an event

module _ (old : Hosted) (v : ℕ → View) (shows : ShowsAll old v) (first : taken_come_first old.works.works ≡ true) (number : ℕ) (response : Reply (List ℕ)) where
  abbrev works : List Queued
  works = old.works.works

  abbrev among : ℕ → ℕ → Bool
  among job n = list_any (λ (w : WorkInFlight). w.number == n) (take (count (numbered job) works) (v job).shape.works)

  -- the line has the work as taken, if it is among the first of the job's store
  taken_among : (job n : ℕ) → is_taken works job n ≡ among job n
  taken_among job n =
      out_among (numbered job) n works first
      ∙ sym (ap (λ ws. list_any (λ (w : WorkInFlight). w.number == n) (take (count (numbered job) works) ws)) (works_shown old job (v job) (shows job)).works)

  abbrev Timely : Event → Option Judged → Type 0
  Timely e was = IsInTime (replay_state_of (v (job_at works (Own e)))) (count (numbered (job_at works (Own e))) works) (line.Entry (entry_for number (event_name (Own e)) was response))

  pub event_timely : (e : Event) (was : Option Judged) → IsEventAnswer old v e response
      → ((o : Option Input) → event_input_of e response ≡ o → was ≡ option_map (judge old.number (v (job_of_event e))) o) → Timely e was
  event_timely (event.Admit job quota key) was is word = tt
  event_timely (event.Requota job quota) was is word = tt
  event_timely (event.JobEnd job) was is word = tt
  event_timely event.Take was is word = tt
  event_timely (event.Finish job n a) was is word = timely (among job.0 n) _ was response refl refl fits late
    where
      told : (fine : Bool) → among job.0 n ≡ fine → response ≡ answer_of_check (stale_unless fine)
      told fine h = is ∙ ap (λ b. answer_of_check (stale_unless b)) (taken_among job.0 n ∙ h)

      fits : among job.0 n ≡ true → is_some was ≡ true
      fits h = ap is_some (word (Some (input.Answer n a)) (ap (event_input_of (event.Finish job n a)) (told true h)))

      late : among job.0 n ≡ false → (was ≡ None) × (response ≡ reply.Refused Stale)
      late h = (word None (ap (event_input_of (event.Finish job n a)) (told false h)), told false h)
  event_timely (event.Call job session c) was is word = tt

-- ---- a message

module _ (node : ℕ) (view : View) (a : Arrival) (was : Option Judged) (response : Reply (List ℕ)) (is : response ≡ (view_step node view (input.Arrive a)).reply)
    (word : (told : Reply (List ℕ)) → response ≡ told → was ≡ option_map (judge node view) (arrived a told)) where
  fits : is_live view.shape ≡ true → is_some was ≡ true
  fits live = ap is_some (word reply.Ok (is ∙ live_takes node view a live))

  late : is_live view.shape ≡ false → (was ≡ None) × (response ≡ reply.Refused Stale)
  late dead = let stale = is ∙ dead_refuses node view a dead in (word (reply.Refused Stale) stale, stale)

  pub arrival_timely : (taken number : ℕ) → IsInTime (replay_state_of view) taken (line.Entry (entry_for number (arrival_name a) was response))
  arrival_timely taken number = by a (timely (is_live view.shape) (entry_for number (arrival_name a) was response) was response refl refl fits late)
    where
      by : (b : Arrival) → IsTimely (Some (not (is_live view.shape))) (entry_for number (arrival_name b) was response) → IsInTime (replay_state_of view) taken (line.Entry (entry_for number (arrival_name b) was response))
      by (arrival.Located id k entries) h = h
      by (arrival.FromPeer from (peer.Pull id k n digest indexes)) h = h
      by (arrival.FromPeer from (peer.Chunk id k index bytes)) h = h
      by (arrival.FromPeer from (peer.NotHere id k)) h = h
