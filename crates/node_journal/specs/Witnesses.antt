-- What a receipt says of an answer.
use Rattle.std.specs.Prelude.{◌≡◌, ℕ, true, false, List, Some, ⊤}
use Rattle.obj_id.specs.declared.ids.JobNo.{JobNo}
use Rattle.obj_id.specs.declared.commands.Command.{Command}
use Rattle.obj_id.specs.declared.commands.Reply.{Reply}
use Rattle.obj_id.specs.declared.messages.Arrival.{Arrival}
use Rattle.private_store.specs.declared.inputs.Judged.TheVariants as judged
use Rattle.private_store.specs.declared.schedules.Event.{Event}
use Rattle.private_store.specs.declared.schedules.Event.TheVariants as event
use Rattle.private_store.specs.declared.schedules.NodeEvent.TheVariants.{Own, Arrive}
use Rattle.private_store.specs.laws.Answers.{wants_memory}
use Rattle.private_store.specs.rules.Contents.{without_payload}
use Rattle.node_core.specs.Steps.{job_of_event}
use Rattle.node_journal.specs.declared.entries.Entry.{Entry}
use Rattle.node_journal.specs.declared.entries.EventName.TheVariants as name
use Rattle.node_journal.specs.declared.entries.Receipt.{Receipt}
use Rattle.node_journal.specs.Journals.{event_name}
use Rattle.node_journal.specs.Posts.{is_entered}
use Rattle.node_journal.specs.Replies.{kept_reply}

-- what a receipt tells of its step: the job under which its entry is kept, the entry, and the whole event and answer, with all contents
pub record Witness : Type 0 where
  pub job : JobNo
  pub entry : Entry
  -- of one that is no arrival
  pub asked : Event
  pub whole : Reply (List ℕ)

abbrev pub witness_of : {L : Type 0} → Receipt L → Witness
witness_of receipt = record { job = receipt.job; entry = receipt.entry; asked = receipt.asked.value; whole = receipt.whole.value }

-- whether the entry of an event may stand under the job of this number: a Take's stands under the job whose work it gives
abbrev pub IsUnder : ℕ → Event → Type 0
IsUnder job event.Take = ⊤
IsUnder job e = job ≡ job_of_event e

-- the step is of this job, session and command, and has this answer, with all that both carry; the entry has them without contents
pub record IsCalled (job : JobNo) (session : ℕ) (c : Command (List ℕ)) (response : Reply (List ℕ)) (witness : Witness) : Type 0 where
  pub of_job : witness.job ≡ job
  pub named : witness.entry.event ≡ name.Call session
  pub input : witness.entry.input ≡ Some (judged.Call session (without_payload c))
  pub answer : witness.entry.reply ≡ kept_reply response
  pub asked : witness.asked ≡ event.Call job session c
  pub whole : witness.whole ≡ response

-- the step is of this event, and has this answer: the entry stands under the event's job, or under that whose work a Take gives
pub record IsReceiptOf (e : Event) (response : Reply (List ℕ)) (witness : Witness) : Type 0 where
  pub of_job : IsUnder witness.job.0 e
  pub named : witness.entry.event ≡ event_name (Own e)
  pub answer : witness.entry.reply ≡ kept_reply response
  pub asked : witness.asked ≡ e
  pub whole : witness.whole ≡ response

-- of a session's command more is said: of its session and the command, and that the answer isn't out of memory
abbrev pub IsCalledBy : Event → Reply (List ℕ) → Witness → Type 0
IsCalledBy (event.Call job session c) response witness = (wants_memory response ≡ false) × IsCalled job session c response witness
IsCalledBy e response witness = ⊤

-- the entry is of this message of the job
pub record IsArrived (job : JobNo) (a : Arrival) (witness : Witness) : Type 0 where
  pub of_job : witness.job ≡ job
  pub named : witness.entry.event ≡ event_name (Arrive job a)
  pub response : Reply (List ℕ)
  pub answer : witness.entry.reply ≡ kept_reply response
  pub whole : witness.whole ≡ response
  pub input : is_entered a response witness.entry.input ≡ true
