-- What a run's journal has of its steps: entries and notes, newest first.
use Rattle.std.specs.Prelude.{ℕ, Bool, true, false, if◌then◌else◌, List, [], ◌∷◌, Option, Some, None, option_map, ⊤}
use Rattle.obj_id.specs.declared.ids.JobNo.{JobNo}
use Rattle.obj_id.specs.declared.commands.Reply.{Reply}
use Rattle.obj_id.specs.declared.commands.Reply.TheVariants as reply
use Rattle.obj_id.specs.declared.messages.Location.{Location}
use Rattle.obj_id.specs.declared.messages.Message.TheVariants as message
use Rattle.obj_id.specs.declared.messages.Endpoint.TheVariants as place
use Rattle.private_store.specs.declared.inputs.Judged.{Judged}
use Rattle.private_store.specs.declared.inputs.Judged.TheVariants as judged
use Rattle.private_store.specs.declared.schedules.Event.{Event}
use Rattle.private_store.specs.declared.schedules.Event.TheVariants as event
use Rattle.private_store.specs.declared.schedules.Step.{Step}
use Rattle.private_store.specs.declared.schedules.Step.TheVariants.{At, Deliver}
use Rattle.private_store.specs.declared.schedules.StepAnswer.{StepAnswer}
use Rattle.private_store.specs.declared.schedules.StepAnswer.TheVariants.{Response, HandedOver, NoMessage}
use Rattle.private_store.specs.laws.Answers.{reply_without_payload, wants_memory}
use Rattle.schedule_text.specs.declared.lines.JobAt.{JobAt}
use Rattle.journal_text.specs.declared.entry.LineInput.{LineInput}
use Rattle.journal_text.specs.declared.entry.LineInput.TheVariants as line
use Rattle.journal_text.specs.declared.saved.JournalItem.{JournalItem}
use Rattle.journal_text.specs.Saved.{Saved, IsSaved}
use Rattle.schedule_runs.specs.declared.journal.Keep.{Keep}
use Rattle.schedule_runs.specs.declared.journal.Keep.TheVariants.{Journal, Nothing}
use Rattle.node_core.specs.declared.outcome.Note.{Note}
use Rattle.node_core.specs.Steps.{job_of_event}

-- ---- where an entry stands

-- the job under which an event is kept: that of the work that a Take gave, and 0 if it gave none
abbrev pub kept_under : Event → Reply (List ℕ) → JobNo
kept_under event.Take (reply.Work work) = work.job
kept_under e response = record { 0 = job_of_event e }

-- of a delivery to a node there is an entry, but if nothing was sent, or it was out of memory
abbrev pub is_taken_in : StepAnswer → Bool
is_taken_in (Response response) = if wants_memory response then false else true
is_taken_in (HandedOver m) = true
is_taken_in NoMessage = false

-- the job at its node under which a step is kept, if it makes an entry
abbrev pub entry_place : Step → StepAnswer → Option JobAt
entry_place (At node e) (Response response) = if wants_memory response then None else Some (record { node = node; job = kept_under e response })
entry_place (At node e) _ = None
entry_place (Deliver job from (place.Node node) m damage) answer = if is_taken_in answer then Some (record { node = node; job = job }) else None
entry_place (Deliver job from place.Directory m damage) answer = None

-- ---- what its line says

-- the entries of the directory's message that was handed over
abbrev pub located_entries : StepAnswer → List Location
located_entries (HandedOver (message.Located id number entries)) = entries
located_entries _ = []

-- an input without contents, where these are the entries of the directory's message
abbrev pub input_said : List Location → Judged → LineInput
input_said entries (judged.Begin quota) = line.Begin quota
input_said entries (judged.Requota quota) = line.Requota quota
input_said entries (judged.Call session c) = line.Call session c
input_said entries (judged.Answer number verdict) = line.Answer number verdict
input_said entries (judged.Located id number source) = line.Located id number entries
input_said entries (judged.Chunk id number index from verdict) = line.Chunk id number index from verdict
input_said entries (judged.Pull id number matched) = line.Pull id number matched
input_said entries (judged.NotHere id number from) = line.NotHere id number from
input_said entries (judged.Received id length grantor depth) = line.Received id length grantor depth
input_said entries (judged.Withdrawn id grantor depth) = line.Withdrawn id grantor depth
input_said entries judged.End = line.End

-- an answer without contents; what was handed over is answered ok
abbrev pub reply_said : StepAnswer → Reply ℕ
reply_said (Response response) = reply_without_payload response
reply_said (HandedOver m) = reply.Ok
reply_said NoMessage = reply.Ok

-- ---- the entry and the notes of a step

-- what a step was to the jobs, without contents: to its own, and to the grantees
pub record SavedStep : Type 0 where
  pub judged : Option Judged
  pub notes : List Note

abbrev pub note_mark : ℕ → Note → JournalItem
note_mark node note =
    record { place = record { node = node; job = note.job }; line = Some (record { input = input_said [] note.input; reply = reply.Ok }) }

abbrev pub with_notes : ℕ → List Note → List JournalItem → List JournalItem
with_notes node [] marks = marks
with_notes node (note ∷ notes) marks = with_notes node notes (note_mark node note ∷ marks)

abbrev pub entry_mark : JobAt → StepAnswer → Option Judged → JournalItem
entry_mark at answer was =
    record { place = at; line = option_map (λ x. record { input = input_said (located_entries answer) x; reply = reply_said answer }) was }

abbrev pub with_entry_item : Option JobAt → StepAnswer → SavedStep → List JournalItem → List JournalItem
with_entry_item None answer kept marks = marks
with_entry_item (Some at) answer kept marks = with_notes at.node kept.notes (entry_mark at answer kept.judged ∷ marks)

-- with those of one step more
abbrev pub with_step : Step → StepAnswer → SavedStep → List JournalItem → List JournalItem
with_step step answer kept marks = with_entry_item (entry_place step answer) answer kept marks

-- ---- the journal, if one is asked for

abbrev pub is_asked : Keep → Bool
is_asked Journal = true
is_asked Nothing = false

-- it has these entries and notes
abbrev pub IsSavedStep : Bool → Option Saved → List JournalItem → Type 0
IsSavedStep false None marks = ⊤
IsSavedStep true (Some saved) marks = IsSaved saved marks
IsSavedStep _ _ marks = ⊥

-- it has the entry and the notes of one step more
abbrev pub KeepsStep : Option Saved → Step → StepAnswer → SavedStep → Option Saved → Type 0
KeepsStep old step answer kept new = (asked : Bool) (marks : List JournalItem) → IsSavedStep asked old marks → IsSavedStep asked new (with_step step answer kept marks)
