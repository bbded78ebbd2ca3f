-- What a journal tells of its node.
use Rattle.std.specs.Prelude.{◌≡◌, ◌⊎◌, ℕ, ◌+◌, ◌-◌, ◌==◌, nat_lt, nat_le, Bool, true, false, not, ◌&&◌, if◌then◌else◌, List, [], ◌∷◌, ◌++◌, length, map, filter, count_by, slice_get, take, Option, Some, None, is_some, unwrap_or, option_map, option_to_list}
use Rattle.std.specs.List.{list_all, list_any}
use Rattle.std.specs.Option.{option_map_or, option_and_then}
use Rattle.obj_id.specs.declared.ids.JobNo.{JobNo}
use Rattle.obj_id.specs.declared.messages.Arrival.{Arrival}
use Rattle.obj_id.specs.declared.messages.Arrival.TheVariants as arrival
use Rattle.obj_id.specs.declared.messages.PeerMessage.TheVariants as peer
use Rattle.obj_id.specs.declared.commands.Reply.{Reply}
use Rattle.obj_id.specs.declared.commands.Reply.TheVariants as reply
use Rattle.obj_id.specs.declared.refusals.Refusal.TheVariants.{Stale}
use Rattle.obj_id.specs.declared.works.Work.{Work}
use Rattle.obj_id.specs.declared.works.WorkKind.TheVariants as kind
use Rattle.private_store.specs.declared.inputs.Judged.{Judged}
use Rattle.private_store.specs.declared.inputs.Judged.TheVariants as judged
use Rattle.private_store.specs.declared.schedules.Event.{Event}
use Rattle.private_store.specs.declared.schedules.Event.TheVariants as event
use Rattle.private_store.specs.declared.schedules.NodeEvent.{NodeEvent}
use Rattle.private_store.specs.declared.schedules.NodeEvent.TheVariants.{Own, Arrive}
use Rattle.private_store.specs.rules.Tables.{at}
use Rattle.private_store.specs.rules.Shape.{Copy, WorkInFlight}
use Rattle.private_store.specs.rules.Contents.{View}
use Rattle.private_store.specs.rules.Events.{is_live}
use Rattle.private_store.specs.rules.Private.{key_of}
use Rattle.private_store.specs.rules.Grants.{StandingGrant}
use Rattle.plain_store.specs.Parts.{has_begun}
use Rattle.job_admission.specs.Admissions.{live_at}
use Rattle.spill_work.specs.declared.queue.Queued.{Queued}
use Rattle.spill_work.specs.Line.{works_taken_by}
use Rattle.private_store.specs.laws.Invariants.{IsViewKept}
use Rattle.private_store.specs.rules.Replay.{ReplayState, Line as Replayed, unbegun_replay, replayed, answers_due, replay_state_of}
use Rattle.node_core.specs.Hosted.{Hosted, ShowsAll}
use Rattle.node_core.specs.Foreseen.{grantees_of}
use Rattle.node_core.specs.Steps.{NodeGiven, JobJudged, job_at}
use Rattle.node_journal.specs.declared.folding.Base.{Base}
use Rattle.node_journal.specs.declared.entries.Entry.{Entry}
use Rattle.node_journal.specs.declared.entries.EventName.{EventName}
use Rattle.node_journal.specs.declared.entries.EventName.TheVariants as name
use Rattle.node_journal.specs.declared.entries.Agreement.{Agreement}
use Rattle.node_journal.specs.declared.entries.Agreement.TheVariants as agree
use Rattle.node_journal.specs.declared.entries.Line.{Line}
use Rattle.node_journal.specs.declared.entries.Line.TheVariants as line
use Rattle.node_journal.specs.contracts.entries.EntryPartialEq.TheImpl.{ghosts as equal}
use Rattle.node_journal.specs.Replies.{unlisted, kept_reply}

-- ---- a job's journal

pub record Journal : Type 0 where
  -- the store without contents as it was after what was folded, and how many of its works were taken
  pub base : Base
  -- the number of the step that the last folded line is of, notes that were settled aside, or 0
  pub covered : ℕ
  -- what came after it, oldest first
  pub list : List Line

-- of a job that no step was of
abbrev pub fresh : ℕ → Journal
fresh job = record { base = record { store = unbegun_replay job; taken = 0 }; covered = 0; list = [] }

-- the lines that a list has at most
abbrev pub most_lines : ℕ
most_lines = 8192

-- ---- what a step adds

-- a message without its contents
abbrev pub arrival_name : Arrival → EventName
arrival_name (arrival.Located id fetch entries) = name.Located id fetch
arrival_name (arrival.FromPeer from (peer.Pull id fetch size digest indexes)) = name.Pull from id fetch
arrival_name (arrival.FromPeer from (peer.Chunk id fetch index bytes)) = name.Chunk from id fetch index
arrival_name (arrival.FromPeer from (peer.NotHere id fetch)) = name.NotHere from id fetch

-- an event without its contents, its job and its key
abbrev pub event_name : NodeEvent → EventName
event_name (Own (event.Admit job quota key)) = name.Admit quota
event_name (Own (event.Requota job quota)) = name.Requota quota
event_name (Own (event.JobEnd job)) = name.JobEnd
event_name (Own event.Take) = name.Take
event_name (Own (event.Finish job number a)) = name.Finish number
event_name (Own (event.Call job session c)) = name.Call session
event_name (Arrive job a) = arrival_name a

-- the entry of an event of this name, which was this to its job, and was answered so
abbrev pub entry_for : ℕ → EventName → Option Judged → Reply (List ℕ) → Entry
entry_for number named was response = record { number = number; event = named; input = was; reply = kept_reply response }

-- what a step of this number tells the job as a grantee
abbrev pub notes_for : ℕ → List JobJudged → ℕ → List Line
notes_for number notes job = map (λ note. line.Note number note.input) (filter (λ note. note.job == job) notes)

-- the lines of a job that an event makes whose entry stands under the job of this number: the entry, if the job is that one, and
-- then what it was told
abbrev pub lines_made : ℕ → EventName → ℕ → Option Judged → NodeGiven → ℕ → List Line
lines_made number named own was given job =
    (if own == job then line.Entry (entry_for number named was given.reply) ∷ [] else []) ++ notes_for number given.notes job

-- ---- the replay

-- what a line is to the replay of its job: an entry is nothing, if its event was no input; a note is answered Ok
abbrev pub journal_line_of : Line → Option Replayed
journal_line_of (line.Entry entry) = option_map (λ x. record { input = x; reply = entry.reply }) entry.input
journal_line_of (line.Note number x) = Some (record { input = x; reply = reply.Ok })

abbrev pub lines_of : List Line → List Replayed
lines_of [] = []
lines_of (l ∷ ls) = option_to_list (journal_line_of l) ++ lines_of ls

-- the store that the journal tells of
abbrev pub store_of : Journal → ReplayState
store_of journal = replayed journal.base.store (lines_of journal.list)

-- ---- which works are taken

abbrev pub is_ok : Reply ℕ → Bool
is_ok reply.Ok = true
is_ok _ = false

abbrev pub gives_work : Reply ℕ → Bool
gives_work (reply.Work work) = true
gives_work _ = false

-- of so many taken works, those that are left after an input: a device's answer ends one, and the job's end all
abbrev pub taken_left : ℕ → Judged → Reply ℕ → ℕ
taken_left n (judged.Answer number verdict) response = if is_ok response then n - 1 else n
taken_left n judged.End response = if is_ok response then 0 else n
taken_left n _ response = n

-- how many of the job's works are taken after a line, if so many were before it: an entry that is no input may give one
abbrev pub taken_after : ℕ → Line → ℕ
taken_after n (line.Entry entry) = elim entry.input [ None ↦ if gives_work entry.reply then n + 1 else n | Some x ↦ taken_left n x entry.reply ]
taken_after n (line.Note number x) = n

abbrev pub taken_from : ℕ → List Line → ℕ
taken_from n [] = n
taken_from n (l ∷ ls) = taken_from (taken_after n l) ls

-- how many of the job's works the journal tells of as taken
abbrev pub taken_of : Journal → ℕ
taken_of journal = taken_from journal.base.taken journal.list

-- the base that the lines are folded into
abbrev pub base_after : Journal → Base
base_after journal = record { store = store_of journal; taken = taken_of journal }

-- whether the works that were taken are the first of the line
abbrev pub taken_come_first : List Queued → Bool
taken_come_first [] = true
taken_come_first (work ∷ works) = if work.taken then taken_come_first works else list_all (λ other. not other.taken) works

-- ---- which work a Take gives

-- a work of the job with its key and its length, and of a write's bytes their number
abbrev pub replay_state_given : ℕ → WorkInFlight → Copy → Work ℕ
replay_state_given job w copy =
    record {
      job = record { 0 = job };
      number = w.number;
      kind = if w.writes then kind.Write else kind.Read;
      key = key_of job (if w.writes then w.number else unwrap_or copy.backed 0);
      length = copy.length;
      payload = if w.writes then Some copy.length else None;
    }

-- the first of the store's works that isn't taken, if so many are: those that are taken come first
abbrev pub work_due : ReplayState → ℕ → Option (Work ℕ)
work_due replay_state taken =
    option_and_then (λ w. option_map (replay_state_given replay_state.shape.job w) (at replay_state.shape.copies w.id)) (slice_get replay_state.shape.works taken)

-- what a Take is answered when it is the job's turn
abbrev pub take_due : ReplayState → ℕ → Reply ℕ
take_due replay_state taken = option_map_or reply.Work (work_due replay_state taken) reply.NoWork

abbrev pub is_take : EventName → Bool
is_take name.Take = true
is_take _ = false

-- after this store, with so many of its works taken: a Take's entry is no input, and gives the work that is due; no other gives one
abbrev pub IsWorkDue : ReplayState → ℕ → Line → Type 0
IsWorkDue replay_state taken (line.Entry entry) =
    (is_take entry.event ≡ true → (entry.input ≡ None) × (entry.reply ≡ take_due replay_state taken)) × (is_take entry.event ≡ false → gives_work entry.reply ≡ false)
IsWorkDue replay_state taken (line.Note number x) = Unit {0}

-- ---- what comes too late

-- whether the work of this number is one of the store's first works, of which so many are taken
abbrev pub is_taken_in : ReplayState → ℕ → ℕ → Bool
is_taken_in replay_state taken number = list_any (λ w. w.number == number) (take taken replay_state.shape.works)

-- whether the event comes too late: a device's answer to a work that isn't taken, a message to a job that isn't live. No other event can
abbrev pub lateness : ReplayState → ℕ → EventName → Option Bool
lateness replay_state taken (name.Finish number) = Some (not (is_taken_in replay_state taken number))
lateness replay_state taken (name.Located id fetch) = Some (not (is_live replay_state.shape))
lateness replay_state taken (name.Pull from id fetch) = Some (not (is_live replay_state.shape))
lateness replay_state taken (name.Chunk from id fetch index) = Some (not (is_live replay_state.shape))
lateness replay_state taken (name.NotHere from id fetch) = Some (not (is_live replay_state.shape))
lateness replay_state taken _ = None

-- what comes too late is no input, and is answered Stale; what doesn't is an input
abbrev pub IsTimely : Option Bool → Entry → Type 0
IsTimely None entry = Unit {0}
IsTimely (Some true) entry = (entry.input ≡ None) × (entry.reply ≡ reply.Refused Stale)
IsTimely (Some false) entry = is_some entry.input ≡ true

-- after this store, with so many of its works taken
abbrev pub IsInTime : ReplayState → ℕ → Line → Type 0
IsInTime replay_state taken (line.Entry entry) = IsTimely (lateness replay_state taken entry.event) entry
IsInTime replay_state taken (line.Note number x) = Unit {0}

-- ---- what is due though it may be no input

abbrev pub IsLineDue : ReplayState → ℕ → Line → Type 0
IsLineDue replay_state taken l = IsWorkDue replay_state taken l × IsInTime replay_state taken l

-- so is each line, where it stands
abbrev pub AreLinesDue : ReplayState → ℕ → List Line → Type 0
AreLinesDue replay_state taken [] = Unit {0}
AreLinesDue replay_state taken (l ∷ ls) = IsLineDue replay_state taken l × AreLinesDue (replayed replay_state (option_to_list (journal_line_of l))) (taken_after taken l) ls

abbrev pub GivesDue : Journal → Type 0
GivesDue journal = AreLinesDue journal.base.store journal.base.taken journal.list

-- each line has the answer that the replay gives there
abbrev pub AreDue : ReplayState → List Replayed → Type 0
AreDue replay_state ls = map (λ (l : Replayed). l.reply) ls ≡ map unlisted (answers_due replay_state (map (λ (l : Replayed). l.input) ls))

-- what a job's journal tells of its view
pub record IsJournalOf (view : View) (journal : Journal) : Type 0 where
  pub kept : IsViewKept view
  -- the replay of its lines on its base gives it, without its contents, and their answers
  pub replays : store_of journal ≡ replay_state_of view
  pub due : AreDue journal.base.store (lines_of journal.list)

-- inputs lead to the store from the job's beginning, and each has the reply that the replay gives there
pub record IsRooted (job : ℕ) (store : ReplayState) : Type 0 where
  pub past : List Replayed
  pub leads : store ≡ replayed (unbegun_replay job) past
  pub due : AreDue (unbegun_replay job) past

-- the node shows views of which the journals tell, those of every job number
pub record Tells (node : Hosted) (journals : ℕ → Journal) : Type 0 where
  pub views : ℕ → View
  pub shown : ShowsAll node views
  pub response : (job : ℕ) → IsJournalOf (views job) (journals job)
  -- each begins with a store that its job's inputs lead to
  pub rooted : (job : ℕ) → IsRooted job (journals job).base.store
  -- of each job's works, in the order asked, those that were taken are as many as its journal tells, and the first
  pub taken : (job : ℕ) → taken_of (journals job) ≡ works_taken_by node.works (record { 0 = job })
  pub first : taken_come_first node.works.works ≡ true
  -- each Take gave the first of them that wasn't, with its number, kind, key and length; and what came too late, and nothing else, was Stale
  pub works : (job : ℕ) → GivesDue (journals job)

-- ---- numbers

-- the number of the step that made the line
abbrev pub step_of : Line → ℕ
step_of (line.Entry entry) = entry.number
step_of (line.Note number x) = number

-- that of the last line, if there is one
abbrev pub last_of : ℕ → List Line → ℕ
last_of low [] = low
last_of low (l ∷ ls) = last_of (step_of l) ls

-- whether the line can come after those of the steps up to this number: an entry is of a later step, a note may be of the last
abbrev pub follows : ℕ → Line → Bool
follows low (line.Entry entry) = nat_lt low entry.number
follows low (line.Note number x) = nat_le low number

abbrev pub rise_above : ℕ → List Line → Bool
rise_above low [] = true
rise_above low (l ∷ ls) = follows low l && rise_above (step_of l) ls

-- the numbers rise, all are above what is covered, and none is above the count of all jobs' entries
pub record AreEntriesNumbered (count : ℕ) (journal : Journal) : Type 0 where
  pub covered : nat_le journal.covered count ≡ true
  pub rise : rise_above journal.covered journal.list ≡ true
  pub above : list_all (λ l. nat_lt journal.covered (step_of l)) journal.list ≡ true
  pub most : list_all (λ l. nat_le (step_of l) count) journal.list ≡ true

-- ---- folding

-- all lines are part of the base
abbrev pub folded : Journal → Journal
folded journal = record { base = base_after journal; covered = last_of journal.covered journal.list; list = [] }

abbrev pub folded_if : Bool → Journal → Journal
folded_if full journal = if full then folded journal else journal

abbrev pub with_lines : Journal → List Line → Journal
with_lines journal ls = record journal { list = journal.list ++ ls }

-- the lines of a job that a step makes at most: the entry, if the step is of this job, and a note for each grant that it tells
-- the job of
abbrev pub lines_due : ℕ → List JobNo → ℕ → ℕ
lines_due own grantees job = count_by (λ grantee. grantee.0 == job) grantees + (if own == job then 1 else 0)

-- whether a list of so many lines has no room for them
abbrev pub list_is_full : ℕ → List JobNo → ℕ → ℕ → Bool
list_is_full own grantees job lines = nat_lt most_lines (lines + lines_due own grantees job)

-- the jobs that it tells of grants if it is accepted, one for each note: a message tells nobody
abbrev pub grantees_at : List StandingGrant → NodeEvent → List JobNo
grantees_at grants (Own e) = grantees_of grants e
grantees_at grants (Arrive job a) = []

-- whether the job's list is folded before the event is taken: it might have no room for what the event makes
abbrev pub is_folded_by : Hosted → NodeEvent → ℕ → List Line → Bool
is_folded_by node e job ls = list_is_full (job_at node.works.works e) (grantees_at node.grants e) job (length ls)

-- a job's journal after a step of this number that the node took: folded first if there might be no room, with its lines
abbrev pub journal_after : Hosted → ℕ → NodeEvent → Option Judged → NodeGiven → ℕ → Journal → Journal
journal_after node number e was given job journal =
    with_lines (folded_if (is_folded_by node e job journal.list) journal) (lines_made number (event_name e) (job_at node.works.works e) was given job)

-- ---- sweeping

-- the lines from which on a sweep folds a list that has entries
abbrev pub many_lines : ℕ
many_lines = 64

-- whether the line is an entry, of any number
abbrev pub is_some_entry : Line → Bool
is_some_entry (line.Entry entry) = true
is_some_entry (line.Note number x) = false

abbrev pub has_entries : Journal → Bool
has_entries journal = list_any is_some_entry journal.list

-- notes are part of the base, and nothing more is covered: no receipt is of a note
abbrev pub with_notes_absorbed : Journal → Journal
with_notes_absorbed journal = record { base = base_after journal; covered = journal.covered; list = [] }

abbrev pub with_notes_absorbed_if : Bool → Journal → Journal
with_notes_absorbed_if some journal = if some then with_notes_absorbed journal else journal

-- what a sweep makes of the journal of a job that isn't live: notes alone are settled, and a long list with entries is folded
abbrev pub swept : Journal → Journal
swept journal = if has_entries journal then folded_if (nat_le many_lines (length journal.list)) journal else with_notes_absorbed journal

abbrev pub swept_if : Bool → Journal → Journal
swept_if dead journal = if dead then swept journal else journal

-- a job's journal after sweeps: it is as it was, or the job isn't live and it was swept
abbrev pub IsSwept : Bool → Journal → Journal → Type 0
IsSwept live before after = (after ≡ before) ⊎ ((live ≡ false) × (after ≡ swept before))

abbrev pub is_live_in : Hosted → ℕ → Bool
is_live_in node job = is_some (live_at node.admissions (record { 0 = job }))

-- whether the base has a grant to the job that stood
abbrev pub has_grants : Base → Bool
has_grants base = nat_lt 0 (length base.store.shape.received)

-- whether the job had not begun, no grant to it stood and no work of it was taken
abbrev pub is_blank : Base → Bool
is_blank base = base.taken == 0 && (not (has_begun base.store.shape.life) && not (has_grants base))

-- whether no step was of the job, as far as a journal of one that isn't live tells
abbrev pub seems_fresh : Journal → Bool
seems_fresh journal = journal.covered == 0 && (length journal.list == 0 && is_blank journal.base)

-- ---- beginnings

abbrev pub is_begin : Judged → Bool
is_begin (judged.Begin quota) = true
is_begin _ = false

-- whether the line is of the job's admission
abbrev pub begins : Line → Bool
begins l = option_map_or (λ (response : Replayed). is_begin response.input && is_ok response.reply) (journal_line_of l) false

-- ---- receipts

-- whether it is the entry of this number
abbrev pub is_entry : ℕ → Line → Bool
is_entry number (line.Entry entry) = entry.number == number
is_entry number (line.Note n x) = false

-- whether it is an entry that compares as equal to this one
abbrev pub same_entry : Entry → Line → Bool
same_entry entry (line.Entry own) = equal.eq entry own
same_entry entry (line.Note n x) = false

-- whether it is this entry
abbrev pub is_this : Entry → Line → Bool
is_this entry l = is_entry entry.number l && same_entry entry l

-- what the journal of its job says of a receipt of this entry, if it is of this node
abbrev pub agreement : Bool → Entry → Journal → Agreement
agreement here entry journal =
    if not here then agree.No else
    (if nat_le entry.number journal.covered then agree.Folded else
    (if list_any (is_this entry) journal.list then agree.Yes else agree.No))

-- what is said of a receipt later: the same, or that it is folded
abbrev pub StillAgrees : Bool → Entry → Journal → Journal → Type 0
StillAgrees here entry before after = (agreement here entry after ≡ agreement here entry before) ⊎ (agreement here entry after ≡ agree.Folded)

-- ---- events

abbrev pub is_call : Event → Bool
is_call (event.Call job session c) = true
is_call _ = false
