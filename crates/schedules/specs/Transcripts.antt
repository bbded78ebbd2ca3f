-- What a run prints and says at its end.
use Rattle.std.specs.Prelude.{◌≡◌, ℕ, Bool, if◌then◌else◌, List, [], ◌++◌, codes, decimal, Option, None, Some, Result, Ok, Err, ⊤}
use Rattle.journal_text.specs.declared.saved.JournalItem.{JournalItem}
use Rattle.journal_text.specs.Saved.{Saved, IsSaved, is_folded, saved_text}
use Rattle.program_lines.specs.declared.fault.Fault.TheVariants.{Folded}
use Rattle.program_lines.specs.declared.fault.Fault.{Fault}
use Rattle.program_lines.specs.Endings.{fault_text, status_of}
use Rattle.schedule_runs.specs.Runs.{Ran}
use Rattle.journal_replay.specs.declared.fault.ReplayFault.{ReplayFault}
use Rattle.journal_replay.specs.declared.program.Verdict.{Verdict}
use Rattle.journal_replay.specs.declared.program.Verdict.TheVariants.{Agrees, Differs}
use Rattle.journal_replay.specs.Texts.{Replays, replay_fault_text, replay_status_of as status_of_replay}

-- of a fault its line and the status
abbrev pub run_ending : Fault → List ℕ
run_ending fault = fault_text fault ++ codes "\nstatus " ++ decimal (status_of (Err fault)) ++ codes "\n"

-- the text of a journal, if one was kept, or that it was folded
abbrev pub IsJournalEnding : Option Saved → List ℕ → Type 0
IsJournalEnding None text = text ≡ []
IsJournalEnding (Some saved) text = (marks : List JournalItem) → IsSaved saved marks → text ≡ (if is_folded marks then run_ending Folded else saved_text marks)

-- how a run ended
abbrev pub IsTranscriptEnding : Result ⊤ Fault → Option Saved → List ℕ → Type 0
IsTranscriptEnding (Ok u) journal text = IsJournalEnding journal text
IsTranscriptEnding (Err fault) journal text = text ≡ run_ending fault

-- the text is what a run of the schedule printed, and how it ended
pub record Transcribes (nodes memory : ℕ) (asked : Bool) (schedule text : List ℕ) : Type 0 where
  pub outcome : Result ⊤ Fault
  pub journal : Option Saved
  pub left : Option (List ℕ)
  pub printed : List ℕ
  pub ending : List ℕ
  pub ran : Ran nodes memory asked journal (Some schedule) left (Some []) (Some printed) outcome
  pub ends : IsTranscriptEnding outcome journal ending
  pub whole : text ≡ printed ++ ending

-- of a difference the status, and of a fault its line and the status
abbrev pub replay_ending : Result Verdict ReplayFault → List ℕ
replay_ending (Ok Agrees) = []
replay_ending (Ok Differs) = codes "status " ++ decimal (status_of_replay (Ok Differs)) ++ codes "\n"
replay_ending (Err fault) = replay_fault_text fault ++ codes "\nstatus " ++ decimal (status_of_replay (Err fault)) ++ codes "\n"

-- the text is what a replay of the journal printed, and how it ended
pub record Retells (journal text : List ℕ) : Type 0 where
  pub outcome : Result Verdict ReplayFault
  pub left : Option (List ℕ)
  pub printed : List ℕ
  pub replays : Replays (Some journal) left (Some []) (Some printed) outcome
  pub whole : text ≡ printed ++ replay_ending outcome
