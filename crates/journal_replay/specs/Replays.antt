-- The replay of a saved journal: each job at each node apart, from a store that was never admitted. Lines and entries
-- stand newest first.
use Rattle.std.specs.Prelude.{◌≡◌, ◌≢◌, ℕ, suc, if◌then◌else◌, List, [], ◌∷◌, ◌++◌, length, map, Option, None, Some}
use Rattle.std.specs.String.{string_bytes}
use Rattle.obj_id.specs.declared.commands.Reply.{Reply}
use Rattle.private_store.specs.rules.Replay.{ReplayState, Line, IsReplayed, replay_step, replayed, unbegun_replay}
use Rattle.journal_text.specs.declared.entry.Address.{Address}
use Rattle.journal_text.specs.declared.entry.Entry.{Entry}
use Rattle.journal_text.specs.declared.entry.Version.{Version}
use Rattle.schedule_text.specs.declared.lines.JobAt.{JobAt}
use Rattle.journal_text.specs.Reading.{answer_part}
use Rattle.journal_text.specs.Saved.{journal_place_of, same_job_place}
use Rattle.journal_replay.specs.declared.replay.Difference.{Difference}
use Rattle.journal_replay.specs.Inputs.{judged_of, read_line_of}

-- a line without its line feed, and the entry that it spells
pub record JournalRead : Type 0 where
  pub text : List ℕ
  pub entry : Entry

abbrev pub entries_of : List JournalRead → List Entry
entries_of lines = map (λ line. line.entry) lines

-- the lines of a job at a node, oldest first
abbrev pub replayed_lines_of : Version → JobAt → List Entry → List Line
replayed_lines_of version place [] = []
replayed_lines_of version place (x ∷ before) =
    if same_job_place (journal_place_of x.address) place then replayed_lines_of version place before ++ read_line_of version x ∷ [] else replayed_lines_of version place before

-- and the store after them
abbrev pub replayed_store_of : Version → JobAt → List Entry → ReplayState
replayed_store_of version place entries = replayed (unbegun_replay place.job.0) (replayed_lines_of version place entries)

-- the answer that is due after these lines
abbrev pub due_after : Version → List Entry → Entry → Reply ℕ
due_after version before x = (replay_step (replayed_store_of version (journal_place_of x.address) before) (judged_of version x.address x.input)).reply

-- the number that a line has after these
abbrev pub next_number : Version → List Entry → Address → ℕ
next_number version before address = suc (length (replayed_lines_of version (journal_place_of address) before))

-- every line has the answer that the replay of its job at its node gives there
abbrev pub AreReplayed : Version → List Entry → Type 0
AreReplayed version entries = (place : JobAt) → IsReplayed (unbegun_replay place.job.0) (replayed_lines_of version place entries)

-- the line's answer isn't the one that is due
pub record IsUnlike (text : List ℕ) (address : Address) (reply due : Reply ℕ) (difference : Difference) : Type 0 where
  pub at : difference.address ≡ address
  pub had : string_bytes difference.had ≡ answer_part text
  pub due_is : difference.due ≡ due
  pub differs : reply ≢ due

-- the first line whose answer isn't the one that is due, with that answer as it stands there
pub record IsFirstDifference (version : Version) (lines : List JournalRead) (difference : Difference) : Type 0 where
  pub later : List JournalRead
  pub line : JournalRead
  pub before : List JournalRead
  pub found : lines ≡ later ++ line ∷ before
  pub agree : AreReplayed version (entries_of before)
  pub at : difference.address ≡ line.entry.address
  pub had : string_bytes difference.had ≡ answer_part line.text
  pub due : difference.due ≡ due_after version (entries_of before) line.entry
  pub differs : line.entry.reply ≢ difference.due

-- what is found in all of them
abbrev pub IsFound : Version → List JournalRead → Option Difference → Type 0
IsFound version lines None = AreReplayed version (entries_of lines)
IsFound version lines (Some difference) = IsFirstDifference version lines difference
