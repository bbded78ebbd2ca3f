-- A replay so far, and what a line more makes of it. Lines stand newest first.
use Rattle.std.specs.Prelude.{◌≡◌, ◌≢◌, ℕ, suc, Bool, true, false, List, [], ◌∷◌, ◌++◌, length, Option, IfSome, Result, Ok, Err, ⊤}
use Rattle.std.specs.Io.KnownBytes.{Consumes}
use Rattle.journal_text.specs.declared.entry.Entry.{Entry}
use Rattle.journal_text.specs.declared.entry.Version.{Version}
use Rattle.journal_text.specs.Reading.{IsEntryLine}
use Rattle.journal_replay.specs.declared.fault.ReplayFault.{ReplayFault}
use Rattle.journal_replay.specs.declared.fault.ReplayFault.TheVariants.{NotAnEntry, Input, Output, NoMemory}
use Rattle.journal_replay.specs.declared.replay.ReplayResult.{ReplayResult}
use Rattle.journal_replay.specs.declared.replay.Replay.{Replay}
use Rattle.journal_replay.specs.Replays.{IsFound, JournalRead, entries_of, next_number}
use Rattle.journal_replay.specs.States.{IsStateAfter}
use Rattle.journal_replay.specs.Journals.{AreRead, IsNoEntry, bytes_of}
use Rattle.schedule_text.specs.Lines.{with_line_feed, IsNextLine}

-- ---- a line more

-- a replay that these lines lead to
abbrev pub IsReplay : List JournalRead → Replay → Type 0
IsReplay lines replay = IsStateAfter replay.version lines replay.jobs replay.difference

-- the next line
pub record AddsEntry (old new : Replay) (line : JournalRead) : Type 0 where
  pub version : new.version ≡ old.version
  pub numbered : (before : List JournalRead) → IsReplay before old → line.entry.address.number ≡ next_number old.version (entries_of before) line.entry.address
  pub after : (before : List JournalRead) → IsReplay before old → IsReplay (line ∷ before) new

-- or a line with another number
abbrev pub Adds : Bool → Replay → Replay → JournalRead → Type 0
Adds true old new line = AddsEntry old new line
Adds false old new line = (before : List JournalRead) → IsReplay before old → line.entry.address.number ≢ next_number old.version (entries_of before) line.entry.address

-- the bytes are the next line
pub record AddsLine (old new : Replay) (bytes : List ℕ) : Type 0 where
  pub line : JournalRead
  pub is_text : bytes ≡ with_line_feed line.text
  pub spelled : IsEntryLine old.version line.text line.entry
  pub alone : (x : Entry) → IsEntryLine old.version line.text x → x ≡ line.entry
  pub added : AddsEntry old new line

abbrev pub TakesLine : Bool → Replay → Replay → List ℕ → Type 0
TakesLine true old new bytes = AddsLine old new bytes
TakesLine false old new bytes = (before : List JournalRead) → IsReplay before old → IsNoEntry old.version (entries_of before) bytes

-- ---- the lines after the first

-- reading fails for the input, or out of memory
abbrev pub IsJournalFault : ReplayFault → Type 0
IsJournalFault (NotAnEntry n) = ⊥
IsJournalFault Input = ⊤
IsJournalFault Output = ⊥
IsJournalFault NoMemory = ⊤

-- a replay so far, of lines after the first; the number is the next line's
pub record ReplayProgress (version : Version) (number : ℕ) (replay : Replay) (read_old read_new : Option (List ℕ)) : Type 0 where
  pub lines : List JournalRead
  pub counted : suc (suc (length lines)) ≡ number
  pub read : AreRead version lines
  pub form : replay.version ≡ version
  pub after : IsReplay lines replay
  pub consumed : Consumes read_old read_new (bytes_of lines)

-- the lines after the first are all that there was
pub record EndsLines (version : Version) (read_old : Option (List ℕ)) (outcome : ReplayResult) : Type 0 where
  pub lines : List JournalRead
  pub read : AreRead version lines
  pub whole : IfSome read_old (λ all. all ≡ bytes_of lines)
  pub form : outcome.version ≡ version
  pub counted : outcome.lines ≡ length lines
  pub found : IsFound version lines outcome.difference

-- after these lines comes one of this number that isn't an entry
pub record StopsLines (version : Version) (read_old read_new : Option (List ℕ)) (number : ℕ) : Type 0 where
  pub lines : List JournalRead
  pub rest : List ℕ
  pub read : AreRead version lines
  pub consumed : Consumes read_old read_new (bytes_of lines ++ rest)
  pub whole : IsNextLine read_old (bytes_of lines) rest
  pub more : rest ≢ []
  pub none : IsNoEntry version (entries_of lines) rest
  pub numbered : number ≡ suc (suc (length lines))

abbrev pub LinesEnd : Version → Option (List ℕ) → Option (List ℕ) → Result ReplayResult ReplayFault → Type 0
LinesEnd version read_old read_new (Ok outcome) = EndsLines version read_old outcome
LinesEnd version read_old read_new (Err (NotAnEntry number)) = StopsLines version read_old read_new number
LinesEnd version read_old read_new (Err Input) = ⊤
LinesEnd version read_old read_new (Err Output) = ⊥
LinesEnd version read_old read_new (Err NoMemory) = ⊤
