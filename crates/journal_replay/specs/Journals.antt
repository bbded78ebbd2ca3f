-- A journal's text: its first line, and a line for each entry. Lines stand newest first.
use Rattle.std.specs.Prelude.{◌≡◌, ◌≢◌, ℕ, suc, List, [], ◌∷◌, ◌++◌, All, length, Option, IfSome, Result, Ok, Err, ◌⊎◌, ⊤}
use Rattle.std.specs.Io.KnownBytes.{Consumes}
use Rattle.std.specs.Str.{IsUtf8}
use Rattle.schedule_text.specs.Lines.{IsNextLine, with_line_feed}
use Rattle.journal_text.specs.declared.entry.Entry.{Entry}
use Rattle.journal_text.specs.declared.entry.Version.{Version}
use Rattle.journal_text.specs.Reading.{IsEntryLine, head_text}
use Rattle.journal_replay.specs.declared.fault.ReplayFault.{ReplayFault}
use Rattle.journal_replay.specs.declared.fault.ReplayFault.TheVariants.{NotAnEntry, Input, Output, NoMemory}
use Rattle.journal_replay.specs.declared.replay.ReplayResult.{ReplayResult}
use Rattle.journal_replay.specs.Replays.{IsFound, JournalRead, entries_of, next_number}

-- ---- lines

-- it spells one entry alone, whose number is the next one of its job at its node, from 1
pub record IsRead (version : Version) (before : List Entry) (line : JournalRead) : Type 0 where
  pub whole : All (λ byte. byte ≢ 10) line.text
  pub spelled : IsEntryLine version line.text line.entry
  pub alone : (x : Entry) → IsEntryLine version line.text x → x ≡ line.entry
  pub numbered : line.entry.address.number ≡ next_number version before line.entry.address

abbrev pub AreRead : Version → List JournalRead → Type 0
AreRead version [] = ⊤
AreRead version (line ∷ before) = IsRead version (entries_of before) line × AreRead version before

-- the bytes of the lines
abbrev pub bytes_of : List JournalRead → List ℕ
bytes_of [] = []
bytes_of (line ∷ before) = bytes_of before ++ with_line_feed line.text

-- the bytes of a journal
abbrev pub journal_bytes : Version → List JournalRead → List ℕ
journal_bytes version lines = with_line_feed (head_text version) ++ bytes_of lines

-- bytes that are no journal's first line: its line feed is missing, or its text is another
pub record IsNoHead (bytes : List ℕ) : Type 0 where
  pub none : (version : Version) → bytes ≢ with_line_feed (head_text version)

-- bytes that aren't the line of an entry that comes after these: its line feed is missing, its text spells no entry, or the
-- number isn't the next one
pub record IsNoEntry (version : Version) (before : List Entry) (bytes : List ℕ) : Type 0 where
  pub none : (text : List ℕ) → bytes ≡ with_line_feed text → IsUtf8 text → (x : Entry) → IsEntryLine version text x → x.address.number ≢ next_number version before x.address

-- ---- a whole journal

-- the whole input is a journal, whose lines were replayed
pub record IsJournal (read_old : Option (List ℕ)) (outcome : ReplayResult) : Type 0 where
  pub lines : List JournalRead
  pub read : AreRead outcome.version lines
  pub whole : IfSome read_old (λ all. all ≡ journal_bytes outcome.version lines)
  pub counted : outcome.lines ≡ length lines
  pub found : IsFound outcome.version lines outcome.difference

-- the first line is no journal's
pub record StopsAtHead (read_old read_new : Option (List ℕ)) (number : ℕ) : Type 0 where
  pub rest : List ℕ
  pub consumed : Consumes read_old read_new rest
  pub whole : IsNextLine read_old [] rest
  pub none : IsNoHead rest
  pub numbered : number ≡ 1

-- the line of this number, the first line being 1, isn't an entry
pub record StopsAtLine (read_old read_new : Option (List ℕ)) (number : ℕ) : Type 0 where
  pub version : Version
  pub lines : List JournalRead
  pub rest : List ℕ
  pub read : AreRead version lines
  pub consumed : Consumes read_old read_new (journal_bytes version lines ++ rest)
  pub whole : IsNextLine read_old (journal_bytes version lines) rest
  pub more : rest ≢ []
  pub none : IsNoEntry version (entries_of lines) rest
  pub numbered : number ≡ suc (suc (length lines))

abbrev pub JournalEnds : Option (List ℕ) → Option (List ℕ) → Result ReplayResult ReplayFault → Type 0
JournalEnds read_old read_new (Ok outcome) = IsJournal read_old outcome
JournalEnds read_old read_new (Err (NotAnEntry number)) = StopsAtHead read_old read_new number ⊎ StopsAtLine read_old read_new number
JournalEnds read_old read_new (Err Input) = ⊤
JournalEnds read_old read_new (Err Output) = ⊥
JournalEnds read_old read_new (Err NoMemory) = ⊤
