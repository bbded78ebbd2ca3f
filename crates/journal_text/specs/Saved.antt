-- A whole journal, as it is saved: the lines of entries and notes, newest first, and when it has lost some of them to a fold.
use Rattle.std.specs.Prelude.{◌≡◌, ℕ, suc, ◌==◌, nat_le, Bool, false, ◌&&◌, ◌||◌, if◌then◌else◌, List, [], ◌∷◌, ◌++◌, Option, Some, None, unwrap_or, is_some, ⊤}
use Rattle.std.specs.Map.{lookup}
use Rattle.std.specs.Str.{IsUtf8}
use Rattle.journal_text.specs.declared.entry.Address.{Address}
use Rattle.journal_text.specs.declared.entry.Entry.{Entry}
use Rattle.schedule_text.specs.declared.lines.JobAt.{JobAt}
use Rattle.journal_text.specs.declared.entry.Version.TheVariants.{Three}
use Rattle.journal_text.specs.declared.saved.Answered.{Answered}
use Rattle.journal_text.specs.declared.saved.Counts.{Counts}
use Rattle.journal_text.specs.declared.saved.JournalItem.{JournalItem}
use Rattle.journal_text.specs.Printing.{entry_text}
use Rattle.journal_text.specs.Reading.{head_text}
use Rattle.journal_text.specs.Typed.{IsTyped}

abbrev pub same_job_place : JobAt → JobAt → Bool
same_job_place a b = (a.node == b.node) && (a.job.0 == b.job.0)

-- the job at its node that a line is of
abbrev pub journal_place_of : Address → JobAt
journal_place_of address = record { node = address.node; job = address.job }

-- the entries and notes that a job's list has at most
abbrev pub most_marks : ℕ
most_marks = 65536

-- how many entries and notes a job at its node has, and how many of them have a line
abbrev pub items_of_journal : JobAt → List JournalItem → ℕ
items_of_journal place [] = 0
items_of_journal place (mark ∷ before) = if same_job_place mark.place place then suc (items_of_journal place before) else items_of_journal place before

abbrev pub saved_lines_of : JobAt → List JournalItem → ℕ
saved_lines_of place [] = 0
saved_lines_of place (mark ∷ before) = if same_job_place mark.place place && is_some mark.line then suc (saved_lines_of place before) else saved_lines_of place before

-- whether one of them found the list of its job full, so that the list was folded
abbrev pub is_folded : List JournalItem → Bool
is_folded [] = false
is_folded (mark ∷ before) = is_folded before || nat_le most_marks (items_of_journal mark.place before)

-- the entry that a line of this number is written of
abbrev pub entry_at : JobAt → ℕ → Answered → Entry
entry_at place number line = record { address = record { node = place.node; job = place.job; number = number }; input = line.input; reply = line.reply }

-- the line of an entry or note that has one, with its line feed
abbrev pub saved_line_text : JobAt → ℕ → Option Answered → List ℕ
saved_line_text place number None = []
saved_line_text place number (Some line) = entry_text (entry_at place number line) ++ 10 ∷ []

-- the text: a line's number is the next one of its job at its node
abbrev pub saved_text : List JournalItem → List ℕ
saved_text [] = head_text Three ++ 10 ∷ []
saved_text (mark ∷ before) = saved_text before ++ saved_line_text mark.place (suc (saved_lines_of mark.place before)) mark.line

-- a line is written of an entry of a program, and is of characters
abbrev pub IsTypedLine : JobAt → ℕ → Option Answered → Type 0
IsTypedLine place number None = ⊤
IsTypedLine place number (Some line) = IsTyped (entry_at place number line) × IsUtf8 (entry_text (entry_at place number line))

abbrev pub AreTyped : List JournalItem → Type 0
AreTyped [] = ⊤
AreTyped (mark ∷ before) = IsTypedLine mark.place (suc (saved_lines_of mark.place before)) mark.line × AreTyped before

-- ---- as it is made

-- what a contract sees of a journal that is being written
pub record Saved : Type 0 where
  pub text : List ℕ
  pub counts : List (JobAt × Counts)
  pub folded : Bool

abbrev pub counts_at : List (JobAt × Counts) → JobAt → Counts
counts_at counts place = unwrap_or (lookup (same_job_place place) counts) (record { marks = 0; lines = 0 })

-- whether a job with so many entries, notes and lines has no room for more
abbrev pub has_no_room : Saved → Counts → Bool
has_no_room saved counts = saved.folded || (nat_le most_marks counts.marks || nat_le most_marks counts.lines)

-- how many it has with one more
abbrev pub lines_counted : Counts → Option Answered → Counts
lines_counted counts line = record { marks = suc counts.marks; lines = if is_some line then suc counts.lines else counts.lines }

-- it has these entries and notes
pub record IsSaved (saved : Saved) (marks : List JournalItem) : Type 0 where
  pub folded : saved.folded ≡ is_folded marks
  pub counts : is_folded marks ≡ false → (place : JobAt) → counts_at saved.counts place ≡ record { marks = items_of_journal place marks; lines = saved_lines_of place marks }
  pub text : is_folded marks ≡ false → saved.text ≡ saved_text marks
  pub typed : is_folded marks ≡ false → AreTyped marks
