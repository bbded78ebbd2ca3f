-- A journal that is saved, and what the replay of its text comes to. Marks and entries stand newest first.
use Rattle.std.specs.Prelude.{◌≡◌, ℕ, suc, ◌-◌, ◌==◌, if◌then◌else◌, List, [], ◌∷◌, ◌++◌, codes, decimal, Option, None, Some, Result, Ok, Err, ⊤}
use Rattle.std.specs.Io.KnownBytes.{Appends, Keeps}
use Rattle.journal_text.specs.declared.entry.Entry.{Entry}
use Rattle.journal_text.specs.declared.entry.Version.TheVariants.{Three}
use Rattle.journal_text.specs.declared.saved.Answered.{Answered}
use Rattle.journal_text.specs.declared.saved.JournalItem.{JournalItem}
use Rattle.journal_text.specs.Saved.{entry_at, saved_lines_of}
use Rattle.journal_text.specs.Typed.{IsProper}
use Rattle.schedule_text.specs.declared.lines.JobAt.{JobAt}
use Rattle.journal_replay.specs.declared.fault.ReplayFault.{ReplayFault}
use Rattle.journal_replay.specs.declared.fault.ReplayFault.TheVariants.{NotAnEntry, Input, Output, NoMemory}
use Rattle.journal_replay.specs.declared.program.Verdict.{Verdict}
use Rattle.journal_replay.specs.declared.program.Verdict.TheVariants.{Agrees}
use Rattle.journal_replay.specs.Replays.{due_after}

abbrev pub with_line : JobAt → ℕ → Option Answered → List Entry → List Entry
with_line place number None entries = entries
with_line place number (Some line) entries = entry_at place number line ∷ entries

-- the entries of the marks that have a line, each with the next number of its job at its node
abbrev pub entries_saved : List JournalItem → List Entry
entries_saved [] = []
entries_saved (mark ∷ before) = with_line mark.place (suc (saved_lines_of mark.place before)) mark.line (entries_saved before)

-- each entry is a proper one, and has the answer that is due after those before it
abbrev pub AreSound : List Entry → Type 0
AreSound [] = ⊤
AreSound (x ∷ before) = IsProper x × (x.reply ≡ due_after Three before x) × AreSound before

-- how many line feeds a text has
abbrev pub feeds_in : List ℕ → ℕ
feeds_in [] = 0
feeds_in (byte ∷ text) = if byte == 10 then suc (feeds_in text) else feeds_in text

-- the lines of a text after the first one
abbrev pub lines_after_first : List ℕ → ℕ
lines_after_first text = feeds_in text - 1

-- a replay of so many lines says that all agree, unless reading, the memory or the output fails
abbrev pub SavedReplays : ℕ → Option (List ℕ) → Option (List ℕ) → Result Verdict ReplayFault → Type 0
SavedReplays lines written_old written_new (Ok verdict) = (verdict ≡ Agrees) × Appends written_old written_new (codes "replayed " ++ decimal lines ++ codes "\n")
SavedReplays lines written_old written_new (Err (NotAnEntry number)) = ⊥
SavedReplays lines written_old written_new (Err Input) = Keeps written_old written_new
SavedReplays lines written_old written_new (Err Output) = ⊤
SavedReplays lines written_old written_new (Err NoMemory) = Keeps written_old written_new
