-- The text of a run's journal.
use Rattle.std.specs.Prelude.{◌≡◌, ℕ, true, false, List, Option}
use Rattle.journal_text.specs.declared.saved.JournalItem.{JournalItem}
use Rattle.journal_text.specs.Saved.{Saved, is_folded, saved_text}
use Rattle.schedule_runs.specs.SavedRuns.{IsSavedStep}

-- the text is that of the entries and notes that the journal has, of which none was folded: `RunJournal::into_text` gives such a text
abbrev pub IsTextOf : Option Saved → List ℕ → Type 0
IsTextOf journal text = (marks : List JournalItem) → IsSavedStep true journal marks → (is_folded marks ≡ false) × (text ≡ saved_text marks)
