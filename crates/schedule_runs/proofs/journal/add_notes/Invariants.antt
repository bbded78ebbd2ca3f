use Rattle.std.proofs.Common.{◌≡◌, List, length}
use Rattle.std.specs.Vec.Iter.{into_iter_items, into_iter_len}
use Rattle.journal_text.specs.declared.saved.JournalItem.{JournalItem}
use Rattle.journal_text.specs.Saved.{IsSaved}
use Rattle.schedule_runs.specs.SavedRuns.{with_notes}
use Rattle.schedule_runs.proofs.journal.add_notes.Given as goal

-- the journal has some entries and notes, and with those that are left they become what they are to be
abbrev pub invariant-loop-note : goal.invariant-loop-note
invariant-loop-note l = record {
  leads : (marks : List JournalItem) → IsSaved l.fn.saved marks → (now : List JournalItem) × (IsSaved l.saved now × (with_notes l.node (into_iter_items l.note-iterator) now ≡ with_notes l.node l.fn.notes marks));
  left : into_iter_len l.note-iterator ≡ length (into_iter_items l.note-iterator);
}
