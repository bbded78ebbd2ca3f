use Rattle.std.proofs.Common.{◌≡◌, ℕ, ◌≤◌, true, drop, length}
use Rattle.std.specs.List.{list_any}
use Rattle.obj_id.specs.declared.ids.JobNo.{JobNo}
use Rattle.private_store.specs.rules.Jobs.{same_job}
use Rattle.node_core.specs.Outcomes.{inputs_noted}
use Rattle.node_journal.specs.Journals.{notes_for, with_lines}
use Rattle.node_journal.specs.Logs.{journal_of, spare_of}
use Rattle.node_journal.proofs.logs.Logs.add_notes.Given as goal

-- those before stand after what was there, and there is room for the others
abbrev pub invariant-loop-note : goal.invariant-loop-note
invariant-loop-note l =
    ((other : ℕ) → with_lines (journal_of l.self other) (notes_for l.number (inputs_noted (drop l.note-index l.notes)) other) ≡ with_lines (journal_of l.fn.self other) (notes_for l.number (inputs_noted l.notes) other))
    × ((grantee : JobNo) → list_any (λ note. same_job grantee note.job) (drop l.note-index l.notes) ≡ true → length (drop l.note-index l.notes) ≤ spare_of l.self grantee.0)
