use Rattle.std.proofs.Common.{◌≡◌, ℕ, ◌≤◌, length}
use Rattle.std.specs.Vec.Iter.{into_iter_items, into_iter_len}
use Rattle.node_journal.specs.Journals.{folded_if}
use Rattle.node_journal.specs.Logs.{journal_of, spare_of, AreBases, has_base}
use Rattle.node_journal.proofs.logs.Logs.fold_all.Given as goal

-- what is left is of the journals as they are, and with it they become what they are to be
abbrev pub invariant-loop-job : goal.invariant-loop-job
invariant-loop-job l = record {
  stores : AreBases (into_iter_items l.job-iterator) (journal_of l.self);
  journals : (other : ℕ) → folded_if (has_base other (into_iter_items l.job-iterator)) (journal_of l.self other) ≡ folded_if (has_base other l.fn.bases.items) (journal_of l.fn.self other);
  spare : (other : ℕ) → spare_of l.fn.self other ≤ spare_of l.self other;
  left : into_iter_len l.job-iterator ≡ length (into_iter_items l.job-iterator);
}
