use Rattle.std.proofs.Common.{◌≡◌, ℕ}
use Rattle.node_journal.specs.Journals.{IsSwept, is_live_in}
use Rattle.node_journal.specs.Logs.{journal_of}
use Rattle.node_journal.proofs.kept.Kept.sweep.Given as goal

-- what was swept up to now
abbrev pub invariant-loop : goal.invariant-loop
invariant-loop g l = record {
  node : l.self.node ≡ l.fn.self.node;
  count : l.self.count ≡ l.fn.self.count;
  number : l.self.number ≡ l.fn.self.number;
  journals : (job : ℕ) → IsSwept (is_live_in l.fn.self.node job) (journal_of l.fn.self.logs job) (journal_of l.self.logs job);
}
