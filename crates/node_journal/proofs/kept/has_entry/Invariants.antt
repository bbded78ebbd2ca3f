use Rattle.std.proofs.Common.{◌≡◌, ◌≤◌, length}
use Rattle.std.specs.List.{list_any}
use Rattle.node_journal.specs.Journals.{is_this, most_lines}
use Rattle.node_journal.proofs.Bisected.{Rises}
use Rattle.node_journal.proofs.kept.has_entry.Given as goal

-- what is left is no longer, rises, and the entry is there if it is anywhere
abbrev pub invariant-loop-rest : goal.invariant-loop-rest
invariant-loop-rest l = (length l.rest ≤ most_lines) × Rises l.rest × (list_any (is_this l.entry) l.rest ≡ list_any (is_this l.entry) l.lines)

abbrev pub decreases-loop-rest : goal.decreases-loop-rest
decreases-loop-rest l = length l.rest
