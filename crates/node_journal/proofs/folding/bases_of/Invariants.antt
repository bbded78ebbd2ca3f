use Rattle.std.proofs.Common.{◌≡◌, ℕ, ◌==◌, ◌&&◌, ◌||◌, drop, length}
use Rattle.std.specs.List.{list_any}
use Rattle.node_journal.specs.Journals.{list_is_full}
use Rattle.node_journal.specs.Logs.{journal_of, list_of, AreBases, has_base}
use Rattle.node_journal.proofs.folding.bases_of.Given as goal

-- with those of the grantees that are left they are all
abbrev pub invariant-loop-grantee : goal.invariant-loop-grantee
invariant-loop-grantee l = record {
  stores : AreBases l.bases.items (journal_of l.logs);
  full : (job : ℕ) → (has_base job l.bases.items || (list_any (λ grantee. grantee.0 == job) (drop l.grantee-index l.grantees) && list_is_full l.own.0 l.grantees job (length (list_of l.logs job))))
      ≡ ((l.own.0 == job || list_any (λ grantee. grantee.0 == job) l.grantees) && list_is_full l.own.0 l.grantees job (length (list_of l.logs job)));
}
