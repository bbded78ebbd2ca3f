use Rattle.std.proofs.Common.{◌≡◌, drop}
use Rattle.private_store.specs.rules.Contents.{entry_elsewhere}
use Rattle.fetch_core.proofs.elsewhere.Given as goal

abbrev pub invariant-loop-entry : goal.invariant-loop-entry
invariant-loop-entry l = entry_elsewhere l.node (drop l.entry-index l.entries) ≡ entry_elsewhere l.node l.entries
