use Rattle.std.proofs.Common.{◌≡◌}
use Rattle.private_store.specs.rules.Marks.{counted}
use Rattle.fetch_core.proofs.all_chunks.Given as goal

abbrev pub invariant-loop-index : goal.invariant-loop-index
invariant-loop-index l = l.indexes.items ≡ counted 0 l.index
