use Rattle.std.proofs.Common.{◌≡◌, ◌++◌, ◌-◌}
use Rattle.private_store.specs.rules.Marks.{counted}
use Rattle.plain_store.proofs.fetching.all_chunks.Given as goal

abbrev pub invariant-loop-index : goal.invariant-loop-index
invariant-loop-index l = l.chunks.items ++ counted l.index (l.count - l.index) ≡ counted 0 l.count
