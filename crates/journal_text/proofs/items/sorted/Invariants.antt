use Rattle.std.proofs.Common.{drop}
use Rattle.journal_text.proofs.SortedItems.{IsSortedUpTo}
use Rattle.journal_text.proofs.items.sorted.Given as goal

abbrev pub invariant-loop-item : goal.invariant-loop-item
invariant-loop-item l = IsSortedUpTo l.items (drop l.item-index l.items) l.own l.granted
