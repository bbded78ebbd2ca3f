use Rattle.std.proofs.Common.{◌++◌, map}
use Rattle.std.specs.List.Sorted.{IsPermutation}
use Rattle.row_copy.specs.Usages.{own_item_of}
use Rattle.job_row.proofs.copies.Copies.items.Given as goal

-- those so far, and those that are left, are all
abbrev pub invariant-loop-id : goal.invariant-loop-id
invariant-loop-id l = IsPermutation (map own_item_of l.self) (l.items.items ++ map own_item_of l.id-iterator)
