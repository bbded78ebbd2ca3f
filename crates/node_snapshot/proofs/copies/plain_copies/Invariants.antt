use Rattle.std.proofs.Common.{◌≡◌, ◌++◌, drop}
use Rattle.job_row.specs.Row.{copies_of}
use Rattle.node_snapshot.proofs.Gathered.{gathered}
use Rattle.node_snapshot.proofs.copies.plain_copies.Given as goal

-- those so far and those of what is left are all
abbrev pub invariant-loop-item : goal.invariant-loop-item
invariant-loop-item l = l.plain.items ++ gathered l.copies (drop l.item-index l.item-items) ≡ copies_of l.copies
