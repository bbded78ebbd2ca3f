use Rattle.std.proofs.Common.{◌≡◌, ◌++◌}
use Rattle.node_snapshot.proofs.row.listed.Given as goal

-- those so far and those of what is left are all
abbrev pub invariant-loop-id : goal.invariant-loop-id
invariant-loop-id l = l.ids.items ++ l.id-iterator ≡ l.fn.order
