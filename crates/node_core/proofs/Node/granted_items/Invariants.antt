use Rattle.std.proofs.Common.{◌≡◌, ◌++◌, drop, map}
use Rattle.node_core.specs.Granted.{granted_item}
use Rattle.node_core.proofs.Node.granted_items.Given as goal

-- those so far and those of what is left are all
abbrev pub invariant-loop-grant : goal.invariant-loop-grant
invariant-loop-grant l = l.items.items ++ map (granted_item l.fn.self.rows) (drop l.grant-index l.fn.grants) ≡ map (granted_item l.fn.self.rows) l.fn.grants
