use Rattle.std.specs.Prelude.{◌≡◌}
use Rattle.shared_nodes.proofs.node_list.NodeList.report.Given as goal

abbrev pub invariant-loop-node : goal.invariant-loop-node
invariant-loop-node g l = l.report.nodes ≡ l.node-index
