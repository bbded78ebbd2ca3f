use Rattle.std.specs.Prelude.{◌≡◌, ◌+◌, vec_len}
use Rattle.shared_nodes.specs.NodeLists.{AreNumbered}
use Rattle.cluster_threads.proofs.cluster.seat_all.Given as goal

abbrev pub invariant-loop-number : goal.invariant-loop-number
invariant-loop-number g l = (g.K.SeatedNode.parts l.seats + l.number ≡ l.nodes) × (g.K.SeatedNode.amount l.seats ≡ 0) × (g.K.SeatedNode.next_number l.seats ≡ l.number) × (vec_len l.stepped ≡ l.number) × AreNumbered l.stepped.items g.K.JournaledNode.node_number
