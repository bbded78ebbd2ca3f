use Rattle.std.specs.Prelude.{◌≡◌, ◌+◌, vec_len}
use Rattle.std.specs.Vec.Iter.{into_iter_items, into_iter_len}
use Rattle.cluster_threads.proofs.Seated.{AreNumberedFrom}
use Rattle.cluster_threads.proofs.cluster.share_all.Given as goal

abbrev pub invariant-loop-node : goal.invariant-loop-node
invariant-loop-node g l = (vec_len l.all.nodes + into_iter_len l.node-iterator ≡ vec_len l.fn.stepped) × AreNumberedFrom g.K.JournaledNode.node_number (vec_len l.all.nodes) (into_iter_items l.node-iterator)
