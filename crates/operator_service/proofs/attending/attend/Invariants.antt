use Rattle.std.proofs.Common.{vec_len}
use Rattle.operator_service.specs.Attending.{IsAnswer, Attending}
use Rattle.operator_service.specs.Servings.{IsOrderedAt}
use Rattle.shared_nodes.specs.Looking.{AreLiveAt, IsUsageAt}
use Rattle.operator_service.proofs.attending.attend.Given as goal

abbrev pub invariant-loop-number : goal.invariant-loop-number
invariant-loop-number g l = Attending (IsAnswer (IsOrderedAt g.K.JournaledNode.receipt_of g.K.JournaledNode.made_at) (AreLiveAt g.K.JournaledNode.node_number g.K.JournaledNode.shows_live) (IsUsageAt g.K.JournaledNode.node_number g.K.JournaledNode.shows_usage) (vec_len l.nodes.nodes)) l.count (vec_len l.nodes.nodes) l.number l.fn.actor l.actor (g.I.Read.remaining l.fn.reader) (g.I.Read.remaining l.reader) (g.O.Write.contents l.fn.writer) (g.O.Write.contents l.writer)
