use Rattle.std.proofs.Common.{vec_len, refl}
use Rattle.operator_service.specs.Attending.{IsAnswer}
use Rattle.operator_service.proofs.Handled.{line_answered, line_stopped, long_answered}
use Rattle.operator_service.specs.Servings.{IsOrderedAt}
use Rattle.shared_nodes.specs.Looking.{AreLiveAt, IsUsageAt}
use Rattle.operator_service.proofs.attending.answer_of.Goals as goal

pub returns-in-Line-clause-answered : goal.returns-in-Line-clause-answered
returns-in-Line-clause-answered g c = line_answered (IsAnswer (IsOrderedAt g.K.JournaledNode.receipt_of g.K.JournaledNode.made_at) (AreLiveAt g.K.JournaledNode.node_number g.K.JournaledNode.shows_live) (IsUsageAt g.K.JournaledNode.node_number g.K.JournaledNode.shows_usage) (vec_len c.args.nodes.now.nodes)) c.args.count (vec_len c.args.nodes.now.nodes) c.args.number _ _ c.args.taken c.in-Line.is c.args.line.now _ c.answer_to.ensures.answered

pub returns-in-TooLong-clause-answered : goal.returns-in-TooLong-clause-answered
returns-in-TooLong-clause-answered g c = long_answered (IsAnswer (IsOrderedAt g.K.JournaledNode.receipt_of g.K.JournaledNode.made_at) (AreLiveAt g.K.JournaledNode.node_number g.K.JournaledNode.shows_live) (IsUsageAt g.K.JournaledNode.node_number g.K.JournaledNode.shows_usage) (vec_len c.args.nodes.now.nodes)) c.args.count (vec_len c.args.nodes.now.nodes) c.args.number _ _ c.args.taken c.in-TooLong.is c.args.line.now refl _ c.no_order.ensures

pub returns-in-Line-clause-stopped : goal.returns-in-Line-clause-stopped
returns-in-Line-clause-stopped g c = line_stopped (IsAnswer (IsOrderedAt g.K.JournaledNode.receipt_of g.K.JournaledNode.made_at) (AreLiveAt g.K.JournaledNode.node_number g.K.JournaledNode.shows_live) (IsUsageAt g.K.JournaledNode.node_number g.K.JournaledNode.shows_usage) (vec_len c.args.nodes.now.nodes)) c.args.count (vec_len c.args.nodes.now.nodes) c.args.number _ _ c.args.taken c.in-Line.is c.args.line.now _ c.answer_to.ensures.stopped
