use Rattle.std.proofs.Common.{rules, ◌≡◌, true, false, vec_len, refl}
use Rattle.schedule_text.specs.Reading.{is_skipped}
use Rattle.operator_service.specs.Attending.{IsAnswer}
use Rattle.operator_service.proofs.Handled.{skipped_line, other_answered, asked_answered, asked_stopped}
use Rattle.operator_service.specs.Servings.{IsOrderedAt}
use Rattle.shared_nodes.specs.Looking.{AreLiveAt, IsUsageAt}
use Rattle.operator_service.proofs.attending.answer_to.Goals as goal

pub returns-then-is_skipped-clause-answered : goal.returns-then-is_skipped-clause-answered
returns-then-is_skipped-clause-answered g c =
    let is : is_skipped c.args.text.now ≡ true = search rules in
    skipped_line (IsAnswer (IsOrderedAt g.K.JournaledNode.receipt_of g.K.JournaledNode.made_at) (AreLiveAt g.K.JournaledNode.node_number g.K.JournaledNode.shows_live) (IsUsageAt g.K.JournaledNode.node_number g.K.JournaledNode.shows_usage) (vec_len c.args.nodes.now.nodes)) c.args.count (vec_len c.args.nodes.now.nodes) c.args.number _ _ c.args.text.now _ refl c.new.ensures.bytes is

pub returns-in-Some-clause-answered : goal.returns-in-Some-clause-answered
returns-in-Some-clause-answered g c =
    let speaks : is_skipped c.args.text.now ≡ false = search rules in
    asked_answered (IsAnswer (IsOrderedAt g.K.JournaledNode.receipt_of g.K.JournaledNode.made_at) (AreLiveAt g.K.JournaledNode.node_number g.K.JournaledNode.shows_live) (IsUsageAt g.K.JournaledNode.node_number g.K.JournaledNode.shows_usage) (vec_len c.args.nodes.now.nodes)) c.args.count (vec_len c.args.nodes.now.nodes) c.args.number _ _ c.args.text.now speaks _ c.in-Some.asked c.in-Some.is c.in_ok-asked.ensures.sound c.in_ok-asked.ensures.whole _ c.answer_asked.ensures.made

pub returns-in-None-clause-answered : goal.returns-in-None-clause-answered
returns-in-None-clause-answered g c =
    let speaks : is_skipped c.args.text.now ≡ false = search rules in
    other_answered (IsAnswer (IsOrderedAt g.K.JournaledNode.receipt_of g.K.JournaledNode.made_at) (AreLiveAt g.K.JournaledNode.node_number g.K.JournaledNode.shows_live) (IsUsageAt g.K.JournaledNode.node_number g.K.JournaledNode.shows_usage) (vec_len c.args.nodes.now.nodes)) c.args.count (vec_len c.args.nodes.now.nodes) c.args.number _ _ c.args.text.now speaks _ c.in-None.is c.in_ok-asked.ensures.whole refl _ c.no_order.ensures

pub returns-in-Some-clause-stopped : goal.returns-in-Some-clause-stopped
returns-in-Some-clause-stopped g c =
    let speaks : is_skipped c.args.text.now ≡ false = search rules in
    asked_stopped (IsAnswer (IsOrderedAt g.K.JournaledNode.receipt_of g.K.JournaledNode.made_at) (AreLiveAt g.K.JournaledNode.node_number g.K.JournaledNode.shows_live) (IsUsageAt g.K.JournaledNode.node_number g.K.JournaledNode.shows_usage) (vec_len c.args.nodes.now.nodes)) c.args.count (vec_len c.args.nodes.now.nodes) c.args.number _ _ c.args.text.now speaks _ c.in-Some.asked c.in-Some.is c.in_ok-asked.ensures.sound c.in_ok-asked.ensures.whole _ c.answer_asked.ensures.stopped
