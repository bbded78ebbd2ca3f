use Rattle.std.proofs.Common.{ℕ, List, vec_len, subst}
use Rattle.operator_service.specs.Attending.{IsAnswer, IsAnswerText, IsAskedFor, Replies}
use Rattle.operator_service.specs.Servings.{IsOrderedAt, MayStep}
use Rattle.operator_service.proofs.Attends.{begun, input_ended, line_stopped, line_more, line_last, one_text}
use Rattle.shared_nodes.specs.Looking.{AreLiveAt, IsUsageAt}
use Rattle.operator_service.proofs.attending.attend.Goals as goal

pub loop-number-init : goal.loop-number-init
loop-number-init g c = begun _ _ _ _ _ _

pub returns-in-Ok-None : goal.returns-in-Ok-None
returns-in-Ok-None g c = input_ended _ _ _ _ _ _ _ _ _ _ c.loop-number.invariant _ (rw c.in-Ok-None.field-0-is at c.in-Ok-None.ensures.taken)

pub returns-in-Err-reply_to : goal.returns-in-Err-reply_to
returns-in-Err-reply_to g c = line_stopped _ _ _ _ _ _ _ _ _ _ c.loop-number.invariant _ _ _ (one_text _ _ _ _ (rw c.in-Ok-Some.field-0-is at c.in-Ok-Some.ensures.taken)) _ _ c.in-Err-reply_to.fault c.in-Err-reply_to.ensures.err
    (subst (λ b. (text : List ℕ) → IsAnswerText c.in-Ok-Some.taken b text → MayStep (IsAskedFor c.args.count text) c.loop-number.actor c.reply_to.new.actor) c.deref.ensures.value c.in-Err-reply_to.ensures.stopped)

pub returns-in-Ok-true : goal.returns-in-Ok-true
returns-in-Ok-true g c =
    let w = g.O.Write.contents c.loop-number.writer in
    let w1 = g.O.Write.contents c.reply_to.new.writer in
    line_last _ _ _ _ _ _ _ _ _ _ c.loop-number.invariant _ _ c.in-Ok-Some.taken (one_text _ _ _ _ (rw c.in-Ok-Some.field-0-is at c.in-Ok-Some.ensures.taken)) _ w1 c.in-Ok-true.field-0
    (subst (λ b. (text : List ℕ) → IsAnswerText c.in-Ok-Some.taken b text → Replies (IsAnswer (IsOrderedAt g.K.JournaledNode.receipt_of g.K.JournaledNode.made_at) (AreLiveAt g.K.JournaledNode.node_number g.K.JournaledNode.shows_live) (IsUsageAt g.K.JournaledNode.node_number g.K.JournaledNode.shows_usage) (vec_len c.args.nodes.now.nodes)) c.args.count (vec_len c.args.nodes.now.nodes) c.loop-number.number text c.loop-number.actor c.reply_to.new.actor w w1 c.in-Ok-true.field-0) c.deref.ensures.value c.in-Ok-true.ensures.ok)
    c.in-Ok-true.field-0-test

pub loop-number-preserved : goal.loop-number-preserved
loop-number-preserved g c =
    let w = g.O.Write.contents c.loop-number.writer in
    let w1 = g.O.Write.contents c.reply_to.new.writer in
    line_more _ _ _ _ _ _ _ _ _ _ c.loop-number.invariant _ _ c.in-Ok-Some.taken (one_text _ _ _ _ (rw c.in-Ok-Some.field-0-is at c.in-Ok-Some.ensures.taken)) _ w1 c.in-Ok-false.field-0
    (subst (λ b. (text : List ℕ) → IsAnswerText c.in-Ok-Some.taken b text → Replies (IsAnswer (IsOrderedAt g.K.JournaledNode.receipt_of g.K.JournaledNode.made_at) (AreLiveAt g.K.JournaledNode.node_number g.K.JournaledNode.shows_live) (IsUsageAt g.K.JournaledNode.node_number g.K.JournaledNode.shows_usage) (vec_len c.args.nodes.now.nodes)) c.args.count (vec_len c.args.nodes.now.nodes) c.loop-number.number text c.loop-number.actor c.reply_to.new.actor w w1 c.in-Ok-false.field-0) c.deref.ensures.value c.in-Ok-false.ensures.ok)
