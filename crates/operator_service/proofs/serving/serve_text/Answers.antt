use Rattle.std.proofs.Common.{◌≡◌, vec_len, subst}
use Rattle.operator_service.specs.Servings.{CarriesOut, IsOrderedAt, IsSpelled, ServesLine, StepsStopped, StopsOrder, close_line}
use Rattle.operator_service.proofs.Serves.{begun, reading_failed, input_ended, closed, line_stopped, line_more, too_many}
use Rattle.operator_service.proofs.serving.serve_text.Goals as goal

pub loop-number-init : goal.loop-number-init
loop-number-init g c = begun _ c.args.count _ _ _

pub returns-in-Err : goal.returns-in-Err
returns-in-Err g c = reading_failed _ _ _ _ _ _ _ _ _ c.loop-number.invariant _ _ c.next_line.ensures.consumed _ c.in-Err.fault c.in-Err.ensures.fault

pub returns-in-Ok-false : goal.returns-in-Ok-false
returns-in-Ok-false g c = input_ended _ _ _ _ _ _ _ _ _ c.loop-number.invariant _ _ c.next_line.ensures.consumed _ (c.in-Ok-false.ensures.end c.in-Ok-false.field-0-test)

pub returns-in-Err-serve_line : goal.returns-in-Err-serve_line
returns-in-Err-serve_line g c =
    let w = g.O.Write.contents c.loop-number.writer in
    let w1 = g.O.Write.contents c.serve_line.new.writer in
    let stops = subst (λ b. StopsOrder c.args.count (vec_len c.args.nodes.now.nodes) c.loop-number.number b w w1 c.in-Err-serve_line.fault) c.deref.ensures.value c.in-Err-serve_line.ensures.err in
    let steps = subst (λ b. StepsStopped (IsSpelled c.args.count b) c.loop-number.actor c.serve_line.new.actor c.in-Err-serve_line.fault) c.deref.ensures.value c.in-Err-serve_line.ensures.stopped in
    line_stopped _ _ _ _ _ _ _ _ _ c.loop-number.invariant _ _ c.next_line.ensures.consumed _ c.in-Ok-true.ensures.whole _ _ c.in-Err-serve_line.fault stops steps

pub returns-in-Ok-false-serve_line : goal.returns-in-Ok-false-serve_line
returns-in-Ok-false-serve_line g c =
    let w = g.O.Write.contents c.loop-number.writer in
    let w1 = g.O.Write.contents c.serve_line.new.writer in
    let response = subst (λ go. ServesLine (IsOrderedAt g.K.JournaledNode.receipt_of g.K.JournaledNode.made_at) c.args.count c.deref.result.now c.loop-number.actor c.serve_line.new.actor w w1 go) c.in-Ok-false-serve_line.field-0-test c.in-Ok-false-serve_line.ensures.ok in
    closed _ _ _ _ _ _ _ _ _ c.loop-number.invariant _ _ c.next_line.ensures.consumed _ _ w1 (subst (λ b. b ≡ close_line) c.deref.ensures.value response.0) response.1 response.2

pub loop-number-preserved : goal.loop-number-preserved
loop-number-preserved g c =
    let w = g.O.Write.contents c.loop-number.writer in
    let w1 = g.O.Write.contents c.serve_line.new.writer in
    let response = subst (λ go. ServesLine (IsOrderedAt g.K.JournaledNode.receipt_of g.K.JournaledNode.made_at) c.args.count c.deref.result.now c.loop-number.actor c.serve_line.new.actor w w1 go) c.in-Ok-true-serve_line.field-0-test c.in-Ok-true-serve_line.ensures.ok in
    line_more _ _ _ _ _ _ _ _ _ c.loop-number.invariant _ _ c.next_line.ensures.consumed _ w1 (subst (λ b. CarriesOut (IsOrderedAt g.K.JournaledNode.receipt_of g.K.JournaledNode.made_at) c.args.count b c.loop-number.actor c.serve_line.new.actor w w1) c.deref.ensures.value response)

pub returns : goal.returns
returns g c = too_many _ _ _ _ _ _ _ _ _ c.loop-number.invariant _
