use Rattle.session_engine.proofs.Answering.{answering_after, answering_one, passed_on, stopped_at_flush}
use Rattle.session_engine.proofs.serving.Session.answer_one.Goals as goal

pub returns-in_err-flush_before-clause-answers : goal.returns-in_err-flush_before-clause-answers
returns-in_err-flush_before-clause-answers g c =
    rw (passed_on _ c.in_err-flush_before.field-0.0 c.from_residual.ensures.1)
    (stopped_at_flush g.G.Gate.gives _ _ _ _ c.in_err-flush_before.ensures)

pub returns-clause-answers : goal.returns-clause-answers
returns-clause-answers g c =
    answering_after g.G.Gate.gives _ _ _ _ (g.W.Write.contents c.flush_before.new.writer) _ c.send.result c.in_ok-flush_before.ensures
    (answering_one g.G.Gate.gives c.args.item c.answer-reply.result _ _ c.send.result c.answer-reply.ensures.answer c.send.ensures)
