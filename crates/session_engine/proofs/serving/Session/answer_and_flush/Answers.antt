use Rattle.std.proofs.Common.{sym, ◌∙◌}
use Rattle.session_engine.proofs.Answering.{passed_on, stopped_after, stopped_before}
use Rattle.session_engine.proofs.Hearing.{no_frame_heard, refusing_stopped, refused_stopped}
use Rattle.session_engine.proofs.serving.Session.answer_and_flush.Goals as goal

pub returns-in_err-answer_piece : goal.returns-in_err-answer_piece
returns-in_err-answer_piece g c =
    rw (passed_on _ c.in_err-answer_piece.field-0.0 c.from_residual.ensures.1) (stopped_before g.G.Gate.gives _ _ _ _ _ c.in_err-answer_piece.ensures)

pub returns-in_err-send : goal.returns-in_err-send
returns-in_err-send g c =
    rw (passed_on _ c.in_err-send.field-0.0 c.from_residual-in_err-send.ensures.1)
    (refusing_stopped g.G.Gate.gives c.args.self.now.frames c.args.piece.now _ _ c.answer_piece.new.self.frames c.in_ok-answer_piece.ensures _
    (sym c.has_fault.ensures ∙ c.if-has_fault.true) (g.W.Write.contents c.send.new.writer) c.in_err-send.ensures)

pub returns-in_err-flush : goal.returns-in_err-flush
returns-in_err-flush g c =
    rw (passed_on _ c.in_err-flush.field-0.0 c.from_residual-in_err-flush.ensures.1)
    (refused_stopped g.G.Gate.gives c.args.self.now.frames c.args.piece.now _ _ c.answer_piece.new.self.frames c.in_ok-answer_piece.ensures _
    (sym c.has_fault.ensures ∙ c.if-has_fault.true) (g.W.Write.contents c.send.new.writer) _ c.in_ok-send.ensures c.in_err-flush.ensures)

pub returns-then-has_fault : goal.returns-then-has_fault
returns-then-has_fault g c =
    no_frame_heard g.G.Gate.gives c.args.self.now.frames c.args.piece.now _ _ c.answer_piece.new.self.frames c.in_ok-answer_piece.ensures
    (g.W.Write.contents c.send.new.writer) _ (sym c.has_fault.ensures ∙ c.if-has_fault.true) c.in_ok-send.ensures c.in_ok-flush.ensures

pub returns-in_err-flush-2 : goal.returns-in_err-flush-2
returns-in_err-flush-2 g c =
    rw (passed_on _ c.in_err-flush-2.field-0.0 c.from_residual-in_err-flush-2.ensures.1)
    (stopped_after g.G.Gate.gives _ _ _ _ _ _ c.in_ok-answer_piece.ensures.1 c.in_err-flush-2.ensures)
