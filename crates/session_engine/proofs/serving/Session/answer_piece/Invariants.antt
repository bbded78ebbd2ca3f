use Rattle.std.proofs.Common.{length}
use Rattle.session_engine.specs.Sessions.{session_state}
use Rattle.session_engine.proofs.Parts.{InPiece}
use Rattle.session_engine.proofs.serving.Session.answer_piece.Given as goal

abbrev pub invariant-loop-rest : goal.invariant-loop-rest
invariant-loop-rest g l =
    InPiece g.G.Gate.gives l.fn.self.frames l.fn.piece (session_state l.fn.gate l.fn.self.session_id (g.W.Write.contents l.fn.writer))
    l.self.frames l.rest (session_state l.gate l.self.session_id (g.W.Write.contents l.writer))

abbrev pub decreases-loop-rest : goal.decreases-loop-rest
decreases-loop-rest g l = length l.rest
