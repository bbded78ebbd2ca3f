use Rattle.session_engine.proofs.Writing.{Begun}
use Rattle.session_engine.proofs.sending.write_whole.Given as goal

abbrev pub invariant-loop : goal.invariant-loop
invariant-loop g l = Begun l.fn.bytes (g.W.Write.contents l.fn.writer) l.rest (g.W.Write.contents l.writer)
