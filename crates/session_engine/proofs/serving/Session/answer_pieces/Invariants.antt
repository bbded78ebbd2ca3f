use Rattle.std.proofs.Common.{◌<◌, vec_len}
use Rattle.session_engine.specs.Sessions.{session_state}
use Rattle.session_engine.proofs.Progress.{Progress}
use Rattle.session_engine.proofs.serving.Session.answer_pieces.Given as goal

abbrev pub invariant-loop : goal.invariant-loop
invariant-loop g l = record {
  room : 0 < vec_len l.buffer;
  progress : Progress g.G.Gate.gives (g.R.Read.remaining l.fn.reader) (session_state l.fn.gate l.fn.self.session_id (g.W.Write.contents l.fn.writer))
      l.self.frames (g.R.Read.remaining l.reader) (session_state l.gate l.self.session_id (g.W.Write.contents l.writer));
}
