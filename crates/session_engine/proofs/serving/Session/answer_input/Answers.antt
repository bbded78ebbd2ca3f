use Rattle.session_engine.proofs.Progress.{no_buffer}
use Rattle.session_engine.proofs.serving.Session.answer_input.Goals as goal

pub returns-in_default : goal.returns-in_default
returns-in_default g c = no_buffer g.G.Gate.gives _ _
