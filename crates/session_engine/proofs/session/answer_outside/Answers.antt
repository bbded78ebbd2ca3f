use Rattle.std.proofs.Common.{◌∙◌}
use Rattle.session_engine.proofs.session.answer_outside.Goals as goal
use Rattle.session_engine.proofs.session.answer_outside.Goals.{in-Hello, in-Command, in-Wait, in-BadId}

pub returns-clause-answer : goal.returns-clause-answer
returns-clause-answer g c = elim c.match-item.branch [
  | in-Hello w ↦ rw (w.in-Hello.is, w.result-is, w.gate-is, w.session_id-is) w.enter.ensures.answer
  | in-Command w ↦ rw w.in-Command.is (record { answered = w.result-is; gate = w.gate-is; same = w.session_id-is ∙ c.requires })
  | in-Wait w ↦ rw w.in-Wait.is (record { answered = w.result-is; gate = w.gate-is; same = w.session_id-is ∙ c.requires })
  | in-BadId w ↦ rw w.in-BadId.is (record { answered = w.result-is; gate = w.gate-is; same = w.session_id-is ∙ c.requires })
]
