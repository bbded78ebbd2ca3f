use Rattle.std.proofs.Common.{refl}
use Rattle.session_engine.proofs.session.answer_entered.Goals as goal

pub returns-in-Hello-clause-answer : goal.returns-in-Hello-clause-answer
returns-in-Hello-clause-answer g c = rw c.in-Hello.is (record { answered = refl; gate = refl; same = refl })

pub returns-in-Command-clause-answer : goal.returns-in-Command-clause-answer
returns-in-Command-clause-answer g c = rw c.in-Command.is (record { answered = c.call.ensures.gives; same = refl })

pub returns-in-Wait-clause-answer : goal.returns-in-Wait-clause-answer
returns-in-Wait-clause-answer g c = rw c.in-Wait.is (record { answered = c.call_wait.ensures.gives; same = refl })

pub returns-in-BadId-clause-answer : goal.returns-in-BadId-clause-answer
returns-in-BadId-clause-answer g c = rw c.in-BadId.is (record { answered = refl; gate = refl; same = refl })
