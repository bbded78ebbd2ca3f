use Rattle.std.proofs.Common.{refl}
use Rattle.object_state.proofs.Answering.{marks_are_answered}
use Rattle.object_state.proofs.laws.marks_change_as_copies_do.Goals as goal

pub returns-clause-created : goal.returns-clause-created
returns-clause-created c kind n offset = refl

pub returns-clause-fetched : goal.returns-clause-fetched
returns-clause-fetched c number = refl

pub returns-clause-answered : goal.returns-clause-answered
returns-clause-answered c = marks_are_answered
