use Rattle.object_state.proofs.Answering.{evictable_same, passing_same, spillable_same}
use Rattle.object_state.proofs.laws.words_of_marks_are_the_stores.Goals as goal

pub returns-clause-evictable : goal.returns-clause-evictable
returns-clause-evictable c = evictable_same

pub returns-clause-draining : goal.returns-clause-draining
returns-clause-draining c = passing_same

pub returns-clause-spillable : goal.returns-clause-spillable
returns-clause-spillable c = spillable_same
