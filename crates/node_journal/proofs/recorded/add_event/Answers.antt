use Rattle.node_journal.proofs.RecordedSteps.{comes_after, own_goes_on}
use Rattle.node_journal.proofs.recorded.add_event.Goals as goal

pub add-requires-clause-follows : goal.add-requires-clause-follows
add-requires-clause-follows g c = λ before also. c.requires.follows before

pub returns-clause-goes_on : goal.returns-clause-goes_on
returns-clause-goes_on g c = own_goes_on _ _ _ _ _ _ _ c.add.ensures.goes_on

pub returns-clause-after : goal.returns-clause-after
returns-clause-after g c = comes_after _ _ _ _ _ _ _ c.add.ensures.goes_on
