use Rattle.std.proofs.Common.{refl}
use Rattle.store_facts.proofs.ReplayLemmas.{replayed-lines, IsReplayed-lines}
use Rattle.store_laws.proofs.journals_replay.Goals as goal

pub returns-clause-step : goal.returns-clause-step
returns-clause-step c node view x = refl

pub returns-clause-state : goal.returns-clause-state
returns-clause-state c = replayed-lines

pub returns-clause-answers : goal.returns-clause-answers
returns-clause-answers c = IsReplayed-lines
