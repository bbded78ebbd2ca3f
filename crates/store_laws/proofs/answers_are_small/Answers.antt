use Rattle.store_facts.proofs.AnswersAre.{answers_small, unbegun_within, within_keeps}
use Rattle.store_laws.proofs.answers_are_small.Goals as goal

pub returns-clause-small : goal.returns-clause-small
returns-clause-small c = answers_small

pub returns-clause-begins : goal.returns-clause-begins
returns-clause-begins c = unbegun_within

pub returns-clause-keeps : goal.returns-clause-keeps
returns-clause-keeps c = within_keeps
