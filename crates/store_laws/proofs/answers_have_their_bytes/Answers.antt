use Rattle.store_facts.proofs.AnswersAre.{bytes_are_read, answers_whole}
use Rattle.store_laws.proofs.answers_have_their_bytes.Goals as goal

pub returns-clause-response : goal.returns-clause-response
returns-clause-response c = bytes_are_read

pub returns-clause-whole : goal.returns-clause-whole
returns-clause-whole c = answers_whole
