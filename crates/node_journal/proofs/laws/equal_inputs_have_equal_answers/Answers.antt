use Rattle.node_journal.proofs.Receipts.{answers_agree}
use Rattle.node_journal.proofs.laws.equal_inputs_have_equal_answers.Goals as goal

pub returns : goal.returns
returns c = answers_agree
