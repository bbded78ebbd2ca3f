use Rattle.row_commands.proofs.Granting.{withdraw_refused, give_back_done}
use Rattle.row_commands.proofs.laws.what_is_taken_back_changes_no_row.Goals as goal

pub returns-clause-refused : goal.returns-clause-refused
returns-clause-refused c node line grants bytes row contents session id target h r e = withdraw_refused node line grants bytes row contents session id target h r e

pub returns-clause-ok : goal.returns-clause-ok
returns-clause-ok c node line grants bytes row contents session id target h foreign e = give_back_done node line grants bytes row contents session id target h foreign e
