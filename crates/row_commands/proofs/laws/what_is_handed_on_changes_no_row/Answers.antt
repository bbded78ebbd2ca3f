use Rattle.row_commands.proofs.Granting.{lend_refused, lend_done}
use Rattle.row_commands.proofs.laws.what_is_handed_on_changes_no_row.Goals as goal

pub returns-clause-refused : goal.returns-clause-refused
returns-clause-refused c node line grants bytes row contents session id target h foreign r e = lend_refused node line grants bytes row contents session id target h foreign r e

pub returns-clause-ok : goal.returns-clause-ok
returns-clause-ok c node line grants bytes row contents session id target h foreign e = lend_done node line grants bytes row contents session id target h foreign e
