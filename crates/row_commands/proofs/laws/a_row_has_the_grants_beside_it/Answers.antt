use Rattle.row_commands.proofs.Notes.{row_has_grants}
use Rattle.row_commands.proofs.laws.a_row_has_the_grants_beside_it.Goals as goal

pub returns : goal.returns
returns c line grants bytes row = row_has_grants line grants bytes row
