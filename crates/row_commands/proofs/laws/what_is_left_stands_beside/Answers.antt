use Rattle.std.specs.Prelude.{[]}
use Rattle.private_store.specs.rules.Shape.{live}
use Rattle.row_commands.proofs.Notes.{row_ends, bare_ends, none_given}
use Rattle.row_commands.proofs.laws.what_is_left_stands_beside.Goals as goal

pub returns-clause-row : goal.returns-clause-row
returns-clause-row c grants bytes test are node line row view h = row_ends grants bytes test are node line row view h

pub returns-clause-bare : goal.returns-clause-bare
returns-clause-bare c grants bytes test are node job life none = bare_ends grants bytes test are node job life none

pub returns-clause-none : goal.returns-clause-none
returns-clause-none c grants test are job none = none_given grants (λ id. []) test are 0 job live none
