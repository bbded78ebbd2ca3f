use Rattle.std.specs.Prelude.{[]}
use Rattle.row_commands.proofs.Notes.{rest_of_other, rest_of_task, rest_of_job}
use Rattle.row_commands.proofs.laws.what_is_told_first_leaves_the_rest.Goals as goal

pub returns-clause-other : goal.returns-clause-other
returns-clause-other c line grants bytes job grantor test own other = rest_of_other grants bytes job line grantor test own other

pub returns-clause-task : goal.returns-clause-task
returns-clause-task c line grants bytes job task = rest_of_task grants bytes job line task

pub returns-clause-job : goal.returns-clause-job
returns-clause-job c grants job = rest_of_job grants (λ id. []) job
