use Rattle.std.proofs.Common.{◌≡◌, ◌++◌}
use Rattle.node_journal.specs.Logs.{jobs_kept}
use Rattle.node_journal.proofs.logs.jobs_of.Given as goal

-- with those of the journals that are left they are all
abbrev pub invariant-loop-job : goal.invariant-loop-job
invariant-loop-job l = l.jobs.items ++ jobs_kept l.job-iterator ≡ jobs_kept l.logs.entries
