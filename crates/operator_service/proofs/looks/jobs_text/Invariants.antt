use Rattle.std.proofs.Common.{◌≡◌, ◌++◌, drop}
use Rattle.std.specs.String.{string_bytes}
use Rattle.operator_service.specs.Looks.{jobs_text}
use Rattle.operator_service.proofs.looks.jobs_text.Given as goal

abbrev pub invariant-loop-job : goal.invariant-loop-job
invariant-loop-job l = string_bytes l.text ++ jobs_text (drop l.job-index l.jobs) ≡ jobs_text l.jobs
