use Rattle.std.proofs.Common.{◌≡◌, ◌==◌, ◌++◌, append-nil, sym, ap, subst, ◌∙◌}
use Rattle.std.specs.List.{list_any, IsDistinct}
use Rattle.std.proofs.lemmas.Map.Made.{IsDistinct-keys_filter}
use Rattle.private_store.specs.rules.Jobs.{same_job}
use Rattle.node_journal.specs.Logs.{was_kept, jobs_kept}
use Rattle.node_journal.proofs.JobsKept.{jobs_are}
use Rattle.node_journal.proofs.logs.jobs_of.Goals as goal

pub returns-clause-kept : goal.returns-clause-kept
returns-clause-kept c = λ job.
    let jobs = c.loop-job.jobs.items in
    ap (list_any (λ own. own.0 == job)) (sym (append-nil jobs) ∙ ap (λ es. jobs ++ jobs_kept es) (sym c.in-None.ensures.steps.0) ∙ c.loop-job.invariant)
    ∙ jobs_are job c.args.logs.now.entries c.len.ensures.unique

pub returns-clause-once : goal.returns-clause-once
returns-clause-once c =
    let jobs = c.loop-job.jobs.items in
    let all : jobs ≡ jobs_kept c.args.logs.now.entries = sym (append-nil jobs) ∙ ap (λ es. jobs ++ jobs_kept es) (sym c.in-None.ensures.steps.0) ∙ c.loop-job.invariant in
    subst (IsDistinct same_job) (sym all) (IsDistinct-keys_filter same_job (λ e. was_kept e.1.journal) c.args.logs.now.entries c.len.ensures.unique)
