use Rattle.std.proofs.Common.{ap, ◌∙◌}
use Rattle.node_journal.specs.Logs.{journal_of}
use Rattle.node_journal.proofs.Swept.{journals_stay, job_is_gone}
use Rattle.node_journal.proofs.logs.Logs.forget.Goals as goal

pub returns-clause-journals : goal.returns-clause-journals
returns-clause-journals c = λ other.
    journals_stay c.args.job c.self.inside.logs.entries c.swap_remove.new.self.entries c.swap_remove.ensures.updates.0
    (ap (λ m. journal_of m c.args.job.0) c.self.view_is ∙ c.requires) other
    ∙ ap (λ m. journal_of m other) c.self.view_is

pub returns-clause-forgotten : goal.returns-clause-forgotten
returns-clause-forgotten c = job_is_gone c.args.job c.self.inside.logs.entries c.swap_remove.new.self.entries c.swap_remove.ensures.updates.0
