use Rattle.node_journal.specs.Journals.{is_live_in}
use Rattle.node_journal.specs.Logs.{journal_of}
use Rattle.node_journal.proofs.Swept.{sweep_agrees}
use Rattle.node_journal.proofs.kept.Kept.sweep.Goals as goal

pub returns-clause-agreed : goal.returns-clause-agreed
returns-clause-agreed g c = λ here entry job.
    let old = c.args.self.now in
    sweep_agrees old.count (is_live_in old.node job) here entry (journal_of old.logs job) (journal_of c.loop.self.logs job) (old.numbered job) (c.loop.invariant.journals job)
