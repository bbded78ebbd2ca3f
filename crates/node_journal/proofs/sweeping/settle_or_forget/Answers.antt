use Rattle.std.proofs.Common.{◌==◌, sym, ◌∙◌}
use Rattle.node_journal.specs.Logs.{journal_of}
use Rattle.node_journal.proofs.Swept.{all_settled, is_fresh}
use Rattle.node_journal.proofs.sweeping.settle_or_forget.Goals as goal

pub forget-requires : goal.forget-requires
forget-requires c =
    is_fresh c.args.node.now (journal_of c.absorb_notes.new.logs) c.args.job.0
    (all_settled c.args.node.now (journal_of c.args.logs.now) (journal_of c.absorb_notes.new.logs) (λ job. c.args.job.0 == job) c.in_ok-absorb_notes.ensures.absorbed c.requires)
    (sym c.seems_fresh.ensures ∙ c.if-seems_fresh.true)
