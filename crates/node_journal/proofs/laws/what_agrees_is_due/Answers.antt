use Rattle.std.proofs.Common.{◌==◌}
use Rattle.node_journal.specs.Logs.{journal_of}
use Rattle.node_journal.proofs.Receipts.{receipt_due}
use Rattle.node_journal.proofs.laws.what_agrees_is_due.Goals as goal

pub returns : goal.returns
returns g c agrees =
    let kept = c.args.kept.now in
    let receipt = c.args.receipt.now in
    receipt_due kept.node (journal_of kept.logs) receipt.job.0 (receipt.node == kept.number) receipt.entry kept.response agrees
