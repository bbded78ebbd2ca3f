use Rattle.std.proofs.Common.{sym, ◌∙◌}
use Rattle.node_journal.specs.Logs.{journal_of}
use Rattle.node_journal.proofs.Bases.{base_is, taken_is}
use Rattle.node_journal.proofs.folding.base_of.Goals as goal

pub returns : goal.returns
returns c =
    let node = c.args.node.now in
    let journals = journal_of c.args.logs.now in
    let store = base_is node journals c.args.job.0 c.in_ok-snapshot.field-0 c.requires (λ view h begun. c.in_ok-snapshot.ensures view h (begun ∙ sym c.has_begun.ensures)) in
    let taken = c.taken.ensures ∙ taken_is node journals c.args.job c.requires in
    λ i. record { store = store i; taken = taken i }
