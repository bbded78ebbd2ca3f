use Rattle.std.proofs.Common.{◌+◌, ap, sym, subst}
use Rattle.node_gate.specs.Calls.{IsSmallCall}
use Rattle.node_journal.specs.Witnesses.{witness_of}
use Rattle.node_journal.proofs.Calls.{called_apart, small_call}
use Rattle.node_journal.proofs.kept.Kept.step_made.Goals as goal

pub returns-clause-called : goal.returns-clause-called
returns-clause-called g c =
    let old = c.args.self.now in
    let e = c.args.event.now in
    let made = c.in_ok-made.made in
    let done = c.in_ok-made.ensures in
    let response = c.into_parts.ensures in
    called_apart old.node.works.works e made.outcome.reply (witness_of made.receipt) (old.count + 1) made.outcome.judged done.receipt.1 done.receipt.2 done.asked done.whole done.judged.by_call done.answered
    _ response.reply _ (ap witness_of response.receipt)

pub returns-clause-small : goal.returns-clause-small
returns-clause-small g c =
    let e = c.args.event.now in
    subst (IsSmallCall e) (sym c.into_parts.ensures.reply) (small_call e c.in_ok-made.made.outcome.reply c.in_ok-made.ensures.small)
