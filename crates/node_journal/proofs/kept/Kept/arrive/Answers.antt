use Rattle.std.proofs.Common.{sym, subst, ◌∙◌}
use Rattle.node_core.specs.Judged.{IsArrivalJudged}
use Rattle.node_journal.proofs.Posting.{one_arrival}
use Rattle.node_journal.proofs.kept.Kept.arrive.Goals as goal

pub returns-in_ok-take_in-in-Some-clause-judged : goal.returns-in_ok-take_in-in-Some-clause-judged
returns-in_ok-take_in-in-Some-clause-judged g c a is =
    let made = c.in_ok-take_in-in-Some.field-0.outcome in
    subst (λ x. IsArrivalJudged c.args.self.now.node c.args.posted.job x made.reply made.judged) (one_arrival _ _ _ (sym c.arrival.ensures ∙ c.in-Some.is) is) c.in_ok-take_in-in-Some.ensures.judged
