use Rattle.std.proofs.Common.{ℕ, ◌+◌, ◌≤◌, ◌<◌, List, sym, subst, arith}
use Rattle.private_store.specs.declared.schedules.Traced.{Traced}
use Rattle.cluster_history.specs.Sending.{IsSentBy}
use Rattle.node_journal.proofs.RecordedSteps.{next_left, next_sent}
use Rattle.node_journal.proofs.recorded_posts.RecordedMailIterator.next.Goals as goal

pub invariant_of-result : goal.invariant_of-result
invariant_of-result g c =
    let p = c.in_ok-posted.posted in
    let sent = next_sent g.S.ClusterShape.nodes c.self.inside.mail c.next.new.self p c.in_ok-posted.ensures.steps c.self.inside.sight c.self.inside.given c.self.invariant.0 in
    subst (λ (l : List Traced). ∥ IsSentBy g.S.ClusterShape.nodes p.job.0 p.from p.to p.message l c.of-index.result.value ∥₁) (sym c.again.ensures)
    (subst (λ (n : ℕ). ∥ IsSentBy g.S.ClusterShape.nodes p.job.0 p.from p.to p.message c.self.inside.sight n ∥₁) (sym c.of-index.ensures) sent)

pub invariant_of-self-2 : goal.invariant_of-self-2
invariant_of-self-2 g c =
    let p = c.in_ok-posted.posted in (
      next_left g.S.ClusterShape.nodes c.self.inside.mail c.next.new.self p c.in_ok-posted.ensures.steps c.self.inside.sight c.self.inside.given c.self.invariant.0,
      omega (arith, c.self.invariant.1, (c.in_ok-posted.ensures.goes.on tt).2),
    )
