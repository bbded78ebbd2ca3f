use Rattle.std.proofs.Common.{ℕ, ◌≡◌, ◌+◌, ◌-◌, ◌≤◌, Some, sym, ap, subst, ◌∙◌, arith}
use Rattle.private_store.specs.rules.Cluster.{arrival_of}
use Rattle.cluster_history.specs.Histories.{count_at}
use Rattle.node_journal.specs.Witnesses.{IsArrived, witness_of}
use Rattle.node_journal.specs.Recorded.{IsLastIn}
use Rattle.node_journal.proofs.RecordedSteps.{delivered_by, delivery_may, delivery_mail, delivery_recorded, last_of}
use Rattle.node_journal.proofs.recorded.Recorded.record_arrival.Goals as goal

pub overflow_sub-count : goal.overflow_sub-count
overflow_sub-count g c =
    let done = c.in_ok-made.ensures in
    omega (arith, c.entries-count.ensures, (done.once done.is.0 done.is.1).step.count)

pub add-requires-clause-counted : goal.add-requires-clause-counted
add-requires-clause-counted g c =
    let done = c.in_ok-made.ensures in
    let r = c.self.invariant in
    ap (λ k. count_at g.S.ClusterShape.nodes k c.self.inside.place.1) r.stands ∙ (r.counted ∙ omega (arith, c.entries-count.ensures, (done.once done.is.0 done.is.1).step.count))

pub add-requires-clause-follows : goal.add-requires-clause-follows
add-requires-clause-follows g c =
    let made = c.in_ok-made.made in
    let done = c.in_ok-made.ensures in
    let posted = c.into_parts-posted.result.0 in
    let a = done.is.0 in
    let s = (done.once a done.is.1).step in
    delivery_may _ _ c.self.inside.kept.node c.arrive_made.new.self.node c.self.inside.kept.number c.self.inside.kept.count c.self.inside.place c.self.invariant
    posted.job posted.from posted.message a made.reply s.given s.node s.answer done.is.1 posted.to done.here c.into_parts-posted.result.1.0 c.into_parts-posted.result.1.1.value c.into_parts-posted.ensures.sent
    _ c.job-job.ensures _ c.from-from.ensures _ c.to-to.ensures _ (c.of-message.ensures ∙ c.message.ensures) _ c.of.ensures

pub with_sight-requires : goal.with_sight-requires
with_sight-requires g c =
    let made = c.in_ok-made.made in
    let done = c.in_ok-made.ensures in
    let posted = c.into_parts-posted.result.0 in
    let a = done.is.0 in
    let s = (done.once a done.is.1).step in
    delivery_mail _ _ c.self.inside.kept.node c.arrive_made.new.self.node c.self.inside.kept.number c.self.inside.kept.count c.self.inside.place c.self.invariant
    posted.job posted.from posted.message a made.reply s.given s.node s.answer done.is.1 posted.to done.here c.into_parts-posted.result.1.0 c.into_parts-posted.result.1.1.value c.into_parts-posted.ensures.sent
    _ c.job-job.ensures _ c.from-from.ensures _ c.to-to.ensures _ (c.of-message.ensures ∙ c.message.ensures) _ c.of.ensures
    c.add.new.self c.add.ensures.place c.add.ensures.goes_on _ (ap (λ j. j.0) (done.mail.0 ∙ done.of_job)) _ s.posts _ (done.mail.1 ∙ done.node) _ c.sight-2.ensures

pub invariant_of-self-2 : goal.invariant_of-self-2
invariant_of-self-2 g c =
    let made = c.in_ok-made.made in
    let done = c.in_ok-made.ensures in
    let posted = c.into_parts-posted.result.0 in
    let a = done.is.0 in
    let s = (done.once a done.is.1).step in
    delivery_recorded _ _ c.self.inside.kept.node c.arrive_made.new.self.node c.self.inside.kept.number c.self.inside.kept.count c.self.inside.place c.self.invariant
    posted.job posted.from posted.message a made.reply s.given s.node s.answer done.is.1 posted.to done.here c.into_parts-posted.result.1.0 c.into_parts-posted.result.1.1.value c.into_parts-posted.ensures.sent
    _ c.job-job.ensures _ c.from-from.ensures _ c.to-to.ensures _ (c.of-message.ensures ∙ c.message.ensures) _ c.of.ensures
    c.add.new.self c.add.ensures.place c.add.ensures.goes_on _ _ done.number s.count

pub returns-clause-arrived : goal.returns-clause-arrived
returns-clause-arrived g c a is =
    let made = c.in_ok-made.made in
    let done = c.in_ok-made.ensures in
    let given = c.with_sight.ensures.receipt in
    let parts = c.into_parts-posted.ensures.parts in
    let own = c.args.posted in
    let arrives = subst (λ p. arrival_of p.from p.message ≡ Some a) (sym parts.0) is in
    let happened = subst (λ t. IsArrived own.0.job a (witness_of t)) (sym given.0) (subst (λ p. IsArrived p.job a (witness_of made.receipt)) parts.0 (done.arrived a arrives)) in
    let whole = ap (λ t. (witness_of t).whole) given.0 ∙ (done.once a arrives).step.whole in
    let went = delivered_by _ _ _ _ _
    _ _ (c.job-job.ensures ∙ ap (λ p. p.job) parts.0) _ _ (c.from-from.ensures ∙ ap (λ p. p.from) parts.0) _ _ (c.to-to.ensures ∙ ap (λ p. p.to) parts.0) _ _ ((c.of-message.ensures ∙ c.message.ensures) ∙ ap (λ p. p.message) parts.0)
    _ _ parts.1.0 _ _ parts.1.1 _ _ (c.of.ensures ∙ sym whole) c.add.ensures.goes_on
    in
    (happened, subst (IsLastIn _) (sym (given.1 ∙ c.sight-2.ensures)) (last_of _ _ _ _ _ _ _ went))
