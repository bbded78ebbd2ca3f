use Rattle.std.proofs.Common.{ap, ◌∙◌}
use Rattle.node_journal.proofs.RecordedSteps.{event_may, step_mail, step_recorded}
use Rattle.node_journal.proofs.recorded.Recorded.record_step_after.Goals as goal

pub add_event-requires-clause-follows : goal.add_event-requires-clause-follows
add_event-requires-clause-follows g c =
    let made = c.in_ok-made.made in
    let done = c.in_ok-made.ensures in
    let s = done.once in
    λ seen. event_may _ _ c.self.inside.kept.node c.step_made_after.new.self.node c.self.inside.kept.number c.self.inside.kept.count c.self.inside.place c.self.invariant c.args.event.now made.reply s.given s.node s.answer
    made.receipt.node done.node made.receipt.asked.value done.stepped.asked made.receipt.whole.value done.stepped.whole seen

pub with_sight-requires : goal.with_sight-requires
with_sight-requires g c =
    let made = c.in_ok-made.made in
    let done = c.in_ok-made.ensures in
    let s = done.once in
    step_mail _ _ c.self.inside.kept.node c.step_made_after.new.self.node c.self.inside.kept.number c.self.inside.kept.count c.self.inside.place c.self.invariant c.args.event.now made.reply s.given s.node s.answer
    made.receipt.node done.node made.receipt.asked.value done.stepped.asked made.receipt.whole.value done.stepped.whole c.self.inside.place.1 c.add_event.new.place c.add_event.ensures.place c.add_event.ensures.goes_on
    c.self.inside.kept.node.works.works _ (ap (λ j. j.0) done.mail.0 ∙ s.of_job) _ s.posts _ (done.mail.1 ∙ done.node) _ c.sight.ensures

pub invariant_of-self-2 : goal.invariant_of-self-2
invariant_of-self-2 g c =
    let made = c.in_ok-made.made in
    let done = c.in_ok-made.ensures in
    let s = done.once in
    step_recorded _ _ c.self.inside.kept.node c.step_made_after.new.self.node c.self.inside.kept.number c.self.inside.kept.count c.self.inside.place c.self.invariant c.args.event.now made.reply s.given s.node s.answer
    made.receipt.node done.node made.receipt.asked.value done.stepped.asked made.receipt.whole.value done.stepped.whole c.self.inside.place.1 c.add_event.new.place c.add_event.ensures.place c.add_event.ensures.goes_on
    _ _ done.number s.count
