use Rattle.std.proofs.Common.{ap, ◌∙◌}
use Rattle.std.specs.Prelude.{option_map}
use Rattle.std.specs.Option.{option_to_list}
use Rattle.node_journal.specs.Posts.{post_of}
use Rattle.node_journal.proofs.RecordedSteps.{if_some, is_told, take_may, take_recorded, take_sent}
use Rattle.node_journal.proofs.recorded_posts.RecordedPosted.pass_through.Goals as goal

pub add-requires-clause-follows : goal.add-requires-clause-follows
add-requires-clause-follows g c =
    let posted = c.into_parts-posted.result.0 in
    take_may _ _ c.directory.inside.directory c.through.new.directory c.directory.inside.count c.directory.inside.place c.directory.invariant posted.job posted.from posted.to posted.message
    (is_told _ _ _ c.message.ensures c.is_for_directory.ensures c.if-not-is_for_directory.false) _ c.in_ok-answer.ensures.passes (ap (λ p. p.to) c.into_parts-posted.ensures.parts.0 ∙ c.requires) c.into_parts-posted.result.1.0 c.into_parts-posted.result.1.1.value c.into_parts-posted.ensures.sent
    _ c.job.ensures _ c.from.ensures _ (c.of.ensures ∙ c.message-2.ensures) _ c.of-2.ensures

pub invariant_of-directory-in-None : goal.invariant_of-directory-in-None
invariant_of-directory-in-None g c =
    let posted = c.into_parts-posted.result.0 in
    take_recorded _ _ c.directory.inside.directory c.through.new.directory c.directory.inside.count c.directory.inside.place c.directory.invariant posted.job posted.from posted.to posted.message
    (is_told _ _ _ c.message.ensures c.is_for_directory.ensures c.if-not-is_for_directory.false) _ c.in_ok-answer.ensures.passes (ap (λ p. p.to) c.into_parts-posted.ensures.parts.0 ∙ c.requires) c.into_parts-posted.result.1.0 c.into_parts-posted.result.1.1.value c.into_parts-posted.ensures.sent
    _ c.job.ensures _ c.from.ensures _ (c.of.ensures ∙ c.message-2.ensures) _ c.of-2.ensures
    c.add.new.self c.add.ensures.place c.add.ensures.goes_on _ c.in_ok-next.ensures.ok

pub invariant_of-result : goal.invariant_of-result
invariant_of-result g c =
    let posted = c.into_parts-posted.result.0 in
    let answer = c.in-Some.posted in
    let sender = if_some _ c.in_ok-answer.answer answer c.in-Some.is c.in_ok-answer.ensures.sender in
    take_sent _ _ c.directory.inside.directory c.through.new.directory c.directory.inside.count c.directory.inside.place c.directory.invariant posted.job posted.from posted.to posted.message
    (is_told _ _ _ c.message.ensures c.is_for_directory.ensures c.if-not-is_for_directory.false) _ c.in_ok-answer.ensures.passes (ap (λ p. p.to) c.into_parts-posted.ensures.parts.0 ∙ c.requires) c.into_parts-posted.result.1.0 c.into_parts-posted.result.1.1.value c.into_parts-posted.ensures.sent
    _ c.job.ensures _ c.from.ensures _ (c.of.ensures ∙ c.message-2.ensures) _ c.of-2.ensures
    c.add.new.self c.add.ensures.place c.add.ensures.goes_on answer (ap (λ o. option_to_list (option_map post_of o)) c.in-Some.is) sender.0 sender.1 _ c.sight-in-Some.ensures _ c.of-in-Some.ensures

pub invariant_of-directory-2 : goal.invariant_of-directory-2
invariant_of-directory-2 g c =
    let posted = c.into_parts-posted.result.0 in
    take_recorded _ _ c.directory.inside.directory c.through.new.directory c.directory.inside.count c.directory.inside.place c.directory.invariant posted.job posted.from posted.to posted.message
    (is_told _ _ _ c.message.ensures c.is_for_directory.ensures c.if-not-is_for_directory.false) _ c.in_ok-answer.ensures.passes (ap (λ p. p.to) c.into_parts-posted.ensures.parts.0 ∙ c.requires) c.into_parts-posted.result.1.0 c.into_parts-posted.result.1.1.value c.into_parts-posted.ensures.sent
    _ c.job.ensures _ c.from.ensures _ (c.of.ensures ∙ c.message-2.ensures) _ c.of-2.ensures
    c.add.new.self c.add.ensures.place c.add.ensures.goes_on _ c.in_ok-next.ensures.ok
