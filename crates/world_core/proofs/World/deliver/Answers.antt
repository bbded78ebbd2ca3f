use Rattle.std.proofs.Common.{◌≡◌, true, None, [], length, refl, ap, sym, subst, ◌∙◌}
use Rattle.std.specs.Prelude.{option_copied}
use Rattle.obj_id.specs.declared.commands.Reply.TheVariants as reply
use Rattle.obj_id.specs.declared.messages.Endpoint.TheVariants as places
use Rattle.obj_id.specs.declared.refusals.Refusal.TheVariants.{Stale}
use Rattle.private_store.specs.declared.schedules.Step.TheVariants as steps
use Rattle.private_store.specs.declared.schedules.StepAnswer.TheVariants.{Response}
use Rattle.private_store.specs.rules.Trace.{is_no_memory}
use Rattle.world_core.specs.Worlds.{is_place}
use Rattle.world_core.specs.WorldSteps.{WorldStep, as_damaged}
use Rattle.world_core.specs.Noting.{IsNoted, finds_nothing, tells_directory}
use Rattle.world_core.proofs.HandedOver.{none_delivered, nodes_stay, one_delivered, handed_answered, if_ok}
use Rattle.world_core.proofs.World.deliver.Goals as goal

pub returns-in_default-clause-ok : goal.returns-in_default-clause-ok
returns-in_default-clause-ok c =
    subst (λ response. WorldStep c.args.self.now c.args.self.now (steps.Deliver c.args.job c.args.from c.args.to c.args.number c.args.damaged) response) (sym (ap (λ s. s.answer) c.alone.ensures))
    (none_delivered _ c.args.self.now c.self.view_is c.args.job c.args.from c.args.to c.args.number c.args.damaged (option_copied c.find.result) c.find.ensures (ap option_copied c.in_default.is))

pub returns-in-Node-clause-ok : goal.returns-in-Node-clause-ok
returns-in-Node-clause-ok c =
    if_ok c.deliver_to_node.result c.deliver_to_node.ensures.ok (λ s k.
    one_delivered _ c.args.self.now c.self.view_is c.args.job c.args.from c.args.to c.args.number c.args.damaged (option_copied c.find.result) c.find.ensures
    c.in-Some.sent.now (ap option_copied c.in-Some.is) c.deliver_to_node.new.self c.in_ok-message.message s.answer (places.Node c.in-Node.place) c.in_ok-message.ensures c.in-Node.is k)

pub returns-in_ok-answer-in-Directory-clause-ok : goal.returns-in_ok-answer-in-Directory-clause-ok
returns-in_ok-answer-in-Directory-clause-ok c =
    subst (λ response. WorldStep c.args.self.now c.deliver_to_directory.new.self (steps.Deliver c.args.job c.args.from c.args.to c.args.number c.args.damaged) response) (sym (ap (λ s. s.answer) c.alone-in-Directory.ensures))
    (one_delivered _ c.args.self.now c.self.view_is c.args.job c.args.from c.args.to c.args.number c.args.damaged (option_copied c.find.result) c.find.ensures
    c.in-Some.sent.now (ap option_copied c.in-Some.is) c.deliver_to_directory.new.self c.in_ok-message.message c.in_ok-answer-in-Directory.answer places.Directory c.in_ok-message.ensures c.in-Directory.is
    c.in_ok-answer-in-Directory.ensures.ok)

pub returns-in_default-clause-kept : goal.returns-in_default-clause-kept
returns-in_default-clause-kept c =
    subst (λ s. IsNoted c.args.self.now c.args.self.now s.judged s.notes (steps.Deliver c.args.job c.args.from c.args.to c.args.number c.args.damaged) s.answer) (sym c.alone.ensures)
    (finds_nothing c.args.job c.args.from c.args.to c.args.number c.args.damaged (record { none = refl; nobody = refl; nodes = refl }))

pub returns-in-Node-clause-kept : goal.returns-in-Node-clause-kept
returns-in-Node-clause-kept c =
    if_ok c.deliver_to_node.result c.deliver_to_node.ensures.kept (λ s k.
    subst (λ t. IsNoted c.args.self.now c.deliver_to_node.new.self s.judged s.notes (steps.Deliver c.args.job c.args.from t c.args.number c.args.damaged) s.answer) (sym c.in-Node.is) (k c.args.number c.args.damaged))

pub returns-in_ok-answer-in-Directory-clause-kept : goal.returns-in_ok-answer-in-Directory-clause-kept
returns-in_ok-answer-in-Directory-clause-kept c =
    subst (λ s. IsNoted c.args.self.now c.deliver_to_directory.new.self s.judged s.notes (steps.Deliver c.args.job c.args.from c.args.to c.args.number c.args.damaged) s.answer) (sym c.alone-in-Directory.ensures)
    (subst (λ t. IsNoted c.args.self.now c.deliver_to_directory.new.self None [] (steps.Deliver c.args.job c.args.from t c.args.number c.args.damaged) c.in_ok-answer-in-Directory.answer) (sym c.in-Directory.is)
    (tells_directory c.args.job c.args.from c.args.number c.args.damaged c.in_ok-answer-in-Directory.answer (record { none = refl; nobody = refl; nodes = nodes_stay _ _ _ places.Directory _ _ _ refl c.in_ok-answer-in-Directory.ensures.ok })))

pub returns-then-is_stale_at-clause-ok : goal.returns-then-is_stale_at-clause-ok
returns-then-is_stale_at-clause-ok c =
    let world = c.args.self.now in
    subst (λ response. WorldStep world world (steps.Deliver c.args.job c.args.from c.args.to c.args.number c.args.damaged) response) (sym (ap (λ s. s.answer) c.alone-then-is_stale_at.ensures))
    (one_delivered _ world c.self.view_is c.args.job c.args.from c.args.to c.args.number c.args.damaged (option_copied c.find.result) c.find.ensures
    c.in-Some.sent.now (ap option_copied c.in-Some.is) world (as_damaged c.args.damaged c.in-Some.sent.now) (Response (reply.Refused Stale)) c.args.to refl refl
    (c.is_stale_at.ensures.ok c.if-is_stale_at.true c.args.from (as_damaged c.args.damaged c.in-Some.sent.now)))

pub returns-in-Node-clause-answered : goal.returns-in-Node-clause-answered
returns-in-Node-clause-answered c =
    if_ok c.deliver_to_node.result c.deliver_to_node.ensures.ok (λ s k nodes memory history h.
    handed_answered nodes memory history c.args.self.now c.deliver_to_node.new.self c.args.job c.args.from (places.Node c.in-Node.place) c.in_ok-message.message s.answer h
    (subst (λ n. is_place n (places.Node c.in-Node.place) ≡ true) h.count (ap (is_place (length c.args.self.now.nodes)) (sym c.in-Node.is) ∙ c.requires)) k)

pub returns-in_ok-answer-in-Directory-clause-answered : goal.returns-in_ok-answer-in-Directory-clause-answered
returns-in_ok-answer-in-Directory-clause-answered c nodes memory history h =
    ap (λ s. is_no_memory s.answer) c.alone-in-Directory.ensures
    ∙ handed_answered nodes memory history c.args.self.now c.deliver_to_directory.new.self c.args.job c.args.from places.Directory c.in_ok-message.message c.in_ok-answer-in-Directory.answer h refl c.in_ok-answer-in-Directory.ensures.ok
