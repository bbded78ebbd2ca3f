use Rattle.std.proofs.Common.{length, sym, ap, subst, ◌∙◌}
use Rattle.private_store.specs.declared.schedules.StepAnswer.TheVariants.{Response}
use Rattle.world_core.specs.Worlds.{is_within}
use Rattle.world_core.specs.WorldSteps.{WorldStep}
use Rattle.world_core.specs.Noting.{IsNoted, keeps_event}
use Rattle.world_core.proofs.Numbers.{is_less}
use Rattle.world_core.proofs.Turning.{event_told, turned_by}
use Rattle.world_core.proofs.World.turn.Goals as goal

pub returns-in_ok-given-in-At-clause-ok : goal.returns-in_ok-given-in-At-clause-ok
returns-in_ok-given-in-At-clause-ok c =
    subst (λ s. WorldStep c.args.self.now c.apply.new.self s (Response c.in_ok-given-in-At.given.reply)) (sym c.in-At.is)
    (turned_by c.args.self.now c.apply.new.self c.in-At.place c.in-At.event c.in_ok-given-in-At.given.reply c.in_ok-given-in-At.ensures.ok)

pub returns-in_ok-given-in-At-clause-kept : goal.returns-in_ok-given-in-At-clause-kept
returns-in_ok-given-in-At-clause-kept c =
    subst (λ s. IsNoted c.args.self.now c.apply.new.self c.in_ok-given-in-At.given.judged c.in_ok-given-in-At.given.notes s (Response c.in_ok-given-in-At.given.reply)) (sym c.in-At.is)
    (keeps_event c.in-At.place c.in-At.event c.in_ok-given-in-At.given.reply c.in_ok-given-in-At.ensures.kept)

pub returns-in_ok-given-in-At-clause-answered : goal.returns-in_ok-given-in-At-clause-answered
returns-in_ok-given-in-At-clause-answered c =
    event_told c.in-At.place c.in-At.event c.in_ok-given-in-At.given.reply c.args.self.now c.apply.new.self
    (is_less c.in-At.place (length c.args.self.now.nodes) (ap (is_within (length c.args.self.now.nodes)) (sym c.in-At.is) ∙ c.requires)) c.in_ok-given-in-At.ensures.ok
