use Rattle.std.proofs.Common.{◌≡◌, true, None, [], length, is_some, refl, sym, ap, subst, ◌∙◌}
use Rattle.std.proofs.lemmas.Bool.{not-true, not-false}
use Rattle.obj_id.specs.declared.commands.Reply.TheVariants as reply
use Rattle.obj_id.specs.declared.refusals.Refusal.TheVariants.{Stale}
use Rattle.private_store.specs.declared.schedules.Step.TheVariants.{Deliver}
use Rattle.private_store.specs.declared.schedules.StepAnswer.TheVariants.{Response}
use Rattle.job_admission.specs.Admissions.{live_at}
use Rattle.world_core.specs.MemoryLast.{IsTakenAt}
use Rattle.world_core.specs.Worlds.{is_place}
use Rattle.world_core.specs.WorldSteps.{IsDelivered}
use Rattle.world_core.specs.Noting.{IsNoted}
use Rattle.world_core.specs.contracts.World.{the_view}
use Rattle.world_core.proofs.AtPlace.{found_at, of_found}
use Rattle.world_core.proofs.HandedOver.{stale_delivered, stale_noted}
use Rattle.world_core.proofs.Numbers.{is_less}
use Rattle.world_core.proofs.World.is_stale_at.Goals as goal

pub returns-in-Node-clause-ok : goal.returns-in-Node-clause-ok
returns-in-Node-clause-ok c gone from m =
    let world = c.args.self.now in
    let within = is_less c.in-Node.place (length world.nodes) (ap (is_place (length world.nodes)) (sym c.in-Node.is) ∙ c.requires) in
    let found = found_at (the_view c.self.inside) world c.self.view_is c.in-Node.place c.index.result.now within c.index.ensures in
    let dead = not-true (is_some (live_at c.index.result.now.admissions c.args.job)) (sym c.is_stale.ensures.live ∙ gone) in
    subst (λ t. IsDelivered world c.args.job from m world t (Response (reply.Refused Stale))) (sym c.in-Node.is)
    (stale_delivered world c.in-Node.place c.index.result.now c.args.job found dead _ refl refl (c.is_stale.ensures.stale gone) from m)

pub returns-in-Node-clause-kept : goal.returns-in-Node-clause-kept
returns-in-Node-clause-kept c gone from number damage =
    let world = c.args.self.now in
    subst (λ t. IsNoted world world None [] (Deliver c.args.job from t number damage) (Response (reply.Refused Stale))) (sym c.in-Node.is)
    (stale_noted world c.args.job c.in-Node.place from number damage)

pub returns-in-Node-clause-taken : goal.returns-in-Node-clause-taken
returns-in-Node-clause-taken c stays =
    let world = c.args.self.now in
    let within = is_less c.in-Node.place (length world.nodes) (ap (is_place (length world.nodes)) (sym c.in-Node.is) ∙ c.requires) in
    subst (IsTakenAt world c.args.job) (sym c.in-Node.is)
    (of_found (the_view c.self.inside) world c.self.view_is c.in-Node.place c.index.result.now within c.index.ensures
    (λ node. is_some (live_at node.admissions c.args.job) ≡ true) (not-false (is_some (live_at c.index.result.now.admissions c.args.job)) (sym c.is_stale.ensures.live ∙ stays)))
