use Rattle.std.proofs.Common.{refl, sym, ap, subst}
use Rattle.world_core.specs.WorldSteps.{WorldStep, wants}
use Rattle.world_core.specs.Noting.{IsNoted, wants_memory}
use Rattle.world_core.proofs.Turning.{turn_count, world_after, world_same}
use Rattle.world_core.proofs.World.step_noted.Goals as goal

pub returns-clause-after : goal.returns-clause-after
returns-clause-after c = λ nodes memory history h. world_after nodes memory history c.args.self.now _ c.args.step.now h c.requires _ c.in-Ok.ensures.ok

pub returns-clause-memory : goal.returns-clause-memory
returns-clause-memory c = λ nodes memory history h. world_same nodes memory history c.args.self.now _ c.args.step.now h c.requires _ c.in-Ok.ensures.ok

pub returns-clause-count : goal.returns-clause-count
returns-clause-count c = turn_count c.args.self.now _ c.args.step.now _ c.in-Ok.ensures.ok

pub returns-in_default-clause-after : goal.returns-in_default-clause-after
returns-in_default-clause-after c = λ nodes memory history h.
    world_after nodes memory history c.args.self.now _ c.args.step.now h c.requires _
    (subst (λ response. WorldStep c.args.self.now c.turn.new.self c.args.step.now response) (sym (ap (λ s. s.answer) c.without_memory.ensures)) (wants c.args.step.now c.in_default.ensures.err))

pub returns-in_default-clause-kept : goal.returns-in_default-clause-kept
returns-in_default-clause-kept c =
    subst (λ s. IsNoted c.args.self.now c.turn.new.self s.judged s.notes c.args.step.now s.answer) (sym c.without_memory.ensures) (wants_memory c.args.step.now (record { none = refl; nobody = refl; nodes = ap (λ world. world.nodes) c.in_default.ensures.err }))
