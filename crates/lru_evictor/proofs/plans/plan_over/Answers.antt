use Rattle.std.proofs.Common.{ap, ◌∙◌, take}
use Rattle.std.specs.Option.{option_map}
use Rattle.use_tree.specs.declared.classes.VictimClass.TheVariants.{Spillable}
use Rattle.lru_evictor.specs.Indexed.{chosen_ids}
use Rattle.lru_evictor.specs.Plans.{plan_kind_of, spills_here}
use Rattle.lru_evictor.proofs.Planned.{plan-evictions, plan-hopeless, plan-counted}
use Rattle.lru_evictor.proofs.plans.plan_over.Goals as goal

pub returns-then-leaves_room-clause-plan : goal.returns-then-leaves_room-clause-plan
returns-then-leaves_room-clause-plan g c store order some bad of known described =
    plan-evictions store c.args.window.now c.args.device (g.C.CopyLookup.facts c.args.copies.now) described c.args.index.now order of known c.leaves_room.ensures.laid c.args.len some c.leaves_room.result c.leaves_room.ensures.gap c.if-leaves_room.true bad

pub returns-then-not-leaves_room-clause-plan : goal.returns-then-not-leaves_room-clause-plan
returns-then-not-leaves_room-clause-plan g c store order some bad of known described =
    ap plan_kind_of (plan-hopeless store c.args.window.now c.args.device (g.C.CopyLookup.facts c.args.copies.now) described c.args.index.now order of known c.leaves_room.ensures.laid c.args.len some
    c.leaves_room.result c.leaves_room-2.result c.leaves_room.ensures.gap c.if-leaves_room.false c.leaves_room-2.ensures.gap c.if-not-leaves_room.true)

pub returns-clause-plan : goal.returns-clause-plan
returns-clause-plan g c store order some bad of known described =
    let facts = g.C.CopyLookup.facts c.args.copies.now in
    let may = chosen_ids Spillable 4611686018427387904 c.args.index.now.0 in
    c.spilling.ensures.plan
    ∙ ap (λ i. plan_kind_of (spills_here c.args.device facts (option_map (λ k. take k (chosen_ids Spillable 4611686018427387904 i.0)) c.count_spills-count.result))) c.count_spills-count.ensures.same
    ∙ ap plan_kind_of (plan-counted store c.args.window.now c.args.device facts described c.args.index.now order of known c.leaves_room.ensures.laid c.args.len some
    c.leaves_room.result c.leaves_room.ensures.gap c.if-leaves_room.false may (λ i. may) c.count_spills-count.ensures.all (record { quota = c.quota.result; need = c.rounded.result }) c.quota.ensures.quota c.rounded.ensures
    (option_map (λ k. take k may) c.count_spills-count.result) c.count_spills-count.ensures.count)
