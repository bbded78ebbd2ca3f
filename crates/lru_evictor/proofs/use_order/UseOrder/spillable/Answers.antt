use Rattle.std.proofs.Common.{[], sym, ap, subst, ◌∙◌, refl}
use Rattle.std.specs.Option.{unwrap_or}
use Rattle.use_tree.specs.declared.classes.VictimClass.TheVariants.{Spillable}
use Rattle.lru_evictor.specs.Indexed.{HasIndex, chosen_ids}
use Rattle.lru_evictor.proofs.Planned.{spillable-listed}
use Rattle.lru_evictor.proofs.Rooms.{ok_then}
use Rattle.lru_evictor.proofs.use_order.UseOrder.spillable.Goals as goal

pub returns-clause-listed : goal.returns-clause-listed
returns-clause-listed c = ok_then (λ ids first store window device facts n known described spills.
    let here = ap (λ o. unwrap_or o []) (sym c.in-Some.is) ∙ c.self.view_is in
    first ∙ spillable-listed store window device facts described c.index.result.now c.args.self.now (subst (HasIndex c.index.result.now) here c.index.ensures.index) known n c.args.count
    (chosen_ids Spillable 4611686018427387904 c.index.result.now.0) refl c.spillable.ensures.all spills) c.spillable.result c.spillable.ensures.first
