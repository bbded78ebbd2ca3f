use Rattle.std.proofs.Common.{[], sym, ap, subst, ◌∙◌}
use Rattle.std.specs.Option.{unwrap_or}
use Rattle.lru_evictor.specs.Indexed.{HasIndex}
use Rattle.lru_evictor.proofs.Rooms.{ok_then}
use Rattle.lru_evictor.proofs.use_order.UseOrder.victims.Goals as goal

pub returns-clause-plan : goal.returns-clause-plan
returns-clause-plan g c = ok_then (λ ids found store device known described evicts.
    let here = ap (λ o. unwrap_or o []) (sym c.in-Some.is) ∙ c.self.view_is in
    found store c.args.self.now device (subst (HasIndex c.index.result.now) here c.index.ensures.index) known described evicts) c.victims.result c.victims.ensures.plan

pub returns-clause-once : goal.returns-clause-once
returns-clause-once g c = c.victims.ensures.once c.index.ensures.once
