use Rattle.std.proofs.Common.{[], sym, ap, subst, ◌∙◌}
use Rattle.std.specs.Option.{unwrap_or}
use Rattle.lru_evictor.specs.Orders.{OthersPass}
use Rattle.lru_evictor.proofs.use_order.UseOrder.enter.Goals as goal

pub returns-in-Some-clause-infos : goal.returns-in-Some-clause-infos
returns-in-Some-clause-infos c f but here = c.in_ok-enter.ensures.infos f (subst (OthersPass c.args.id f) (sym c.self.view_is ∙ ap (λ o. unwrap_or o []) c.in-Some.is) but) here

pub returns-clause-infos : goal.returns-clause-infos
returns-clause-infos c f but here = c.in_ok-order.ensures.infos f here
