use Rattle.std.proofs.Common.{[], sym, ap, subst, ◌∙◌}
use Rattle.std.specs.Option.{unwrap_or}
use Rattle.lru_evictor.specs.Orders.{OthersPass}
use Rattle.lru_evictor.proofs.use_order.UseOrder.forget.Goals as goal

pub returns-else-len-eq0-clause-infos : goal.returns-else-len-eq0-clause-infos
returns-else-len-eq0-clause-infos c f but = c.forget.ensures.infos f (subst (OthersPass c.args.id f) (sym c.self.view_is ∙ ap (λ o. unwrap_or o []) c.in-Some.is) but)
