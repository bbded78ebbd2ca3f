use Rattle.std.proofs.Common.{[], sym, ap, subst, ◌∙◌}
use Rattle.std.specs.Option.{unwrap_or}
use Rattle.lru_evictor.specs.Orders.{OthersPass}
use Rattle.lru_evictor.proofs.Rooms.{ok_then}
use Rattle.lru_evictor.proofs.use_order.UseOrder.enter_new.Goals as goal

pub returns-in-Some-clause-infos : goal.returns-in-Some-clause-infos
returns-in-Some-clause-infos c = ok_then (λ entered agreed new test but here.
    agreed new test (subst (OthersPass c.args.id test) (sym c.self.view_is ∙ ap (λ o. unwrap_or o []) c.in-Some.is) but) here) c.enter_new.result c.enter_new.ensures.infos

pub returns-clause-infos : goal.returns-clause-infos
returns-clause-infos c new test but here = c.in_ok-order.ensures.infos test here
