use Rattle.std.proofs.Common.{◌≡◌, [], sym, ap, subst, ◌∙◌, true}
use Rattle.std.specs.Option.{unwrap_or}
use Rattle.private_store.specs.rules.Tables.{is_among}
use Rattle.lru_evictor.specs.Orders.{order_ids, OthersPass, info_in, stood}
use Rattle.lru_evictor.proofs.use_order.UseOrder.touch.Goals as goal

pub returns-clause-infos : goal.returns-clause-infos
returns-clause-infos c f but here =
    let is = sym c.self.view_is ∙ ap (λ o. unwrap_or o []) c.in-Some.is in
    c.touch.ensures.infos f (subst (OthersPass c.args.id f) is but)
    (subst (λ es. is_among (order_ids es) c.args.id ≡ true → f c.args.id (stood (info_in c.args.id es) c.args.eviction_info) ≡ true) is here)
