use Rattle.std.proofs.Common.{◌≡◌, [], sym, ap, subst, ◌∙◌, true}
use Rattle.std.specs.Option.{unwrap_or}
use Rattle.private_store.specs.rules.Tables.{is_among}
use Rattle.lru_evictor.specs.Orders.{order_ids, OthersPass, info_in, info_with_resident}
use Rattle.lru_evictor.proofs.use_order.UseOrder.insert_resident.Goals as goal

pub returns-clause-infos : goal.returns-clause-infos
returns-clause-infos c f but here =
    let is = sym c.self.view_is ∙ ap (λ o. unwrap_or o []) c.in-Some.is in
    c.insert_resident.ensures.infos f (subst (OthersPass c.args.id.now f) is but)
    (subst (λ es. is_among (order_ids es) c.args.id.now ≡ true → f c.args.id.now (info_with_resident (info_in c.args.id.now es) c.args.resident es) ≡ true) is here)
