use Rattle.std.proofs.Common.{ap, sym, ◌∙◌, reverse}
use Rattle.private_store.specs.rules.Tables.{is_among}
use Rattle.lru_evictor.specs.Orders.{order_ids}
use Rattle.lru_evictor.proofs.CacheOrders.{order-has}
use Rattle.lru_evictor.proofs.Uses.{keys-shown}
use Rattle.lru_evictor.proofs.job_order.JobOrder.has.Goals as goal

pub returns : goal.returns
returns c =
    c.contains.ensures ∙ order-has c.args.id.now c.self.inside.slots.entries
    ∙ ap (λ ids. is_among (reverse ids) c.args.id.now) (sym (keys-shown c.self.inside.slots.entries))
    ∙ ap (λ es. is_among (order_ids es) c.args.id.now) c.self.view_is
