use Rattle.std.proofs.Common.{sym, ap, ◌∙◌, reverse}
use Rattle.std.specs.Map.{keys_of}
use Rattle.lru_evictor.specs.Orders.{order_ids}
use Rattle.lru_evictor.proofs.Uses.{order-shown}
use Rattle.lru_evictor.proofs.job_order.JobOrder.order.Goals as goal

pub returns : goal.returns
returns c = c.of.ensures ∙ ap (λ es. reverse (keys_of es)) c.iter.ensures.rest ∙ sym (order-shown c.self.inside.slots.entries) ∙ ap order_ids c.self.view_is
