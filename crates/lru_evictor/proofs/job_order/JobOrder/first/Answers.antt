use Rattle.std.proofs.Common.{sym, subst}
use Rattle.lru_evictor.specs.Orders.{OthersPass}
use Rattle.lru_evictor.proofs.job_order.JobOrder.first.Goals as goal

pub returns-clause-infos : goal.returns-clause-infos
returns-clause-infos c f here = c.in_ok-add.ensures.infos f (subst (OthersPass c.args.id f) (sym c.in_ok-order.ensures) tt) here
