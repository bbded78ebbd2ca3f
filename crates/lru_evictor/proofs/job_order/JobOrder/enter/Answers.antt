use Rattle.std.proofs.Common.{ap, ◌∙◌}
use Rattle.lru_evictor.specs.Orders.{stood, info_in}
use Rattle.lru_evictor.proofs.job_order.JobOrder.enter.Goals as goal

-- to lie nowhere can always be said
pub returns-then-has-clause-infos : goal.returns-then-has-clause-infos
returns-then-has-clause-infos c test others here = c.touch.ensures.infos test others (λ among. ap (λ s. test c.args.id (stood (info_in c.args.id c.args.self.now) s)) c.nowhere.ensures ∙ here)
