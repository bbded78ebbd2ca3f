use Rattle.std.proofs.Common.{subst}
use Rattle.node_core.specs.Judged.{SeesFew}
use Rattle.node_core.proofs.Small.{received_bound}
use Rattle.node_core.proofs.Node.received_bound.Goals as goal

pub returns : goal.returns
returns c = subst SeesFew c.self.view_is (received_bound _ c.self.invariant.table c.self.invariant.jobs.jobs c.live_jobs.ensures.kept.few)
