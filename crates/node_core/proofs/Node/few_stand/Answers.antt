use Rattle.std.proofs.Common.{subst}
use Rattle.node_core.specs.Judged.{GivesFew}
use Rattle.node_core.proofs.Small.{few_stand}
use Rattle.node_core.proofs.Node.few_stand.Goals as goal

pub returns : goal.returns
returns c = subst GivesFew c.self.view_is (few_stand _ c.self.invariant.table c.self.invariant.jobs.jobs c.live_jobs.ensures.kept.few)
