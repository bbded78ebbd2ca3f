use Rattle.std.proofs.Common.{sym, subst}
use Rattle.private_store.specs.declared.schedules.Event.TheVariants as event
use Rattle.node_core.specs.OneJob.{NodeStepOne}
use Rattle.node_core.proofs.Node.admit.Goals as goal

pub returns-clause-ok : goal.returns-clause-ok
returns-clause-ok c =
    subst (λ given. NodeStepOne c.args.self.now (event.Admit c.args.job c.args.quota c.args.key) given c.add_row.new.self) (sym c.only-2.ensures) c.in_ok-add_row.ensures.ok
