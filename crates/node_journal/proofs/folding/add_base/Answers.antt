use Rattle.std.proofs.Common.{sym, subst}
use Rattle.node_journal.specs.Logs.{journal_of, AreBases}
use Rattle.node_journal.proofs.Bases.{stores_push}
use Rattle.node_journal.proofs.folding.add_base.Goals as goal

pub returns-clause-stores : goal.returns-clause-stores
returns-clause-stores c =
    subst (λ es. AreBases es (journal_of c.args.logs.now)) (sym c.in_ok-push.ensures.items)
    (stores_push c.args.bases.now.items (c.args.job, c.in_ok-base.base) (journal_of c.args.logs.now) c.requires.stores c.in_ok-base.ensures)
