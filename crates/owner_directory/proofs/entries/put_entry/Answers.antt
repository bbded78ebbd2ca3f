use Rattle.std.proofs.Common.{arith}
use Rattle.owner_directory.proofs.Placing.{entry_placed-set}
use Rattle.owner_directory.proofs.entries.put_entry.Goals as goal

pub returns-then-index-entry-2-clause-ok : goal.returns-then-index-entry-2-clause-ok
returns-then-index-entry-2-clause-ok c =
    entry_placed-set c.args.entry c.args.entries.now.items c.loop-at.at c.index-then-at-len.result.now (omega arith) c.index-then-at-len.ensures c.if-index-entry-2.true c.loop-at.invariant.on
