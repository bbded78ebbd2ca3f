use Rattle.std.proofs.Common.{◌≡◌, [], drop, length, arith}
use Rattle.std.proofs.lemmas.List.{drop_all}
use Rattle.node_journal.specs.Logs.{list_of}
use Rattle.node_journal.proofs.Rooms.{full_is}
use Rattle.node_journal.proofs.folding.bases_of.Goals as goal

pub returns-clause-full : goal.returns-clause-full
returns-clause-full c = λ job.
    let none : drop c.loop-grantee.grantee-index c.args.grantees.now ≡ [] = drop_all c.loop-grantee.grantee-index c.args.grantees.now (omega arith) in
    full_is c.args.own.0 c.args.grantees.now job (length (list_of c.args.logs.now job)) _ _ (c.requires.few job) none (c.loop-grantee.invariant.full job)
