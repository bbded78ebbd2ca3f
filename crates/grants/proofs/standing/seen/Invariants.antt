use Rattle.std.proofs.Common.{◌≡◌, drop}
use Rattle.grants.specs.Table.{given_to, seen_from, seen_list}
use Rattle.grants.proofs.standing.seen.Given as goal

abbrev pub invariant-loop-grant : goal.invariant-loop-grant
invariant-loop-grant l = seen_from l.seen.items (given_to l.job.0 (drop l.grant-index l.grants.items)) ≡ seen_list l.job.0 l.grants.items
