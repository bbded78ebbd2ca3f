use Rattle.std.proofs.Common.{◌≡◌, ◌++◌, drop}
use Rattle.grants.specs.Table.{given_to}
use Rattle.grants.proofs.standing.given_to.Given as goal

abbrev pub invariant-loop-grant : goal.invariant-loop-grant
invariant-loop-grant l = l.given.items ++ given_to l.job.0 (drop l.grant-index l.grants.items) ≡ given_to l.job.0 l.grants.items
