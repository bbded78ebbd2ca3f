use Rattle.std.proofs.Common.{◌≡◌, ◌++◌, drop}
use Rattle.grants.specs.Table.{given_by}
use Rattle.grants.proofs.standing.given_by.Given as goal

abbrev pub invariant-loop-grant : goal.invariant-loop-grant
invariant-loop-grant l = l.given.items ++ given_by l.job.0 (drop l.grant-index l.grants.items) ≡ given_by l.job.0 l.grants.items
