use Rattle.std.proofs.Common.{◌≡◌, ◌++◌, map, drop}
use Rattle.grants.specs.Private.{as_given}
use Rattle.node_snapshot.proofs.job_grants.plain_given.Given as goal

-- those so far and those of what is left are all
abbrev pub invariant-loop-grant : goal.invariant-loop-grant
invariant-loop-grant l = l.given.items ++ map as_given (drop l.grant-index l.grants) ≡ map as_given l.grants
