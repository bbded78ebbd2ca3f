use Rattle.std.proofs.Common.{◌≡◌, ◌++◌, drop}
use Rattle.node_core.specs.Foreseen.{grantees_in}
use Rattle.node_core.proofs.foreseen.grantees_of.Given as goal

abbrev pub invariant-loop-grant : goal.invariant-loop-grant
invariant-loop-grant l = l.grantees.items ++ grantees_in (drop l.grant-index l.grants) ≡ grantees_in l.grants
