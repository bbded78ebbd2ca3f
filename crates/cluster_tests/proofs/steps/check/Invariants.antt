use Rattle.std.proofs.Common.{◌≡◌, length}
use Rattle.cluster_tests.proofs.steps.check.Given as goal

abbrev pub invariant-loop-row : goal.invariant-loop-row
invariant-loop-row g l = length l.world.nodes ≡ 2
