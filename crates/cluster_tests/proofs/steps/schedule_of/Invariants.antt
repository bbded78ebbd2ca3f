use Rattle.std.proofs.Common.{◌≡◌, true}
use Rattle.std.specs.List.{list_all}
use Rattle.world_core.specs.Worlds.{is_within}
use Rattle.cluster_tests.proofs.steps.schedule_of.Given as goal

abbrev pub invariant-loop-line : goal.invariant-loop-line
invariant-loop-line g l = list_all (is_within 2) l.steps.items ≡ true
