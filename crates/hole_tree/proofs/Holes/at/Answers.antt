use Rattle.std.proofs.Common.{◌^◌, subst}
use Rattle.augmented_tree.proofs.ForCallers.{rises}
use Rattle.hole_tree.specs.Holes.{hole_offset, IsAnyHole, IsGreatest, AreHolesRising}
use Rattle.hole_tree.proofs.Holes.at.Goals as goal

pub returns-clause-rising : goal.returns-clause-rising
returns-clause-rising c = subst AreHolesRising c.self.view_is (rises hole_offset IsAnyHole IsGreatest 0 (2 ^ c.self.inside.bits) c.self.inside.tree c.self.invariant.1)
