use Rattle.augmented_tree.proofs.ForCallers.{summarized, rises}
use Rattle.std.proofs.Common.{subst}
use Rattle.use_tree.specs.Uses.{turn_of, IsAnyUse, AreClassesOf, AreUsesRising, start}
use Rattle.use_tree.proofs.uses.Uses.last.Goals as goal

pub last-requires : goal.last-requires
last-requires c = record {
  summarized = summarized turn_of IsAnyUse AreClassesOf (start c.self.inside.bits) 4611686018427387904 c.self.inside.tree c.self.invariant.1;
  rising = rises turn_of IsAnyUse AreClassesOf (start c.self.inside.bits) 4611686018427387904 c.self.inside.tree c.self.invariant.1;
}

pub returns-clause-rising : goal.returns-clause-rising
returns-clause-rising c = subst AreUsesRising c.self.view_is (rises turn_of IsAnyUse AreClassesOf (start c.self.inside.bits) 4611686018427387904 c.self.inside.tree c.self.invariant.1)
