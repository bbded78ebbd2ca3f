use Rattle.std.proofs.Common.{◌<◌, subst}
use Rattle.augmented_tree.specs.Lists.{AllOf}
use Rattle.augmented_tree.specs.Shape.{items}
use Rattle.augmented_tree.proofs.ForCallers.{all_map, in_range, Within}
use Rattle.use_tree.specs.declared.uses.Use.{Use}
use Rattle.use_tree.specs.Uses.{turn_of, IsAnyUse, AreClassesOf, start}
use Rattle.use_tree.proofs.uses.Uses.end.Goals as goal

pub returns-clause-range : goal.returns-clause-range
returns-clause-range c =
    subst (AllOf (λ (u : Use). u.turn < 4611686018427387904)) c.self.view_is
    (all_map (Within turn_of IsAnyUse AreClassesOf (start c.self.inside.bits) 4611686018427387904) (λ u. u.turn < 4611686018427387904) (λ u w. w.1) (items c.self.inside.tree) (in_range turn_of IsAnyUse AreClassesOf (start c.self.inside.bits) 4611686018427387904 c.self.inside.tree c.self.invariant.1))
