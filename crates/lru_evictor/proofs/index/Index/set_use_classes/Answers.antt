use Rattle.std.proofs.Common.{◌≤◌, sym, subst}
use Rattle.augmented_tree.specs.Lists.{AllOf}
use Rattle.augmented_tree.proofs.ForCallers.{all_changed}
use Rattle.use_tree.specs.declared.uses.Use.{Use}
use Rattle.use_tree.specs.Uses.{turn_of, use_in_classes}
use Rattle.lru_evictor.proofs.index.Index.set_use_classes.Goals as goal

pub invariant_of-self : goal.invariant_of-self
invariant_of-self c = (subst (AllOf (λ (u : Use). c.self.inside.left ≤ u.turn)) (sym c.set_classes.ensures.uses) (all_changed turn_of (λ (u : Use). c.self.inside.left ≤ u.turn) (use_in_classes c.args.classes) c.args.turn c.self.inside.uses (λ u h. h) c.self.invariant.0), c.self.invariant.1)
