use Rattle.std.proofs.Common.{◌≤◌, sym, subst}
use Rattle.augmented_tree.specs.Lists.{AllOf}
use Rattle.augmented_tree.proofs.ForCallers.{all_taken}
use Rattle.use_tree.specs.declared.uses.Use.{Use}
use Rattle.use_tree.specs.Uses.{turn_of}
use Rattle.lru_evictor.proofs.index.Index.take_use.Goals as goal

pub invariant_of-self : goal.invariant_of-self
invariant_of-self c = (subst (AllOf (λ (u : Use). c.self.inside.left ≤ u.turn)) (sym c.take.ensures.uses) (all_taken turn_of (λ (u : Use). c.self.inside.left ≤ u.turn) c.args.turn c.self.inside.uses c.self.invariant.0), c.self.invariant.1)
