use Rattle.augmented_tree.specs.Shape.{depth}
use Rattle.use_tree.proofs.uses.+last.Given as goal

abbrev pub decreases-last : goal.decreases-last
decreases-last l = depth l.tree.now
