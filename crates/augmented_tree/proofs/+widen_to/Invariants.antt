use Rattle.std.proofs.Common.{◌-◌}
use Rattle.augmented_tree.proofs.+widen_to.Given as goal

-- each call doubles the range
abbrev pub decreases-widen_to : goal.decreases-widen_to
decreases-widen_to g l = 62 - l.bits
