use Rattle.std.proofs.Common.{◌-◌}
use Rattle.use_tree.proofs.uses.+widen_to.Given as goal

-- each call doubles the range, which ends at all turns
abbrev pub decreases-widen_to : goal.decreases-widen_to
decreases-widen_to l = 62 - l.bits
