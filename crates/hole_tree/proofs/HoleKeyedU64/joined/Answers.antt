use Rattle.std.proofs.Common.{◌∙◌}
use Rattle.hole_tree.proofs.Fitting.{joined}
use Rattle.hole_tree.proofs.HoleKeyedU64.joined.Goals as goal

pub returns : goal.returns
returns c xs ys a b = c.max.ensures ∙ joined c.args.first c.args.second xs ys a b
