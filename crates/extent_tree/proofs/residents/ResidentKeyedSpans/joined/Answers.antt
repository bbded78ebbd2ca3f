use Rattle.extent_tree.proofs.Parts.{are_of_both}
use Rattle.extent_tree.proofs.residents.ResidentKeyedSpans.joined.Goals as goal

pub returns : goal.returns
returns c xs ys a b = are_of_both c.joined.result c.args.first c.args.second xs ys c.joined.ensures a b
