use Rattle.std.proofs.Common.{◌∙◌, ap, is_some}
use Rattle.augmented_tree.specs.Shape.{items}
use Rattle.augmented_tree.proofs.Order.{found_has}
use Rattle.augmented_tree.proofs.has.Goals as goal

pub returns : goal.returns
returns g c = c.is_some.ensures ∙ ap is_some c.find.ensures ∙ found_has g.T.Keyed.key c.args.key (items c.args.tree.now)
