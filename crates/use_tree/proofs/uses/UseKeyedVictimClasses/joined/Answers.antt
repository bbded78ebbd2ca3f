use Rattle.std.proofs.Common.{◌||◌, sym, ◌∙◌}
use Rattle.use_tree.proofs.Last.{any_both}
use Rattle.use_tree.proofs.uses.UseKeyedVictimClasses.joined.Goals as goal

pub returns : goal.returns
returns c xs ys a b k = c.or.ensures k ∙ (λ i. a k i || b k i) ∙ sym (any_both k xs ys)
