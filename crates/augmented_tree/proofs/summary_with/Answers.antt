use Rattle.std.proofs.Common.{[], ◌∷◌, ◌++◌, sym, subst}
use Rattle.std.proofs.lemmas.List.{append-nil}
use Rattle.augmented_tree.specs.Shape.{items}
use Rattle.augmented_tree.proofs.summary_with.Goals as goal

pub returns-in-Leaf-default : goal.returns-in-Leaf-default
returns-in-Leaf-default g c =
    let right = items c.args.right.now in
    subst (λ left. g.T.Keyed.tells c.joined.result (c.args.here ∷ (items left ++ right))) (sym c.in-Leaf-default.is-0)
    (c.joined.ensures (c.args.here ∷ []) right c.alone-own.ensures c.summary.ensures)

pub returns-in_default-Leaf : goal.returns-in_default-Leaf
returns-in_default-Leaf g c =
    let left = items c.args.left.now in
    subst (λ right. g.T.Keyed.tells c.joined-in_default-Leaf.result (c.args.here ∷ (left ++ items right))) (sym c.in_default-Leaf.is-1)
    (subst (λ xs. g.T.Keyed.tells c.joined-in_default-Leaf.result (c.args.here ∷ xs)) (sym (append-nil left))
    (c.joined-in_default-Leaf.ensures (c.args.here ∷ []) left c.alone-own.ensures c.summary-in_default-Leaf.ensures))

pub returns-in_default : goal.returns-in_default
returns-in_default g c =
    let left = items c.args.left.now in
    let right = items c.args.right.now in
    c.joined-in_default-2.ensures (c.args.here ∷ []) (left ++ right) c.alone-own.ensures (c.joined-in_default.ensures left right c.summary-in_default.ensures c.summary-in_default-2.ensures)
