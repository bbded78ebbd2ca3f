use Rattle.std.proofs.Common.{◌≡◌, ◌∷◌, subst}
use Rattle.augmented_tree.proofs.WellOrdered.{told_at, node_at, all_fit, pop_left, pop_right}
use Rattle.augmented_tree.specs.Lists.{AllOf}
use Rattle.augmented_tree.specs.Shape.{middle, items}
use Rattle.augmented_tree.proofs.+pop.Goals as goal

pub summary_with-node-requires-clause-fits : goal.summary_with-node-requires-clause-fits
summary_with-node-requires-clause-fits g t c =
    let n = c.deref_mut-node.result.now in
    let m = told_at g.T.Keyed.key g.T.Keyed.fits g.T.Keyed.tells c.args.tree.now c.in-Fork.here n c.in-Fork.is c.deref_mut-node.ensures.value c.requires in
    let is : items n.left ≡ c.deref.result.now.here ∷ items c.pop.new.tree = rw c.deref.ensures c.in-Some.ensures.some in
    (subst (AllOf g.T.Keyed.fits) is (all_fit g.T.Keyed.key g.T.Keyed.fits g.T.Keyed.tells n.left m.2)).0

pub returns-in-Some-clause-summarized : goal.returns-in-Some-clause-summarized
returns-in-Some-clause-summarized g t c =
    let n = c.deref_mut-node.result.now in
    let m = told_at g.T.Keyed.key g.T.Keyed.fits g.T.Keyed.tells c.args.tree.now c.in-Fork.here n c.in-Fork.is c.deref_mut-node.ensures.value c.requires in
    let is : items n.left ≡ c.deref.result.now.here ∷ items c.pop.new.tree = rw c.deref.ensures c.in-Some.ensures.some in
    ((subst (AllOf g.T.Keyed.fits) is (all_fit g.T.Keyed.key g.T.Keyed.fits g.T.Keyed.tells n.left m.2)).0, c.summary_with-node.ensures, c.pop.ensures.summarized, m.3)

pub returns-in-Some-clause-tree : goal.returns-in-Some-clause-tree
returns-in-Some-clause-tree g t c low high h =
    let n = c.deref_mut-node.result.now in
    let node = node_at g.T.Keyed.key g.T.Keyed.fits g.T.Keyed.tells low high c.args.tree.now c.in-Fork.here n c.in-Fork.is c.deref_mut-node.ensures.value h in
    let m = told_at g.T.Keyed.key g.T.Keyed.fits g.T.Keyed.tells c.args.tree.now c.in-Fork.here n c.in-Fork.is c.deref_mut-node.ensures.value c.requires in
    let is : items n.left ≡ c.deref.result.now.here ∷ items c.pop.new.tree = rw c.deref.ensures c.in-Some.ensures.some in
    let fit = (subst (AllOf g.T.Keyed.fits) is (all_fit g.T.Keyed.key g.T.Keyed.fits g.T.Keyed.tells n.left m.2)).0 in
    pop_left g.T.Keyed.key g.T.Keyed.fits g.T.Keyed.tells low high n node c.deref.result.now.here c.pop.new.tree c.summary_with-node.result
    is (c.pop.ensures.tree low (middle low high) node.6) fit c.summary_with-node.ensures

pub summary_with-node-requires-in-Some-pop-clause-fits : goal.summary_with-node-requires-in-Some-pop-clause-fits
summary_with-node-requires-in-Some-pop-clause-fits g t c =
    let n = c.deref_mut-node.result.now in
    let m = told_at g.T.Keyed.key g.T.Keyed.fits g.T.Keyed.tells c.args.tree.now c.in-Fork.here n c.in-Fork.is c.deref_mut-node.ensures.value c.requires in
    let is : items n.right ≡ c.deref-in-Some-pop.result.now.here ∷ items c.pop-in-Fork.new.tree = rw c.deref-in-Some-pop.ensures c.in-Some-pop.ensures.some in
    (subst (AllOf g.T.Keyed.fits) is (all_fit g.T.Keyed.key g.T.Keyed.fits g.T.Keyed.tells n.right m.3)).0

pub returns-in-Some-pop-clause-summarized : goal.returns-in-Some-pop-clause-summarized
returns-in-Some-pop-clause-summarized g t c =
    let n = c.deref_mut-node.result.now in
    let m = told_at g.T.Keyed.key g.T.Keyed.fits g.T.Keyed.tells c.args.tree.now c.in-Fork.here n c.in-Fork.is c.deref_mut-node.ensures.value c.requires in
    let is : items n.right ≡ c.deref-in-Some-pop.result.now.here ∷ items c.pop-in-Fork.new.tree = rw c.deref-in-Some-pop.ensures c.in-Some-pop.ensures.some in
    ((subst (AllOf g.T.Keyed.fits) is (all_fit g.T.Keyed.key g.T.Keyed.fits g.T.Keyed.tells n.right m.3)).0, c.summary_with-node-in-Some-pop.ensures, c.pop.ensures.summarized, c.pop-in-Fork.ensures.summarized)

pub returns-in-Some-pop-clause-tree : goal.returns-in-Some-pop-clause-tree
returns-in-Some-pop-clause-tree g t c low high h =
    let n = c.deref_mut-node.result.now in
    let node = node_at g.T.Keyed.key g.T.Keyed.fits g.T.Keyed.tells low high c.args.tree.now c.in-Fork.here n c.in-Fork.is c.deref_mut-node.ensures.value h in
    let m = told_at g.T.Keyed.key g.T.Keyed.fits g.T.Keyed.tells c.args.tree.now c.in-Fork.here n c.in-Fork.is c.deref_mut-node.ensures.value c.requires in
    let is : items n.right ≡ c.deref-in-Some-pop.result.now.here ∷ items c.pop-in-Fork.new.tree = rw c.deref-in-Some-pop.ensures c.in-Some-pop.ensures.some in
    let fit = (subst (AllOf g.T.Keyed.fits) is (all_fit g.T.Keyed.key g.T.Keyed.fits g.T.Keyed.tells n.right m.3)).0 in
    pop_right g.T.Keyed.key g.T.Keyed.fits g.T.Keyed.tells low high n node c.deref-in-Some-pop.result.now.here c.pop.new.tree c.pop-in-Fork.new.tree c.summary_with-node-in-Some-pop.result
    c.in_default.ensures.none.0 c.in_default.ensures.none.1 (c.pop.ensures.tree low (middle low high) node.6)
    is (c.pop-in-Fork.ensures.tree (middle low high) high node.7) fit c.summary_with-node-in-Some-pop.ensures
