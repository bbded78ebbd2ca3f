use Rattle.std.proofs.Common.{◌≡◌, ◌≢◌, sym, ◌∙◌, ap, subst, arith}
use Rattle.augmented_tree.proofs.WellOrdered.{summarized, node_at, items_at, put_here, put_left, put_right}
use Rattle.augmented_tree.specs.Lists.{put_item}
use Rattle.augmented_tree.specs.Shape.{IsTree, middle}
use Rattle.augmented_tree.proofs.+put.Goals as goal

pub summary_with-node-requires-clause-summarized : goal.summary_with-node-requires-clause-summarized
summary_with-node-requires-clause-summarized g t c =
    let n = c.deref_mut-node.result.now in
    let node = node_at g.T.Keyed.key g.T.Keyed.fits g.T.Keyed.tells c.args.low c.args.high c.args.tree.now c.in-Fork.here n c.in-Fork.is c.deref_mut-node.ensures.value c.requires.tree in
    (summarized g.T.Keyed.key g.T.Keyed.fits g.T.Keyed.tells c.args.low (middle c.args.low c.args.high) n.left node.6, summarized g.T.Keyed.key g.T.Keyed.fits g.T.Keyed.tells (middle c.args.low c.args.high) c.args.high n.right node.7)

pub returns-then-key : goal.returns-then-key
returns-then-key g t c =
    let n = c.deref_mut-node.result.now in
    let node = node_at g.T.Keyed.key g.T.Keyed.fits g.T.Keyed.tells c.args.low c.args.high c.args.tree.now c.in-Fork.here n c.in-Fork.is c.deref_mut-node.ensures.value c.requires.tree in
    let is = items_at g.T.Keyed.key g.T.Keyed.fits g.T.Keyed.tells c.args.tree.now c.in-Fork.here n c.in-Fork.is c.deref_mut-node.ensures.value in
    let same : g.T.Keyed.key c.args.item ≡ g.T.Keyed.key n.here = sym c.key.ensures ∙ c.if-key.true ∙ c.key-in-Fork.ensures in
    let both = put_here g.T.Keyed.key g.T.Keyed.fits g.T.Keyed.tells c.args.low c.args.high n node c.args.item c.summary_with-node.result same c.requires.fits c.summary_with-node.ensures in
    (both.0, both.1 ∙ ap (put_item g.T.Keyed.key c.args.item) (sym is))

pub summary_with-node-requires-then-key-middle-clause-summarized : goal.summary_with-node-requires-then-key-middle-clause-summarized
summary_with-node-requires-then-key-middle-clause-summarized g t c =
    let n = c.deref_mut-node.result.now in
    let node = node_at g.T.Keyed.key g.T.Keyed.fits g.T.Keyed.tells c.args.low c.args.high c.args.tree.now c.in-Fork.here n c.in-Fork.is c.deref_mut-node.ensures.value c.requires.tree in
    (summarized g.T.Keyed.key g.T.Keyed.fits g.T.Keyed.tells c.args.low c.middle-middle.result c.put.new.tree c.put.ensures.0, summarized g.T.Keyed.key g.T.Keyed.fits g.T.Keyed.tells (middle c.args.low c.args.high) c.args.high n.right node.7)

pub summary_with-node-requires-else-key-middle-clause-summarized : goal.summary_with-node-requires-else-key-middle-clause-summarized
summary_with-node-requires-else-key-middle-clause-summarized g t c =
    let n = c.deref_mut-node.result.now in
    let node = node_at g.T.Keyed.key g.T.Keyed.fits g.T.Keyed.tells c.args.low c.args.high c.args.tree.now c.in-Fork.here n c.in-Fork.is c.deref_mut-node.ensures.value c.requires.tree in
    (summarized g.T.Keyed.key g.T.Keyed.fits g.T.Keyed.tells c.args.low (middle c.args.low c.args.high) n.left node.6, summarized g.T.Keyed.key g.T.Keyed.fits g.T.Keyed.tells c.middle-middle.result c.args.high c.put-else-key-middle.new.tree c.put-else-key-middle.ensures.0)

pub returns-then-key-middle : goal.returns-then-key-middle
returns-then-key-middle g t c =
    let n = c.deref_mut-node.result.now in
    let node = node_at g.T.Keyed.key g.T.Keyed.fits g.T.Keyed.tells c.args.low c.args.high c.args.tree.now c.in-Fork.here n c.in-Fork.is c.deref_mut-node.ensures.value c.requires.tree in
    let is = items_at g.T.Keyed.key g.T.Keyed.fits g.T.Keyed.tells c.args.tree.now c.in-Fork.here n c.in-Fork.is c.deref_mut-node.ensures.value in
    let differ : g.T.Keyed.key c.args.item ≢ g.T.Keyed.key n.here = λ e. c.if-key.false (c.key.ensures ∙ e ∙ sym c.key-in-Fork.ensures) in
    let tree = subst (λ m. IsTree g.T.Keyed.key g.T.Keyed.fits g.T.Keyed.tells c.args.low m c.put.new.tree) c.middle-middle.ensures c.put.ensures.0 in
    let both = put_left g.T.Keyed.key g.T.Keyed.fits g.T.Keyed.tells c.args.low c.args.high n node c.args.item c.ordered-least.result c.requires.range.0 c.requires.range.1 c.requires.fits differ c.ordered-least.ensures c.put.new.tree c.summary_with-node-then-key-middle.result
    (omega (arith, c.if-key-middle.true, c.key-in-Fork-2.ensures, c.middle-middle.ensures)) tree c.put.ensures.1 c.summary_with-node-then-key-middle.ensures in
    (both.0, both.1 ∙ ap (put_item g.T.Keyed.key c.args.item) (sym is))

pub returns-else-key-middle : goal.returns-else-key-middle
returns-else-key-middle g t c =
    let n = c.deref_mut-node.result.now in
    let node = node_at g.T.Keyed.key g.T.Keyed.fits g.T.Keyed.tells c.args.low c.args.high c.args.tree.now c.in-Fork.here n c.in-Fork.is c.deref_mut-node.ensures.value c.requires.tree in
    let is = items_at g.T.Keyed.key g.T.Keyed.fits g.T.Keyed.tells c.args.tree.now c.in-Fork.here n c.in-Fork.is c.deref_mut-node.ensures.value in
    let differ : g.T.Keyed.key c.args.item ≢ g.T.Keyed.key n.here = λ e. c.if-key.false (c.key.ensures ∙ e ∙ sym c.key-in-Fork.ensures) in
    let tree = subst (λ m. IsTree g.T.Keyed.key g.T.Keyed.fits g.T.Keyed.tells m c.args.high c.put-else-key-middle.new.tree) c.middle-middle.ensures c.put-else-key-middle.ensures.0 in
    let both = put_right g.T.Keyed.key g.T.Keyed.fits g.T.Keyed.tells c.args.low c.args.high n node c.args.item c.ordered-least.result c.requires.range.0 c.requires.range.1 c.requires.fits differ c.ordered-least.ensures c.put-else-key-middle.new.tree c.summary_with-node-else-key-middle.result
    (omega (arith, c.if-key-middle.false, c.key-in-Fork-2.ensures, c.middle-middle.ensures)) tree c.put-else-key-middle.ensures.1 c.summary_with-node-else-key-middle.ensures in
    (both.0, both.1 ∙ ap (put_item g.T.Keyed.key c.args.item) (sym is))
