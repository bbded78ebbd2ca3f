use Rattle.std.proofs.Common.{◌≢◌, sym, ◌∙◌, ap, subst, arith}
use Rattle.augmented_tree.proofs.WellOrdered.{summarized, node_at, items_at, change_here, change_left, change_right}
use Rattle.augmented_tree.specs.Lists.{change_item}
use Rattle.augmented_tree.specs.Shape.{IsTree, middle}
use Rattle.augmented_tree.proofs.+set_mark.Goals as goal

pub summary_with-node-requires-clause-summarized : goal.summary_with-node-requires-clause-summarized
summary_with-node-requires-clause-summarized g t c =
    let n = c.deref_mut-node.result.now in
    let node = node_at g.T.Keyed.key g.T.Keyed.fits g.T.Keyed.tells c.args.low c.args.high c.args.tree.now c.in-Fork.here n c.in-Fork.is c.deref_mut-node.ensures.value c.requires.tree in
    (summarized g.T.Keyed.key g.T.Keyed.fits g.T.Keyed.tells c.args.low (middle c.args.low c.args.high) n.left node.6, summarized g.T.Keyed.key g.T.Keyed.fits g.T.Keyed.tells (middle c.args.low c.args.high) c.args.high n.right node.7)

pub returns-then-key : goal.returns-then-key
returns-then-key g t c =
    let n = c.deref_mut-node.result.now in
    let node = node_at g.T.Keyed.key g.T.Keyed.fits g.T.Keyed.tells c.args.low c.args.high c.args.tree.now c.in-Fork.here n c.in-Fork.is c.deref_mut-node.ensures.value c.requires.tree in
    let is = items_at g.T.Keyed.key g.T.Keyed.fits g.T.Keyed.tells c.args.tree.now c.in-Fork.here n c.in-Fork.is c.deref_mut-node.ensures.value in
    let changed = c.marked-node.ensures in
    let both = change_here g.T.Keyed.key g.T.Keyed.fits g.T.Keyed.tells c.args.low c.args.high n node (g.T.Marked.marked c.args.mark) (g.met.T.Marked.keeps_key c.args.mark) c.args.key (sym c.key.ensures ∙ c.if-key.true) c.summary_with-node.result
    (g.met.T.Marked.still_fits c.args.mark n.here node.2) (rw (← changed) c.summary_with-node.ensures) in
    rw changed (both.0, both.1 ∙ ap (change_item g.T.Keyed.key (g.T.Marked.marked c.args.mark) c.args.key) (sym is))

pub summary_with-node-requires-then-key-middle-clause-summarized : goal.summary_with-node-requires-then-key-middle-clause-summarized
summary_with-node-requires-then-key-middle-clause-summarized g t c =
    let n = c.deref_mut-node.result.now in
    let node = node_at g.T.Keyed.key g.T.Keyed.fits g.T.Keyed.tells c.args.low c.args.high c.args.tree.now c.in-Fork.here n c.in-Fork.is c.deref_mut-node.ensures.value c.requires.tree in
    (summarized g.T.Keyed.key g.T.Keyed.fits g.T.Keyed.tells c.args.low c.middle-middle.result c.set_mark.new.tree c.set_mark.ensures.0, summarized g.T.Keyed.key g.T.Keyed.fits g.T.Keyed.tells (middle c.args.low c.args.high) c.args.high n.right node.7)

pub summary_with-node-requires-else-key-middle-clause-summarized : goal.summary_with-node-requires-else-key-middle-clause-summarized
summary_with-node-requires-else-key-middle-clause-summarized g t c =
    let n = c.deref_mut-node.result.now in
    let node = node_at g.T.Keyed.key g.T.Keyed.fits g.T.Keyed.tells c.args.low c.args.high c.args.tree.now c.in-Fork.here n c.in-Fork.is c.deref_mut-node.ensures.value c.requires.tree in
    (summarized g.T.Keyed.key g.T.Keyed.fits g.T.Keyed.tells c.args.low (middle c.args.low c.args.high) n.left node.6, summarized g.T.Keyed.key g.T.Keyed.fits g.T.Keyed.tells c.middle-middle.result c.args.high c.set_mark-else-key-middle.new.tree c.set_mark-else-key-middle.ensures.0)

pub returns-then-key-middle : goal.returns-then-key-middle
returns-then-key-middle g t c =
    let n = c.deref_mut-node.result.now in
    let node = node_at g.T.Keyed.key g.T.Keyed.fits g.T.Keyed.tells c.args.low c.args.high c.args.tree.now c.in-Fork.here n c.in-Fork.is c.deref_mut-node.ensures.value c.requires.tree in
    let is = items_at g.T.Keyed.key g.T.Keyed.fits g.T.Keyed.tells c.args.tree.now c.in-Fork.here n c.in-Fork.is c.deref_mut-node.ensures.value in
    let differ : g.T.Keyed.key n.here ≢ c.args.key = λ e. c.if-key.false (c.key.ensures ∙ e) in
    let tree = subst (λ m. IsTree g.T.Keyed.key g.T.Keyed.fits g.T.Keyed.tells c.args.low m c.set_mark.new.tree) c.middle-middle.ensures c.set_mark.ensures.0 in
    let both = change_left g.T.Keyed.key g.T.Keyed.fits g.T.Keyed.tells c.args.low c.args.high n node (g.T.Marked.marked c.args.mark) (g.met.T.Marked.keeps_key c.args.mark) c.args.key differ c.set_mark.new.tree c.summary_with-node-then-key-middle.result
    (omega (arith, c.if-key-middle.true, c.middle-middle.ensures)) tree c.set_mark.ensures.1 c.summary_with-node-then-key-middle.ensures in
    (both.0, both.1 ∙ ap (change_item g.T.Keyed.key (g.T.Marked.marked c.args.mark) c.args.key) (sym is))

pub returns-else-key-middle : goal.returns-else-key-middle
returns-else-key-middle g t c =
    let n = c.deref_mut-node.result.now in
    let node = node_at g.T.Keyed.key g.T.Keyed.fits g.T.Keyed.tells c.args.low c.args.high c.args.tree.now c.in-Fork.here n c.in-Fork.is c.deref_mut-node.ensures.value c.requires.tree in
    let is = items_at g.T.Keyed.key g.T.Keyed.fits g.T.Keyed.tells c.args.tree.now c.in-Fork.here n c.in-Fork.is c.deref_mut-node.ensures.value in
    let differ : g.T.Keyed.key n.here ≢ c.args.key = λ e. c.if-key.false (c.key.ensures ∙ e) in
    let tree = subst (λ m. IsTree g.T.Keyed.key g.T.Keyed.fits g.T.Keyed.tells m c.args.high c.set_mark-else-key-middle.new.tree) c.middle-middle.ensures c.set_mark-else-key-middle.ensures.0 in
    let both = change_right g.T.Keyed.key g.T.Keyed.fits g.T.Keyed.tells c.args.low c.args.high n node (g.T.Marked.marked c.args.mark) (g.met.T.Marked.keeps_key c.args.mark) c.args.key differ c.set_mark-else-key-middle.new.tree c.summary_with-node-else-key-middle.result
    (omega (arith, c.if-key-middle.false, c.middle-middle.ensures)) tree c.set_mark-else-key-middle.ensures.1 c.summary_with-node-else-key-middle.ensures in
    (both.0, both.1 ∙ ap (change_item g.T.Keyed.key (g.T.Marked.marked c.args.mark) c.args.key) (sym is))
