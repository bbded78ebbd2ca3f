use Rattle.std.proofs.Common.{◌≢◌, sym, ◌∙◌, ap, arith}
use Rattle.augmented_tree.specs.Lists.{find_item}
use Rattle.augmented_tree.proofs.WellOrdered.{node_at, items_at, find_left, find_right}
use Rattle.augmented_tree.proofs.+find.Goals as goal

pub returns-then-key-middle : goal.returns-then-key-middle
returns-then-key-middle g t c =
    let n = c.deref-node.result.now in
    let node = node_at g.T.Keyed.key g.T.Keyed.fits g.T.Keyed.tells c.args.low c.args.high c.args.tree.now c.in-Fork.here n c.in-Fork.is c.deref-node.ensures c.requires.tree in
    let is = items_at g.T.Keyed.key g.T.Keyed.fits g.T.Keyed.tells c.args.tree.now c.in-Fork.here n c.in-Fork.is c.deref-node.ensures in
    let differ : g.T.Keyed.key n.here ≢ c.args.key = λ e. c.if-key.false (c.key.ensures ∙ e) in
    find_left g.T.Keyed.key g.T.Keyed.fits g.T.Keyed.tells c.args.low c.args.high n node c.args.key differ
    c.find.result (omega (arith, c.if-key-middle.true, c.middle-middle.ensures)) c.find.ensures
    ∙ ap (find_item g.T.Keyed.key c.args.key) (sym is)

pub returns-else-key-middle : goal.returns-else-key-middle
returns-else-key-middle g t c =
    let n = c.deref-node.result.now in
    let node = node_at g.T.Keyed.key g.T.Keyed.fits g.T.Keyed.tells c.args.low c.args.high c.args.tree.now c.in-Fork.here n c.in-Fork.is c.deref-node.ensures c.requires.tree in
    let is = items_at g.T.Keyed.key g.T.Keyed.fits g.T.Keyed.tells c.args.tree.now c.in-Fork.here n c.in-Fork.is c.deref-node.ensures in
    let differ : g.T.Keyed.key n.here ≢ c.args.key = λ e. c.if-key.false (c.key.ensures ∙ e) in
    find_right g.T.Keyed.key g.T.Keyed.fits g.T.Keyed.tells c.args.low c.args.high n node c.args.key differ
    c.find-else-key-middle.result (omega (arith, c.if-key-middle.false, c.middle-middle.ensures)) c.find-else-key-middle.ensures
    ∙ ap (find_item g.T.Keyed.key c.args.key) (sym is)
