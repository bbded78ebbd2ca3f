use Rattle.std.proofs.Common.{◌≢◌, sym, ◌∙◌, ap, subst, arith}
use Rattle.std.specs.Prelude.{is_some}
use Rattle.augmented_tree.proofs.WellOrdered.{summarized, told_at, node_at, items_at, take_left, take_right, has_left, has_right}
use Rattle.augmented_tree.specs.Lists.{take_item, has_item}
use Rattle.augmented_tree.specs.Shape.{IsTree, middle}
use Rattle.augmented_tree.proofs.+take.Goals as goal

pub pop-requires : goal.pop-requires
pop-requires g t c =
    told_at g.T.Keyed.key g.T.Keyed.fits g.T.Keyed.tells c.args.tree.now c.in-Fork.here c.deref_mut-node.result.now c.in-Fork.is c.deref_mut-node.ensures.value (summarized g.T.Keyed.key g.T.Keyed.fits g.T.Keyed.tells c.args.low c.args.high c.args.tree.now c.requires.tree)

pub summary_with-node-requires-clause-summarized : goal.summary_with-node-requires-clause-summarized
summary_with-node-requires-clause-summarized g t c =
    let n = c.deref_mut-node.result.now in
    let node = node_at g.T.Keyed.key g.T.Keyed.fits g.T.Keyed.tells c.args.low c.args.high c.args.tree.now c.in-Fork.here n c.in-Fork.is c.deref_mut-node.ensures.value c.requires.tree in
    (summarized g.T.Keyed.key g.T.Keyed.fits g.T.Keyed.tells c.args.low c.middle-middle.result c.take-room.new.tree c.take-room.ensures.less.0, summarized g.T.Keyed.key g.T.Keyed.fits g.T.Keyed.tells (middle c.args.low c.args.high) c.args.high n.right node.7)

pub summary_with-node-requires-else-key-middle-clause-summarized : goal.summary_with-node-requires-else-key-middle-clause-summarized
summary_with-node-requires-else-key-middle-clause-summarized g t c =
    let n = c.deref_mut-node.result.now in
    let node = node_at g.T.Keyed.key g.T.Keyed.fits g.T.Keyed.tells c.args.low c.args.high c.args.tree.now c.in-Fork.here n c.in-Fork.is c.deref_mut-node.ensures.value c.requires.tree in
    (summarized g.T.Keyed.key g.T.Keyed.fits g.T.Keyed.tells c.args.low (middle c.args.low c.args.high) n.left node.6, summarized g.T.Keyed.key g.T.Keyed.fits g.T.Keyed.tells c.middle-middle.result c.args.high c.take-room-else-key-middle.new.tree c.take-room-else-key-middle.ensures.less.0)

pub returns-then-key-middle-clause-less : goal.returns-then-key-middle-clause-less
returns-then-key-middle-clause-less g t c =
    let n = c.deref_mut-node.result.now in
    let node = node_at g.T.Keyed.key g.T.Keyed.fits g.T.Keyed.tells c.args.low c.args.high c.args.tree.now c.in-Fork.here n c.in-Fork.is c.deref_mut-node.ensures.value c.requires.tree in
    let is = items_at g.T.Keyed.key g.T.Keyed.fits g.T.Keyed.tells c.args.tree.now c.in-Fork.here n c.in-Fork.is c.deref_mut-node.ensures.value in
    let differ : g.T.Keyed.key n.here ≢ c.args.key = λ e. c.if-key.false (c.key.ensures ∙ e) in
    let tree = subst (λ m. IsTree g.T.Keyed.key g.T.Keyed.fits g.T.Keyed.tells c.args.low m c.take-room.new.tree) c.middle-middle.ensures c.take-room.ensures.less.0 in
    let both = take_left g.T.Keyed.key g.T.Keyed.fits g.T.Keyed.tells c.args.low c.args.high n node c.args.key differ c.take-room.new.tree c.summary_with-node.result
    (omega (arith, c.if-key-middle.true, c.middle-middle.ensures)) tree c.take-room.ensures.less.1 c.summary_with-node.ensures in
    (both.0, both.1 ∙ ap (take_item g.T.Keyed.key c.args.key) (sym is))

pub returns-then-key-middle-clause-there : goal.returns-then-key-middle-clause-there
returns-then-key-middle-clause-there g t c =
    let n = c.deref_mut-node.result.now in
    let node = node_at g.T.Keyed.key g.T.Keyed.fits g.T.Keyed.tells c.args.low c.args.high c.args.tree.now c.in-Fork.here n c.in-Fork.is c.deref_mut-node.ensures.value c.requires.tree in
    let is = items_at g.T.Keyed.key g.T.Keyed.fits g.T.Keyed.tells c.args.tree.now c.in-Fork.here n c.in-Fork.is c.deref_mut-node.ensures.value in
    let differ : g.T.Keyed.key n.here ≢ c.args.key = λ e. c.if-key.false (c.key.ensures ∙ e) in
    has_left g.T.Keyed.key g.T.Keyed.fits g.T.Keyed.tells c.args.low c.args.high n node c.args.key differ
    (is_some c.take-room.result) (omega (arith, c.if-key-middle.true, c.middle-middle.ensures)) c.take-room.ensures.there
    ∙ ap (has_item g.T.Keyed.key c.args.key) (sym is)

pub returns-else-key-middle-clause-less : goal.returns-else-key-middle-clause-less
returns-else-key-middle-clause-less g t c =
    let n = c.deref_mut-node.result.now in
    let node = node_at g.T.Keyed.key g.T.Keyed.fits g.T.Keyed.tells c.args.low c.args.high c.args.tree.now c.in-Fork.here n c.in-Fork.is c.deref_mut-node.ensures.value c.requires.tree in
    let is = items_at g.T.Keyed.key g.T.Keyed.fits g.T.Keyed.tells c.args.tree.now c.in-Fork.here n c.in-Fork.is c.deref_mut-node.ensures.value in
    let differ : g.T.Keyed.key n.here ≢ c.args.key = λ e. c.if-key.false (c.key.ensures ∙ e) in
    let tree = subst (λ m. IsTree g.T.Keyed.key g.T.Keyed.fits g.T.Keyed.tells m c.args.high c.take-room-else-key-middle.new.tree) c.middle-middle.ensures c.take-room-else-key-middle.ensures.less.0 in
    let both = take_right g.T.Keyed.key g.T.Keyed.fits g.T.Keyed.tells c.args.low c.args.high n node c.args.key differ c.take-room-else-key-middle.new.tree c.summary_with-node-else-key-middle.result
    (omega (arith, c.if-key-middle.false, c.middle-middle.ensures)) tree c.take-room-else-key-middle.ensures.less.1 c.summary_with-node-else-key-middle.ensures in
    (both.0, both.1 ∙ ap (take_item g.T.Keyed.key c.args.key) (sym is))

pub returns-else-key-middle-clause-there : goal.returns-else-key-middle-clause-there
returns-else-key-middle-clause-there g t c =
    let n = c.deref_mut-node.result.now in
    let node = node_at g.T.Keyed.key g.T.Keyed.fits g.T.Keyed.tells c.args.low c.args.high c.args.tree.now c.in-Fork.here n c.in-Fork.is c.deref_mut-node.ensures.value c.requires.tree in
    let is = items_at g.T.Keyed.key g.T.Keyed.fits g.T.Keyed.tells c.args.tree.now c.in-Fork.here n c.in-Fork.is c.deref_mut-node.ensures.value in
    let differ : g.T.Keyed.key n.here ≢ c.args.key = λ e. c.if-key.false (c.key.ensures ∙ e) in
    has_right g.T.Keyed.key g.T.Keyed.fits g.T.Keyed.tells c.args.low c.args.high n node c.args.key differ
    (is_some c.take-room-else-key-middle.result) (omega (arith, c.if-key-middle.false, c.middle-middle.ensures)) c.take-room-else-key-middle.ensures.there
    ∙ ap (has_item g.T.Keyed.key c.args.key) (sym is)
