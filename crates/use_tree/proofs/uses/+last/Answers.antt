use Rattle.std.proofs.Common.{Some, None, refl, sym, ◌∙◌, ap, subst, arith}
use Rattle.std.specs.Prelude.{if◌then◌else◌}
use Rattle.augmented_tree.specs.Shape.{items}
use Rattle.augmented_tree.proofs.ForCallers.{rising_front, rising_back, told_at, items_at, depth_at}
use Rattle.use_tree.specs.Uses.{turn_of, IsAnyUse, AreClassesOf, AreUsesRising, last_chosen}
use Rattle.use_tree.proofs.Last.{last_unchosen, nowhere, on_right, on_left, at_the_node}
use Rattle.use_tree.proofs.uses.+last.Goals as goal

pub returns-then-not-has : goal.returns-then-not-has
returns-then-not-has t c = sym (last_unchosen c.args.class c.args.below (items c.args.tree.now) (sym (c.summary.ensures c.args.class) ∙ sym c.has.ensures ∙ c.if-not-has.true))

pub returns-then-node-below : goal.returns-then-node-below
returns-then-node-below t c =
    let n = c.deref-node.result.now in
    let is = items_at turn_of IsAnyUse AreClassesOf c.args.tree.now c.in-Fork.here n c.in-Fork.is c.deref-node.ensures in
    let rising = subst AreUsesRising is c.requires.rising in
    sym (ap (last_chosen c.args.class c.args.below) is ∙ nowhere c.args.class c.args.below n rising c.if-node-below.true)

pub last-right-requires : goal.last-right-requires
last-right-requires t c = (
  omega (arith, c.decreases, depth_at turn_of IsAnyUse AreClassesOf c.args.tree.now c.in-Fork.here c.deref-node.result.now c.in-Fork.is c.deref-node.ensures),
  let n = c.deref-node.result.now in
      let is = items_at turn_of IsAnyUse AreClassesOf c.args.tree.now c.in-Fork.here n c.in-Fork.is c.deref-node.ensures in
      let rising = subst AreUsesRising is c.requires.rising in
      let m = told_at turn_of IsAnyUse AreClassesOf c.args.tree.now c.in-Fork.here n c.in-Fork.is c.deref-node.ensures c.requires.summarized in
      (m.3, rising_back turn_of (items n.left) (items n.right) rising.1),
)

pub returns-then-is_some : goal.returns-then-is_some
returns-then-is_some t c =
    let n = c.deref-node.result.now in
    let is = items_at turn_of IsAnyUse AreClassesOf c.args.tree.now c.in-Fork.here n c.in-Fork.is c.deref-node.ensures in
    let rising = subst AreUsesRising is c.requires.rising in
    on_right c.args.class c.args.below n rising c.if-node-below.false c.last-right.result (last_chosen c.args.class c.args.below (items n.left)) c.last-right.ensures refl (sym c.is_some.ensures ∙ c.if-is_some.true)
    ∙ ap (last_chosen c.args.class c.args.below) (sym is)

pub last-left-requires : goal.last-left-requires
last-left-requires t c = (
  omega (arith, c.decreases, depth_at turn_of IsAnyUse AreClassesOf c.args.tree.now c.in-Fork.here c.deref-node.result.now c.in-Fork.is c.deref-node.ensures),
  let n = c.deref-node.result.now in
      let is = items_at turn_of IsAnyUse AreClassesOf c.args.tree.now c.in-Fork.here n c.in-Fork.is c.deref-node.ensures in
      let rising = subst AreUsesRising is c.requires.rising in
      let m = told_at turn_of IsAnyUse AreClassesOf c.args.tree.now c.in-Fork.here n c.in-Fork.is c.deref-node.ensures c.requires.summarized in
      (m.2, rising_front turn_of (items n.left) (items n.right) rising.1),
)

pub returns-then-is_some-2 : goal.returns-then-is_some-2
returns-then-is_some-2 t c =
    let n = c.deref-node.result.now in
    let is = items_at turn_of IsAnyUse AreClassesOf c.args.tree.now c.in-Fork.here n c.in-Fork.is c.deref-node.ensures in
    let rising = subst AreUsesRising is c.requires.rising in
    on_left c.args.class c.args.below n rising c.if-node-below.false c.last-right.result c.last-left.result c.last-right.ensures c.last-left.ensures
    (sym c.is_some.ensures ∙ c.if-is_some.false) (sym c.is_some-in-Fork.ensures ∙ c.if-is_some-2.true)
    ∙ ap (last_chosen c.args.class c.args.below) (sym is)

pub returns-then-not-has-2 : goal.returns-then-not-has-2
returns-then-not-has-2 t c =
    let n = c.deref-node.result.now in
    let is = items_at turn_of IsAnyUse AreClassesOf c.args.tree.now c.in-Fork.here n c.in-Fork.is c.deref-node.ensures in
    let rising = subst AreUsesRising is c.requires.rising in
    let here = at_the_node c.args.class c.args.below n rising c.if-node-below.false c.last-right.result c.last-left.result c.last-right.ensures c.last-left.ensures
    (sym c.is_some.ensures ∙ c.if-is_some.false) (sym c.is_some-in-Fork.ensures ∙ c.if-is_some-2.false) in
    ap (λ b. if b then Some n.here else None) (sym (sym c.has-in-Fork.ensures ∙ c.if-not-has-2.true)) ∙ here ∙ ap (last_chosen c.args.class c.args.below) (sym is)

pub returns-else-not-has-2 : goal.returns-else-not-has-2
returns-else-not-has-2 t c =
    let n = c.deref-node.result.now in
    let is = items_at turn_of IsAnyUse AreClassesOf c.args.tree.now c.in-Fork.here n c.in-Fork.is c.deref-node.ensures in
    let rising = subst AreUsesRising is c.requires.rising in
    let here = at_the_node c.args.class c.args.below n rising c.if-node-below.false c.last-right.result c.last-left.result c.last-right.ensures c.last-left.ensures
    (sym c.is_some.ensures ∙ c.if-is_some.false) (sym c.is_some-in-Fork.ensures ∙ c.if-is_some-2.false) in
    ap (λ b. if b then Some n.here else None) (sym (sym c.has-in-Fork.ensures ∙ c.if-not-has-2.false)) ∙ here ∙ ap (last_chosen c.args.class c.args.below) (sym is)
