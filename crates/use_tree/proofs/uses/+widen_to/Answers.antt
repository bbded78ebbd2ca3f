use Rattle.std.proofs.Common.{◌≡◌, ◌<◌, sym, subst, arith}
use Rattle.augmented_tree.specs.Shape.{IsTree, middle}
use Rattle.use_tree.specs.Uses.{turn_of, IsAnyUse, AreClassesOf, start}
use Rattle.use_tree.proofs.Widths.{halved, more}
use Rattle.use_tree.proofs.uses.+widen_to.Goals as goal

pub widen-requires-clause-tree : goal.widen-requires-clause-tree
widen-requires-clause-tree t c =
    let room : c.args.bits < 62 = more c.args.bits c.args.turn (subst (λ n. c.args.turn < n) c.start.ensures c.if-turn-start.false) in
    let is : middle c.start-2.result 4611686018427387904 ≡ start c.args.bits = rw c.start-2.ensures (halved c.args.bits room) in
    subst (λ low. IsTree turn_of IsAnyUse AreClassesOf low 4611686018427387904 c.args.tree.now) (sym is) c.requires.tree.1

pub widen_to-requires : goal.widen_to-requires
widen_to-requires t c =
    let room : c.args.bits < 62 = more c.args.bits c.args.turn (subst (λ n. c.args.turn < n) c.start.ensures c.if-turn-start.false) in (
      omega (arith, c.decreases, room),
      (omega (arith, room), subst (λ low. IsTree turn_of IsAnyUse AreClassesOf low 4611686018427387904 c.widen.new.tree) c.start-2.ensures c.widen.ensures.0),
    )
