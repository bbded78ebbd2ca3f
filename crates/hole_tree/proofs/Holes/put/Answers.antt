use Rattle.std.proofs.Common.{◌^◌, ◌≤◌, subst, arith}
use Rattle.std.proofs.Math.Pow.{pow_mono}
use Rattle.augmented_tree.specs.Shape.{IsTree}
use Rattle.hole_tree.specs.Holes.{hole_offset, IsAnyHole, IsGreatest}
use Rattle.hole_tree.proofs.Holes.put.Goals as goal

pub put-requires-clause-range : goal.put-requires-clause-range
put-requires-clause-range c =
    let few = c.widen_to-self-inside.ensures.few 29 c.self.invariant.0 c.requires in
    let most : 2 ^ c.widen_to-self-inside.result ≤ 536870912 = pow_mono few in
    (omega arith, omega (arith, c.end.ensures, c.widen_to-self-inside.ensures.range.1), omega (arith, c.end.ensures, most))

pub invariant_of-self : goal.invariant_of-self
invariant_of-self c =
    let few = c.widen_to-self-inside.ensures.few 29 c.self.invariant.0 c.requires in
    (few, subst (λ high. IsTree hole_offset IsAnyHole IsGreatest 0 high c.put.new.tree) c.end.ensures c.put.ensures.0)
