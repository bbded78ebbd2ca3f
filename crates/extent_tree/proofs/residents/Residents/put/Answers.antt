use Rattle.std.proofs.Common.{◌^◌, ◌<◌, ◌≤◌, subst, arith}
use Rattle.std.proofs.Math.Pow.{pow_mono}
use Rattle.augmented_tree.specs.Shape.{IsTree}
use Rattle.extent_tree.specs.Residents.{resident_offset, ResidentFits, AreSpansOf}
use Rattle.extent_tree.proofs.residents.Residents.put.Goals as goal

pub put-requires-clause-range : goal.put-requires-clause-range
put-requires-clause-range c =
    let small : c.args.resident.extent.offset < 536870912 = omega (arith, c.if-offset-ge-END.false) in
    let few = c.widen_to-self-inside.ensures.few 29 c.self.invariant.0 small in
    let most : 2 ^ c.widen_to-self-inside.result ≤ 536870912 = pow_mono few in
    (omega arith, omega (arith, c.end-2.ensures, c.widen_to-self-inside.ensures.range.1), omega (arith, c.end-2.ensures, most))

pub invariant_of-self : goal.invariant_of-self
invariant_of-self c =
    let small : c.args.resident.extent.offset < 536870912 = omega (arith, c.if-offset-ge-END.false) in
    let few = c.widen_to-self-inside.ensures.few 29 c.self.invariant.0 small in
    (few, subst (λ high. IsTree resident_offset ResidentFits AreSpansOf 0 high c.put.new.tree) c.end-2.ensures c.put.ensures.0)
