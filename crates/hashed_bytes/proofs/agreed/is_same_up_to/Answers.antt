use Rattle.std.proofs.Common.{◌≡◌, ◌+◌, ◌-◌, ◌++◌, ap, take, take-add, arith}
use Rattle.hashed_bytes.proofs.agreed.is_same_up_to.Goals as goal

pub returns-then-same-end : goal.returns-then-same-end
returns-then-same-end c same =
    let left = c.args.left.now in
    let n = c.args.end - c.args.same in
    let end : c.args.end ≡ c.args.same + n = omega (arith, c.if-same-end.true) in
    rw (end, take-add c.args.same n left, take-add c.args.same n c.args.right.now, c.requires.same)
    (ap (λ part. take c.args.same c.args.right.now ++ part) (c.are_same.ensures same))
