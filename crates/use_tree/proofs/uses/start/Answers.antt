use Rattle.std.proofs.Common.{◌≡◌, ◌*◌, ◌^◌, ◌%◌, arith}
use Rattle.std.proofs.lemmas.Nat.{one_shl}
use Rattle.use_tree.proofs.Widths.{fits}
use Rattle.use_tree.proofs.uses.start.Goals as goal

pub overflow_sub-result : goal.overflow_sub-result
overflow_sub-result c =
    let is : (1 * 2 ^ c.args.bits) % 18446744073709551616 ≡ 2 ^ c.args.bits = one_shl c.args.bits 64 (omega (arith, c.requires)) in
    rw is (fits c.args.bits c.requires)
