use Rattle.std.proofs.Common.{arith}
use Rattle.fast_sha256.proofs.Bits.{nested}
use Rattle.fast_sha256.proofs.rounds.mixed_fifth.Goals as goal

pub returns : goal.returns
returns c = rw (c.rotate_right-3.ensures, c.rotate_right-2.ensures, c.rotate_right.ensures)
    (nested c.args.x 6 5 14 (omega arith) (omega arith) (omega arith) (omega arith) (omega arith))
