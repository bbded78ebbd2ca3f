use Rattle.std.proofs.Common.{arith}
use Rattle.fast_sha256.proofs.Bits.{choice_is}
use Rattle.fast_sha256.proofs.rounds.choice.Goals as goal

pub returns : goal.returns
returns c = choice_is c.args.x c.args.y c.args.z (omega arith) (omega arith) (omega arith)
