use Rattle.fast_sha256.proofs.Bits.{majority_is}
use Rattle.fast_sha256.proofs.rounds.majority.Goals as goal

pub returns : goal.returns
returns c = majority_is c.args.x c.args.y c.args.z
