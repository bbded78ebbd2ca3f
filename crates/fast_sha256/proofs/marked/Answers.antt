use Rattle.std.proofs.Common.{refl}
use Rattle.fast_sha256.proofs.Messages.{bit_set}
use Rattle.fast_sha256.proofs.marked.Goals as goal

pub returns : goal.returns
returns c = bit_set _ _ c.args.tail.now c.requires c.copy_from_slice.ensures.after refl
