use Rattle.std.proofs.Common.{rules}
use Rattle.sha2.specs.Sha256.{hash_after}
use Rattle.fast_sha256.specs.Messages.{Holds}
use Rattle.fast_sha256.proofs.Sha256.new.Goals as goal

pub returns : goal.returns
unfolding Holds hash_after
returns c = search rules
