use Rattle.std.proofs.lemmas.Simd.{get_or-chunk}
use Rattle.sha2.specs.Sha256.{round_constants}
use Rattle.fast_sha256.proofs.schedule.constants_from.Goals as goal

pub returns : goal.returns
returns c j lt = get_or-chunk c.args.t 4 round_constants j 0 lt
