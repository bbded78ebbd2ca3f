use Rattle.std.proofs.Common.{◌*◌, take}
use Rattle.fast_sha256.specs.Messages.{Holds}
use Rattle.hashed_bytes.proofs.digest_in_parts.Given as goal

abbrev pub invariant-loop-i : goal.invariant-loop-i
invariant-loop-i l = Holds l.hasher (take (16384 * l.i) l.bytes)
