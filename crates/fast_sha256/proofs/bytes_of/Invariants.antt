use Rattle.fast_sha256.proofs.Writing.{Begins}
use Rattle.fast_sha256.proofs.bytes_of.Given as goal

abbrev pub invariant-loop-i : goal.invariant-loop-i
invariant-loop-i l = Begins l.state l.i l.bytes
