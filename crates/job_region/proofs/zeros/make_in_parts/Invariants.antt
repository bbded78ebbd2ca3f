use Rattle.std.proofs.Common.{◌≡◌, ◌*◌, replicate}
use Rattle.job_region.proofs.zeros.make_in_parts.Given as goal

abbrev pub invariant-loop-count : goal.invariant-loop-count
invariant-loop-count l = l.zeros.items ≡ replicate (l.count * 65536) 0
