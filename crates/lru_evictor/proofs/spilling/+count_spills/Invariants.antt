use Rattle.std.proofs.Common.{length}
use Rattle.lru_evictor.proofs.spilling.+count_spills.Given as goal

abbrev pub decreases-count_spills : goal.decreases-count_spills
decreases-count_spills g l = length l.candidates.now
