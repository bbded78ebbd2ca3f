use Rattle.std.proofs.Common.{◌≡◌, ◌<◌, ◌≤◌, ◌%◌, ◌-◌, ℕ, false}
use Rattle.private_store.specs.rules.Extents.{is_free}
use Rattle.job_admission.specs.Admissions.{windows}
use Rattle.job_admission.proofs.Admission.free_place.Given as goal

-- a whole number of units, within the memory, and no place before it
abbrev pub invariant-loop-offset : goal.invariant-loop-offset
invariant-loop-offset l = record {
  units : l.offset % 16 ≡ 0;
  within : l.offset ≤ l.self.memory;
  taken : (o : ℕ) → o < l.offset → is_free (windows l.self.live) l.self.memory l.length o ≡ false;
}

abbrev pub decreases-loop-offset : goal.decreases-loop-offset
decreases-loop-offset l = l.self.memory - l.offset
