use Rattle.std.proofs.Common.{◌≡◌, take}
use Rattle.job_region.specs.Layout.{gap, staying}
use Rattle.job_region.proofs.Walked.{IsWalked}
use Rattle.job_region.proofs.extents.least_without.Given as goal

abbrev pub invariant-loop-e : goal.invariant-loop-e
invariant-loop-e l = record {
  least : l.least ≡ gap l.quota l.need 0 (staying (take l.e-index l.gone) l.extents);
  walked : IsWalked l.extents l.gone l.e-index l.next l.start;
}
