use Rattle.std.proofs.Common.{◌≡◌, true}
use Rattle.std.specs.List.{list_all}
use Rattle.private_store.specs.rules.Extents.{is_apart}
use Rattle.private_store.specs.rules.Shared.{windows_without}
use Rattle.job_admission.specs.Admissions.{lives_of, is_live_kept}
use Rattle.job_admission.proofs.Admission.has_place_beside.Given as goal

-- the jobs that are left decide, and are kept as all are
abbrev pub invariant-loop-other : goal.invariant-loop-other
invariant-loop-other l = record {
  rest : list_all (is_apart l.bytes) (windows_without l.job.0 (lives_of l.other-iterator)) ≡ list_all (is_apart l.bytes) (windows_without l.job.0 (lives_of l.self.live));
  kept : list_all (is_live_kept l.self.memory l.self.greatest) l.other-iterator ≡ true;
}
