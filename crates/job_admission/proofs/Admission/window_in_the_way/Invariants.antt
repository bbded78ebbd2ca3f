use Rattle.std.proofs.Common.{◌≡◌, true, map}
use Rattle.std.specs.Prelude.{find}
use Rattle.std.specs.List.{list_all}
use Rattle.private_store.specs.laws.Invariants.{is_placed}
use Rattle.job_admission.specs.Admissions.{window_of, windows}
use Rattle.job_admission.proofs.Search.{is_in_the_way}
use Rattle.job_admission.proofs.Admission.window_in_the_way.Given as goal

-- the first among those that are left is the first of all, and each lies in the memory
abbrev pub invariant-loop-live : goal.invariant-loop-live
invariant-loop-live l = record {
  rest : find (is_in_the_way l.bytes) (map window_of l.live-iterator) ≡ find (is_in_the_way l.bytes) (windows l.self.live);
  placed : list_all (λ live. is_placed l.self.memory (window_of live)) l.live-iterator ≡ true;
}
