use Rattle.std.proofs.Common.{◌≡◌, ◌+◌, ◌-◌, ◌^◌, ◌≤◌}
use Rattle.std.specs.Prelude.{min, sum_by}
use Rattle.job_row.specs.Usages.{total}
use Rattle.row_copy.specs.Usages.{doomed_one}
use Rattle.job_row.proofs.copies.Copies.doomed_count.Given as goal

-- those so far, and those of the copies that are left, are all
abbrev pub invariant-loop-copy : goal.invariant-loop-copy
invariant-loop-copy l = record {
  rest : min (l.count + sum_by (λ e. doomed_one e.1) l.copy-iterator) (2 ^ 64 - 1) ≡ total doomed_one l.self;
  fits : l.count ≤ 2 ^ 64 - 1;
}
