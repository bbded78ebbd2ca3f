use Rattle.std.proofs.Common.{◌≡◌, drop}
use Rattle.job_row.specs.Evicting.{all_evicted}
use Rattle.job_row.proofs.copies.Copies.evict_all.Given as goal

-- once those that are left are evicted they are what they are to be
abbrev pub invariant-loop-id : goal.invariant-loop-id
invariant-loop-id l = all_evicted (drop l.id-index l.ids) l.self ≡ all_evicted l.ids l.initial.self
