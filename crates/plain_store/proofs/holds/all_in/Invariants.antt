use Rattle.std.proofs.Common.{◌≡◌, ◌+◌, ◌-◌, ◌^◌, fold, take, min}
use Rattle.plain_store.proofs.holds.all_in.Given as goal

abbrev pub invariant-loop-count : goal.invariant-loop-count
invariant-loop-count l = l.all ≡ min (fold (λ n e. n + e.1) 0 (take l.count-index l.holds)) (2 ^ 32 - 1)
