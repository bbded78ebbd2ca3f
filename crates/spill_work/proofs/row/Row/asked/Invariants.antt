use Rattle.std.proofs.Common.{◌≡◌, ◌++◌, map, drop}
use Rattle.spill_work.proofs.row.Row.asked.Given as goal

-- those so far and those of what is left are all
abbrev pub invariant-loop-timed : goal.invariant-loop-timed
invariant-loop-timed l = l.asked.items ++ map (λ t. t.work.asked) (drop l.timed-index l.self) ≡ map (λ t. t.work.asked) l.self
