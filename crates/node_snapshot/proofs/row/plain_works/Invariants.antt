use Rattle.std.proofs.Common.{◌≡◌, ◌++◌, map, drop}
use Rattle.spill_work.specs.Line.{shown, works_of}
use Rattle.node_snapshot.proofs.row.plain_works.Given as goal

-- those so far and those of what is left are all
abbrev pub invariant-loop-work : goal.invariant-loop-work
invariant-loop-work l = l.plain.items ++ map shown (drop l.work-index l.work-items) ≡ works_of l.works l.fn.job
