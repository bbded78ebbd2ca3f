use Rattle.std.specs.Prelude.{is_some}
use Rattle.schedule_runs.specs.Runs.{Progress}
use Rattle.schedule_runs.proofs.run.run_lines.Given as goal

abbrev pub invariant-loop-number : goal.invariant-loop-number
invariant-loop-number g l = Progress l.fn.shape.nodes l.fn.shape.memory l.number l.world l.workers (is_some l.fn.journal) l.journal (g.R.Read.remaining l.fn.reader) (g.R.Read.remaining l.reader) (g.W.Write.contents l.fn.writer) (g.W.Write.contents l.writer)
