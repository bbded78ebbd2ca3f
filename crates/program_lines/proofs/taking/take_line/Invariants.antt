use Rattle.program_lines.specs.TakenLines.{IsTaking}
use Rattle.program_lines.proofs.taking.take_line.Given as goal

abbrev pub invariant-loop : goal.invariant-loop
invariant-loop g l = IsTaking (g.R.Read.remaining l.fn.reader) (g.R.Read.remaining l.reader) l.line.items l.is_long
