use Rattle.std.proofs.Common.{rules}
use Rattle.program_lines.proofs.Ordering.{reads_order}
use Rattle.program_lines.proofs.operator.read_order.Goals as goal

pub returns : goal.returns
returns c = search (rules, reads_order)
