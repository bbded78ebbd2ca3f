use Rattle.std.proofs.Common.{sym, ap, ◌∙◌}
use Rattle.std.specs.Option.{option_copied}
use Rattle.node_journal.proofs.Bases.{last_is}
use Rattle.node_journal.proofs.logs.last_number.Goals as goal

pub returns-in-Some : goal.returns-in-Some
returns-in-Some c = c.number.ensures ∙ last_is c.args.number c.args.lines.now c.in-Some.line.now (sym c.last.ensures.value ∙ ap option_copied c.in-Some.is)
