use Rattle.journal_text.proofs.Entries.{Reads-entry, Reads-unsaid}
use Rattle.journal_text.proofs.lines.entry_at.Goals as goal

pub returns-in-None : goal.returns-in-None
returns-in-None c = Reads-unsaid _ _ _ _ c.in_ok-said.field-0 c.in_ok-said.ensures c.in-None.is

pub returns-in-Some : goal.returns-in-Some
returns-in-Some c = Reads-entry _ _ _ _ c.in_ok-said.field-0 c.in_ok-said.ensures (c.in-Some.input, c.in-Some.reply) c.in-Some.is
