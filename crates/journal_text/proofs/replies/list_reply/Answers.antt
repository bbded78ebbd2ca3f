use Rattle.journal_text.proofs.Made.{Reads-made, Reads-unmade}
use Rattle.journal_text.proofs.replies.list_reply.Goals as goal

pub returns-in-None : goal.returns-in-None
returns-in-None c = Reads-unmade _ _ c.in_ok-listed.field-0 c.in_ok-listed.ensures c.in-None.is

pub returns-in-Some : goal.returns-in-Some
returns-in-Some c = Reads-made _ _ c.in_ok-listed.field-0 c.in_ok-listed.ensures (c.in-Some.own, c.in-Some.granted) c.in-Some.is
