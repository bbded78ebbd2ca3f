use Rattle.schedule_text.proofs.LineForms.{Reads-call, Reads-no_command}
use Rattle.schedule_text.proofs.lines.call_line.Goals as goal

pub returns-in_default-2 : goal.returns-in_default-2
returns-in_default-2 c = Reads-no_command _ _ _ _ _ _ c.session_of.result c.in-Some.speaker c.session_of.ensures c.in-Some.is c.in_ok-command.field-0 c.in_ok-command.ensures c.in_default-2.is

pub returns : goal.returns
returns c = Reads-call _ _ _ _ _ _ c.session_of.result c.in-Some.speaker c.session_of.ensures c.in-Some.is c.in_ok-command.field-0 c.in-Some-2.command c.in_ok-command.ensures c.in-Some-2.is
