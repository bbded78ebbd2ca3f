use Rattle.std.proofs.Common.{rules}
use Rattle.journal_replay.proofs.Reading.{no_text_no_head}
use Rattle.journal_replay.proofs.journal.head.Goals as goal

pub returns-in_default-from_utf8 : goal.returns-in_default-from_utf8
returns-in_default-from_utf8 c = no_text_no_head c.args.bytes.now c.in-Some-eq10-default.text.now (search rules) c.in_default-from_utf8.ensures.cases.0
