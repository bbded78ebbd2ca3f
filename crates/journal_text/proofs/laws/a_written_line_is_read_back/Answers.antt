use Rattle.journal_text.proofs.WrittenLines.{IsEntryLine-written, whole-written}
use Rattle.journal_text.proofs.laws.a_written_line_is_read_back.Goals as goal

pub returns-clause-read : goal.returns-clause-read
returns-clause-read c = IsEntryLine-written

pub returns-clause-whole : goal.returns-clause-whole
returns-clause-whole c = whole-written
