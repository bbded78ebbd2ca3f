use Rattle.std.proofs.Common.{rules}
use Rattle.journal_replay.proofs.Reading.{takes_line}
use Rattle.journal_replay.proofs.journal.replay_line.Goals as goal

pub returns-in_ok-added-in-Some : goal.returns-in_ok-added-in-Some
returns-in_ok-added-in-Some c =
    takes_line c.in_ok-added-in-Some.added c.args.replay.now c.add.new.self c.args.bytes.now c.in-Ok.text.now c.in-Some.entry (search rules) (search rules) c.in_ok-added-in-Some.ensures
