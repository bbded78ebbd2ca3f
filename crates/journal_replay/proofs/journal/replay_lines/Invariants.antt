use Rattle.journal_replay.specs.Progress.{ReplayProgress}
use Rattle.journal_replay.proofs.journal.replay_lines.Given as goal

abbrev pub invariant-loop-number : goal.invariant-loop-number
invariant-loop-number g l = ReplayProgress l.fn.version l.number l.replay (g.R.Read.remaining l.fn.reader) (g.R.Read.remaining l.reader)
