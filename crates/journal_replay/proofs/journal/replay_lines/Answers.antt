use Rattle.std.proofs.Common.{subst}
use Rattle.journal_replay.specs.Progress.{AddsLine, TakesLine}
use Rattle.journal_replay.proofs.Reading.{line_more}
use Rattle.journal_replay.proofs.journal.replay_lines.Goals as goal

pub loop-number-preserved : goal.loop-number-preserved
loop-number-preserved g c =
    line_more _ _ _ _ _ c.loop-number.invariant _ _ c.next_line.ensures.consumed _ c.next_line.ensures.one
    (subst (AddsLine c.loop-number.replay c.replay_line.new.replay) c.deref.ensures.value
    (subst (λ t. TakesLine t c.loop-number.replay c.replay_line.new.replay c.deref.result.now) c.in-Ok-true-replay_line.field-0-test c.in-Ok-true-replay_line.ensures))
