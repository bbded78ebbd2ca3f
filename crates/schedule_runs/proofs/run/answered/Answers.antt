use Rattle.std.proofs.Common.{rules}
use Rattle.schedule_runs.proofs.run.answered.Goals as goal

pub returns : goal.returns
returns c =
    record {
      answer = c.step_noted-answer.result.answer;
      is_line = search rules;
      after = c.step_noted-answer.ensures.after;
      last = c.step_noted-answer.ensures.memory_last;
      noted = search rules;
      kept = record { judged = c.step_noted-answer.result.judged; notes = c.step_noted-answer.result.notes };
      keeps = c.step_noted-answer.ensures.kept;
      journal = search rules;
    }
