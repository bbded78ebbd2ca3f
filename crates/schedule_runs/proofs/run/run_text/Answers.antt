use Rattle.schedule_runs.proofs.Running.{flushed, not_flushed}
use Rattle.schedule_runs.proofs.run.run_text.Goals as goal

pub returns-in-Ok : goal.returns-in-Ok
returns-in-Ok g c = flushed _ _ _ _ _ _ _ _ _ _ c.run_lines-outcome.ensures c.flush.ensures.bytes

pub returns-in-Err : goal.returns-in-Err
returns-in-Err g c = not_flushed _ _ _ _ _ _ _ _ _ _ c.run_lines-outcome.ensures
