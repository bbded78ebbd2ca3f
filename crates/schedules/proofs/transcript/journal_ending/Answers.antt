use Rattle.schedules.proofs.Endings.{folded_ending, if_ok}
use Rattle.schedules.proofs.transcript.journal_ending.Goals as goal

pub returns-in-Err : goal.returns-in-Err
returns-in-Err c =
    if_ok c.run_ending.result c.run_ending.ensures
    (λ text response. folded_ending c.args.journal c.in-Err.fault text.items c.in-Err.ensures.folded c.in-Err.ensures.asked c.in-Err.ensures.full response)
