use Rattle.journal_laws.proofs.SavedRuns.{run_replays}
use Rattle.journal_laws.proofs.a_saved_journal_replays.Goals as goal

pub returns : goal.returns
returns c = run_replays
