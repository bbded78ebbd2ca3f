use Rattle.journal_replay.proofs.SavedText.{replays_saved}
use Rattle.journal_replay.proofs.laws.a_sound_journal_replays.Goals as goal

pub returns : goal.returns
returns c = λ marks left written_old written_new result typed sound replays. replays_saved marks typed sound left written_old written_new result replays
