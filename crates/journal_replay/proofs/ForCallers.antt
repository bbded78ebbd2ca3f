-- What the proofs of other crates cite of this one.

-- a text that was saved replays
pub use Rattle.journal_replay.proofs.SavedText.{replays_saved}
