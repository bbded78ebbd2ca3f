-- What the proofs of other crates cite of this one.

-- a text that is one line has no line feed
pub use Rattle.journal_text.proofs.PlainFields.{none_feeds}
-- an entry of a run has a line
pub use Rattle.journal_text.proofs.ProperLines.{writable}
-- a job at a node is the same as itself, and as no other
pub use Rattle.journal_text.proofs.SamePlaces.{same_place-equal, same_place-itself}
-- a line that was written is read as what was written
pub use Rattle.journal_text.proofs.WrittenLines.{IsEntryLine-written, whole-written}
