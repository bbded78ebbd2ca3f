-- What the proofs of other crates cite of this one.

-- whether a reader has met a fault
pub use Rattle.wire_frames.proofs.Faults.{fault_met}
-- a stream that comes in pieces
pub use Rattle.wire_frames.proofs.Pieces.{onward_at, stream_of-append}
-- a small reply has a frame
pub use Rattle.wire_frames.proofs.SmallReplies.{small_has_frame}
