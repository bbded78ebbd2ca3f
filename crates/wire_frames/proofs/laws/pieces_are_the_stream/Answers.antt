use Rattle.wire_frames.proofs.Pieces.{IsLessThanAFrame-reading_after, feeding-stream}
use Rattle.wire_frames.proofs.laws.pieces_are_the_stream.Goals as goal

pub returns-clause-given : goal.returns-clause-given
returns-clause-given c = feeding-stream

pub returns-clause-kept : goal.returns-clause-kept
returns-clause-kept c = IsLessThanAFrame-reading_after
