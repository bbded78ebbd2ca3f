use Rattle.wire_frames.proofs.Written.{stream_of-item_frames}
use Rattle.wire_frames.proofs.laws.what_is_written_is_read.Goals as goal

pub returns : goal.returns
returns c = stream_of-item_frames
