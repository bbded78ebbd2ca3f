use Rattle.wire_frames.proofs.Kept.{HasFrame-stream_of, spelled_again-stream_of}
use Rattle.wire_frames.proofs.laws.what_is_read_is_written.Goals as goal

pub returns-clause-framed : goal.returns-clause-framed
returns-clause-framed c = HasFrame-stream_of

pub returns-clause-spelled : goal.returns-clause-spelled
returns-clause-spelled c = spelled_again-stream_of
