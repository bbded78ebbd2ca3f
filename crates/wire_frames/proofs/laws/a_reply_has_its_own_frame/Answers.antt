use Rattle.wire_frames.proofs.OneReply.{one_reply}
use Rattle.wire_frames.proofs.laws.a_reply_has_its_own_frame.Goals as goal

pub returns : goal.returns
returns c = one_reply
