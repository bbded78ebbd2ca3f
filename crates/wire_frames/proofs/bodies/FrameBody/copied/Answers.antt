use Rattle.std.proofs.Common.{◌≡◌, drop, ◌∙◌}
use Rattle.wire_frames.proofs.Finishing.{rest_taken}
use Rattle.wire_frames.proofs.bodies.FrameBody.copied.Goals as goal

pub returns-in_ok-payload-in-Write : goal.returns-in_ok-payload-in-Write
returns-in_ok-payload-in-Write c =
    let payload : c.in_ok-payload-in-Write.payload ≡ drop 32 c.args.body.now = c.in_ok-payload-in-Write.ensures ∙ rest_taken c.args.body.now 32 in
    rw (payload, c.in-Write.is)
