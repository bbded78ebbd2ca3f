use Rattle.std.proofs.Common.{arith}
use Rattle.session_engine.proofs.Progress.{begun, heard, heard_no_frame, heard_last, hearing_stopped}
use Rattle.session_engine.proofs.serving.Session.answer_pieces.Goals as goal

pub loop-init : goal.loop-init
loop-init g c = record { room = c.requires.room; progress = rw c.requires.fresh (begun g.G.Gate.gives _ _) }

pub returns-in-Err : goal.returns-in-Err
returns-in-Err g c = hearing_stopped g.G.Gate.gives _ _ _ _ _ c.loop.invariant.progress _ _ _ c.in-Ok.ensures.bytes.0 c.in-Err.fault c.in-Err.ensures

pub returns-in-Ok-NoFrame : goal.returns-in-Ok-NoFrame
returns-in-Ok-NoFrame g c =
    heard_no_frame g.G.Gate.gives _ _ _ _ _ c.loop.invariant.progress _ _ _ c.in-Ok.ensures.bytes.0 c.answer_and_flush.new.self.frames c.in-Ok-NoFrame.field-0 c.in-Ok-NoFrame.ensures c.in-Ok-NoFrame.field-0-is

pub returns-then-count-eq0 : goal.returns-then-count-eq0
returns-then-count-eq0 g c =
    heard_last g.G.Gate.gives _ _ _ _ _ c.loop.invariant.progress _ _ _ c.in-Ok.ensures.bytes.0 c.answer_and_flush.new.self.frames c.in-Ok-Items.field-0 c.in-Ok-Items.ensures c.in-Ok-Items.field-0-is
    (c.in-Ok.ensures.bytes.1 c.if-count-eq0.true (omega arith)) c.end_of.result c.end_of.ensures

pub loop-preserved : goal.loop-preserved
loop-preserved g c = record {
  room = c.widen.ensures;
  progress = heard g.G.Gate.gives _ _ _ _ _ c.loop.invariant.progress _ _ _ c.in-Ok.ensures.bytes.0 c.answer_and_flush.new.self.frames c.in-Ok-Items.field-0 c.in-Ok-Items.ensures c.in-Ok-Items.field-0-is;
}
