use Rattle.std.proofs.Common.{Err, ap}
use Rattle.session_engine.proofs.Answering.{no_memory_before}
use Rattle.session_engine.proofs.Hearing.{items_answered, no_items_answered}
use Rattle.session_engine.proofs.serving.Session.answer_part.Goals as goal

pub returns-in-Ok : goal.returns-in-Ok
returns-in-Ok g c =
    rw c.answer_all.ensures.frames
    (items_answered g.G.Gate.gives c.args.self.now.frames c.args.part.now _ _ c.feed.new.self c.in-Ok.items.items c.answer_all.result c.in-Ok.ensures.items c.answer_all.ensures.answers)

pub returns-in-Err-Malformed : goal.returns-in-Err-Malformed
returns-in-Err-Malformed g c =
    no_items_answered g.G.Gate.gives c.args.self.now.frames c.args.part.now _ c.feed.new.self (c.in-Err-Malformed.ensures.fault (ap Err c.in-Err-Malformed.field-0-is))

pub returns-in-Err : goal.returns-in-Err
returns-in-Err g c = no_memory_before g.G.Gate.gives _ _ _
