use Rattle.session_engine.specs.declared.serving.TheConstants.{PART_SIZE}
use Rattle.session_engine.proofs.Answering.{passed_on}
use Rattle.session_engine.proofs.Parts.{piece_begun, part_answered, part_stopped, last_part}
use Rattle.session_engine.proofs.serving.Session.answer_piece.Goals as goal

pub loop-rest-init : goal.loop-rest-init
loop-rest-init g c = piece_begun g.G.Gate.gives _ _ _

pub loop-rest-preserved : goal.loop-rest-preserved
loop-rest-preserved g c =
    part_answered g.G.Gate.gives _ _ _ _ _ _ c.loop-rest.invariant _ _ PART_SIZE _ _ c.split_at.ensures.front c.split_at.ensures.back c.in_ok-answer_part.ensures

pub returns-in_err-answer_part : goal.returns-in_err-answer_part
returns-in_err-answer_part g c =
    rw (passed_on _ c.in_err-answer_part.field-0.0 c.from_residual.ensures.1)
    (part_stopped g.G.Gate.gives _ _ _ _ _ _ c.loop-rest.invariant _ c.answer_part.new.self.frames PART_SIZE _ _ c.split_at.ensures.front c.split_at.ensures.back _
    c.in_err-answer_part.ensures)

pub returns : goal.returns
returns g c = last_part g.G.Gate.gives _ _ _ _ _ _ c.loop-rest.invariant _ _ c.answer_part-2.result c.answer_part-2.ensures
