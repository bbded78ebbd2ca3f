use Rattle.std.proofs.Common.{refl, rules, ◌∙◌}
use Rattle.std.specs.Vec.Iter.{into_iter_items}
use Rattle.session_engine.proofs.Answering.{passed_on, so_far_none, so_far_more, so_far_stopped}
use Rattle.session_engine.proofs.serving.Session.answer_all.Goals as goal

pub loop-item-init : goal.loop-item-init
loop-item-init g c = record {
  can = tt;
  finite = tt;
  frames = refl;
  so_far = so_far_none g.G.Gate.gives c.args.items.items (into_iter_items c.into_iter-item-iterator.result) _ (search rules);
}

pub loop-item-preserved : goal.loop-item-preserved
loop-item-preserved g c = record {
  can = tt;
  finite = tt;
  frames = c.answer_one.ensures.frames ∙ c.loop-item.invariant.frames;
  so_far = so_far_more g.G.Gate.gives _ _ _ _ _ c.loop-item.invariant.so_far c.in-Some.item _ c.in-Some.ensures.steps.0 c.in_ok-answer_one.ensures.answers;
}

pub returns-in_err-answer_one-clause-answers : goal.returns-in_err-answer_one-clause-answers
returns-in_err-answer_one-clause-answers g c =
    rw (passed_on _ c.in_err-answer_one.field-0.0 c.from_residual.ensures.1)
    (so_far_stopped g.G.Gate.gives _ _ _ _ _ c.loop-item.invariant.so_far c.in-Some.item _ c.in-Some.ensures.steps.0 _ c.in_err-answer_one.ensures.answers)
