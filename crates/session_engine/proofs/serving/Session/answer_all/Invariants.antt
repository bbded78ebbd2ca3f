use Rattle.std.proofs.Common.{◌≡◌}
use Rattle.std.specs.Vec.Iter.{into_iter_items}
use Rattle.session_engine.specs.Sessions.{session_state}
use Rattle.session_engine.proofs.Answering.{SoFar}
use Rattle.session_engine.proofs.serving.Session.answer_all.Given as goal

abbrev pub invariant-loop-item : goal.invariant-loop-item
invariant-loop-item g l = record {
  can : (goal.iterator-loop-item g).can_next l.item-iterator;
  finite : (goal.iterator-loop-item g).is_finite l.item-iterator;
  frames : l.self.frames ≡ l.fn.self.frames;
  so_far : SoFar g.G.Gate.gives l.fn.items.items (into_iter_items l.item-iterator) (session_state l.fn.gate l.fn.self.session_id (g.W.Write.contents l.fn.writer)) (session_state l.gate l.self.session_id (g.W.Write.contents l.writer));
}
