use Rattle.operator_service.specs.Servings.{IsOrderedAt, Serving}
use Rattle.operator_service.proofs.serving.serve_text.Given as goal

abbrev pub invariant-loop-number : goal.invariant-loop-number
invariant-loop-number g l = Serving (IsOrderedAt g.K.JournaledNode.receipt_of g.K.JournaledNode.made_at) l.fn.count l.number l.fn.actor l.actor (g.I.Read.remaining l.fn.reader) (g.I.Read.remaining l.reader) (g.O.Write.contents l.fn.writer) (g.O.Write.contents l.writer)
