use Rattle.journal_text.proofs.EachField.{IsReadUpTo-next, Reads-all}
use Rattle.journal_text.proofs.items.items.Goals as goal

pub loop-field-preserved : goal.loop-field-preserved
loop-field-preserved c =
    rw c.in_ok-push.ensures.ok (IsReadUpTo-next _ _ _ _ c.loop-field.invariant _ c.loop-field-test.true c.in_ok-item.field-0 c.in_ok-item.ensures c.in-Some.item c.in-Some.is)

pub returns : goal.returns
returns c = Reads-all _ _ _ _ c.loop-field.invariant c.loop-field-test.false
