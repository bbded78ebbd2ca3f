use Rattle.journal_text.proofs.Outcomes.{IfOk-reads}
use Rattle.journal_text.proofs.SortedItems.{Reads-listed}
use Rattle.journal_text.proofs.items.listed.Goals as goal

pub returns : goal.returns
returns c =
    let sorts = rw c.as_slice.ensures at c.sorted.ensures in
    IfOk-reads c.sorted.result (Reads-listed _ _ _ c.in_ok-items.field-0 c.in_ok-items.ensures c.in-Some.items c.in-Some.is) sorts
