use Rattle.spill_work.proofs.Marks.{has_mark, has_none, mark_step}
use Rattle.spill_work.proofs.row.Row.mark.Goals as goal
use Rattle.spill_work.proofs.row.Row.mark.Goals.{then-timed-number, else-timed-number}

pub loop-timed-preserved : goal.loop-timed-preserved
loop-timed-preserved c =
    let items = c.loop-timed.timed-items in
    let i = c.loop-timed.timed-index in
    let t = c.timed-item.result in
    let step = mark_step c.args.number items c.if-timed-number.timed-items i t c.timed-item.is c.deref_mut-timed-items.result.now c.loop-timed-test.true c.loop-timed.invariant in
    elim c.if-timed-number.branch [
      | then-timed-number w ↦ step (has_mark c.args.number items c.if-timed-number.timed-items i t c.timed-item.is w.if-timed-number.true w.timed-items-is)
      | else-timed-number w ↦ step (has_none c.args.number items c.if-timed-number.timed-items i t c.timed-item.is w.if-timed-number.false w.timed-items-is)
    ]
