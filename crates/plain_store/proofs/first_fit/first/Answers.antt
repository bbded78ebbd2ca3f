use Rattle.std.proofs.Common.{◌∙◌, sym, arith}
use Rattle.store_facts.proofs.Tests.{not_true, passed}
use Rattle.plain_store.proofs.FirstFits.{walk-start, walk-clear, walk-met, walk-end, walk-past}
use Rattle.plain_store.proofs.first_fit.first.Goals as goal
use Rattle.plain_store.proofs.first_fit.first.Goals.{then-meets, else-meets}

pub loop-extent-init : goal.loop-extent-init
loop-extent-init c = walk-start c.args.extents.now c.args.window c.args.length c.rounded-need.result 0

pub loop-extent-preserved : goal.loop-extent-preserved
loop-extent-preserved c = elim c.if-meets.branch [
  | then-meets w ↦ rw w.offset-is (walk-met c.args.extents.now c.args.window c.args.length c.rounded-need.result c.loop-extent.extent-index c.loop-extent.offset _ c.loop-extent.invariant c.loop-extent-test.true c.requires.rising c.rounded-need.ensures
      (omega (arith, c.if-offset-need.false, c.requires.window)) w.end_in_units-offset.ensures (not_true _ (sym c.meets.ensures ∙ w.if-meets.true)))
  | else-meets w ↦ rw w.offset-is (walk-clear c.args.extents.now c.args.window c.args.length c.rounded-need.result c.loop-extent.extent-index c.loop-extent.offset c.loop-extent.invariant (passed _ (sym c.meets.ensures ∙ w.if-meets.false)))
]

pub returns-then-offset-need : goal.returns-then-offset-need
returns-then-offset-need c = walk-past c.args.extents.now c.args.window c.args.length c.rounded-need.result c.loop-extent.extent-index c.loop-extent.offset c.loop-extent.invariant c.rounded-need.ensures c.if-offset-need.true

pub returns-then-offset-need-2 : goal.returns-then-offset-need-2
returns-then-offset-need-2 c = walk-past c.args.extents.now c.args.window c.args.length c.rounded-need.result c.loop-extent.extent-index c.loop-extent.offset c.loop-extent.invariant c.rounded-need.ensures c.if-offset-need-2.true

pub returns : goal.returns
returns c = walk-end c.args.extents.now c.args.window c.args.length c.rounded-need.result c.loop-extent.extent-index c.loop-extent.offset c.loop-extent.invariant c.loop-extent-test.false c.rounded-need.ensures c.if-offset-need-2.false c.requires.window
