use Rattle.row_copy.specs.Arriving.{after_located}
use Rattle.job_row.proofs.Places.{now_placed}
use Rattle.job_row.proofs.FollowsCopies.{one_stays}
use Rattle.job_row.proofs.row.JobRow.locate_copy.Goals as goal
use Rattle.row_copy.proofs.ForCallers.{located-place}

pub invariant_of-self : goal.invariant_of-self
invariant_of-self c = (
  now_placed c.self.inside.window.placed c.self.inside.copies c.self.invariant.0 (after_located c.args.node c.args.number c.args.entries.now) (located-place c.args.node c.args.number c.args.entries.now) c.args.id.now c.locate-after.new.self c.locate-after.ensures.copies,
  one_stays (after_located c.args.node c.args.number c.args.entries.now) c.args.id.now c.self.inside.copies c.locate-after.new.self c.locate-after.ensures.copies c.locate-after.result.eviction_info c.locate-after.ensures.eviction_info
      c.self.inside.order c.set_info.new.self c.set_info.ensures.infos (located-place c.args.node c.args.number c.args.entries.now) c.self.invariant.1,
)
