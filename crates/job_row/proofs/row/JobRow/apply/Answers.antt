use Rattle.std.proofs.Common.{sym, ap, ◌∙◌}
use Rattle.private_store.specs.rules.Tables.{at}
use Rattle.row_copy.specs.Marks.{marked_by}
use Rattle.job_row.specs.Row.{Row}
use Rattle.job_row.proofs.FollowsCopies.{extent_there, one_stays}
use Rattle.row_copy.proofs.ForCallers.{marked_lies}
use Rattle.job_row.proofs.Places.{now_placed}
use Rattle.job_row.proofs.row.JobRow.apply.Goals as goal

pub apply-after-requires : goal.apply-after-requires
apply-after-requires c k found = c.requires.can k (ap (λ (r : Row). at r.copies c.args.id.now) (sym c.self.view_is) ∙ found)

pub invariant_of-self : goal.invariant_of-self
invariant_of-self c =
    let lies = marked_lies c.args.mark c.requires.lies in (
      now_placed c.self.inside.window.placed c.self.inside.copies c.self.invariant.0 (marked_by c.args.mark) lies c.args.id.now c.apply-after.new.self c.apply-after.ensures.copies,
      one_stays (marked_by c.args.mark) c.args.id.now c.self.inside.copies c.apply-after.new.self c.apply-after.ensures.copies c.apply-after.result.eviction_info c.apply-after.ensures.eviction_info
          c.self.inside.order c.set_info.new.self c.set_info.ensures.infos lies c.self.invariant.1,
    )

pub returns-clause-place : goal.returns-clause-place
returns-clause-place c = ap (λ s. s.extent) c.apply-after.ensures.eviction_info ∙ extent_there c.apply-after.new.self c.args.id.now

pub returns-clause-placed : goal.returns-clause-placed
returns-clause-placed c =
    now_placed c.self.inside.window.placed c.self.inside.copies c.self.invariant.0 (marked_by c.args.mark) (marked_lies c.args.mark c.requires.lies) c.args.id.now c.apply-after.new.self c.apply-after.ensures.copies
