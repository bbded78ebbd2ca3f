use Rattle.std.proofs.Common.{arith}
use Rattle.job_row.specs.Usages.{total}
use Rattle.row_copy.specs.Usages.{doomed_one}
use Rattle.job_row.proofs.Totals.{all_counted, none_counted}
use Rattle.job_row.proofs.copies.Copies.doomed_count.Goals as goal

pub loop-copy-init : goal.loop-copy-init
loop-copy-init c =
    let gives = c.into_iter-copy-iterator.ensures.into_iter_gives in
    record { rest = none_counted (λ e. doomed_one e.1) c.self.inside.by_id.entries c.into_iter-copy-iterator.result c.args.self.now gives.0 gives.4 c.self.view_is; fits = omega arith }

pub returns : goal.returns
returns c = all_counted (λ e. doomed_one e.1) c.loop-copy.count (total doomed_one c.args.self.now) c.loop-copy.copy-iterator c.in-None.ensures.steps.0 c.loop-copy.invariant.fits c.loop-copy.invariant.rest
