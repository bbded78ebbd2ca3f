use Rattle.std.proofs.Common.{sym, subst}
use Rattle.job_region.specs.Region.{IsAt}
use Rattle.job_row.specs.Row.{Row}
use Rattle.job_row.proofs.row.JobRow.freeze_at.Goals as goal

pub freeze-requires : goal.freeze-requires
freeze-requires c = subst (λ (r : Row). IsAt c.in-Some.extent r.window.placed) (sym c.self.view_is) (c.requires c.in-Some.extent c.in-Some.is)
