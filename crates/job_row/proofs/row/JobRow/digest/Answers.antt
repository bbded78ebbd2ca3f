use Rattle.std.proofs.Common.{sym, subst, ◌∙◌, arith}
use Rattle.job_region.specs.Region.{IsAt}
use Rattle.job_row.specs.Row.{Row}
use Rattle.job_row.proofs.row.JobRow.digest.Goals as goal
use Rattle.job_row.proofs.Places.{extent_holds}

pub digest_of-requires-clause-there : goal.digest_of-requires-clause-there
digest_of-requires-clause-there c =
    subst (λ (r : Row). IsAt c.in-Some.extent r.window.placed) (sym c.self.view_is) (c.requires c.in-Some.extent (sym c.extent.ensures ∙ c.in-Some.is))

pub digest_of-requires-clause-len : goal.digest_of-requires-clause-len
digest_of-requires-clause-len c =
    let fits = extent_holds c.args.copy.now.copy c.in-Some.extent (sym c.extent.ensures ∙ c.in-Some.is) in
    omega (arith, fits, c.length.ensures)
