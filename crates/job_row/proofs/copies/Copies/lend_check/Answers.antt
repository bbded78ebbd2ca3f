use Rattle.std.proofs.Common.{Some, None, ap, sym, ◌∙◌}
use Rattle.std.specs.Option.{option_copied}
use Rattle.job_row.proofs.copies.Copies.lend_check.Goals as goal
use Rattle.job_row.proofs.LendChecks.{lend-by}

pub returns-in-None : goal.returns-in-None
returns-in-None c = sym (lend-by c.args.self.now c.args.session c.args.id.now None (sym c.get.ensures ∙ ap option_copied c.in-None.is))

pub returns-in-Some : goal.returns-in-Some
returns-in-Some c = c.lend_check.ensures ∙ sym (lend-by c.args.self.now c.args.session c.args.id.now (Some c.in-Some.copy.now) (sym c.get.ensures ∙ ap option_copied c.in-Some.is))
