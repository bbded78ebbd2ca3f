use Rattle.std.proofs.Common.{ap, sym, ◌∙◌}
use Rattle.job_row.specs.Row.{copies_of}
use Rattle.job_row.specs.Checks.{lend_check}
use Rattle.row_commands.proofs.Lending.{lent_so}
use Rattle.row_commands.proofs.bytes_commands.lend.Goals as goal

pub returns-clause-ok : goal.returns-clause-ok
returns-clause-ok c beside contents h =
    lent_so c.args.row.now beside contents h c.args.session c.args.id.now
    (ap (λ t. lend_check (copies_of t) c.args.session c.args.id.now) (sym c.copies.ensures.copies) ∙ sym c.lend_check.ensures ∙ c.in_default.is)
    c.bytes.result.now c.bytes.ensures.bytes
