use Rattle.std.proofs.Common.{sym, ◌∙◌}
use Rattle.job_row.proofs.row.JobRow.settle.Goals as goal
use Rattle.job_row.proofs.Settling.{row_kept, keys_kept}

pub returns-then-not-over-clause-row : goal.returns-then-not-over-clause-row
returns-then-not-over-clause-row c = sym (row_kept c.args.self.now c.args.id.now (sym c.requires ∙ c.if-not-over.true))

pub returns-then-not-over-clause-keys : goal.returns-then-not-over-clause-keys
returns-then-not-over-clause-keys c = sym (keys_kept c.args.self.now c.args.id.now (sym c.requires ∙ c.if-not-over.true))
