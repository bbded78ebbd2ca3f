use Rattle.std.proofs.Common.{length, sym, ap, ◌∙◌}
use Rattle.job_row.proofs.Rising.{length-rising}
use Rattle.job_row.proofs.copies.Copies.len.Goals as goal

pub returns-clause-len : goal.returns-clause-len
returns-clause-len c = c.len.ensures.len ∙ sym (length-rising c.self.inside.by_id.entries c.len.ensures.unique) ∙ ap length c.self.view_is
