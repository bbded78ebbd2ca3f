use Rattle.std.proofs.Common.{sym, ap, ◌∙◌}
use Rattle.private_store.specs.rules.Tables.{at}
use Rattle.job_row.proofs.Rising.{at-rising}
use Rattle.job_row.proofs.copies.Copies.get.Goals as goal

pub returns : goal.returns
returns c =
    c.get.ensures.value ∙ sym (at-rising c.self.inside.by_id.entries c.args.id.now) ∙ ap (λ t. at t c.args.id.now) c.self.view_is
