use Rattle.std.proofs.Common.{ap, ◌∙◌}
use Rattle.row_copy.specs.Usages.{device_bytes}
use Rattle.job_row.specs.Counted.{capped}
use Rattle.job_row.proofs.Sums.{response}
use Rattle.job_row.proofs.copies.Copies.device_bytes.Goals as goal

pub returns : goal.returns
returns c = c.to_u64.ensures ∙ ap (λ t. capped t.device) c.self.invariant ∙ response device_bytes c.self.inside.by_id.entries c.args.self.now c.self.view_is c.len-count.ensures.unique
