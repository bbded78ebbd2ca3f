use Rattle.std.proofs.Common.{◌∙◌}
use Rattle.row_commands.proofs.Quotas.{check-is}
use Rattle.row_commands.proofs.quota_change.requota_check.Goals as goal

pub returns-clause-store : goal.returns-clause-store
returns-clause-store c beside contents h = c.quota_refusal.ensures ∙ check-is c.args.row.now beside contents h c.copies-copies.ensures.placed c.args.quota
