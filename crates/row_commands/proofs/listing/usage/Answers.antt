use Rattle.std.proofs.Common.{◌∙◌, rules}
use Rattle.row_steps.proofs.ForCallers.{used-is}
use Rattle.row_commands.proofs.listing.usage.Goals as goal

pub returns-clause-response : goal.returns-clause-response
returns-clause-response c = search rules

pub returns-clause-shown : goal.returns-clause-shown
returns-clause-shown c grants bytes contents h = returns-clause-response c ∙ used-is c.args.row.now c.args.works.now grants bytes contents h
