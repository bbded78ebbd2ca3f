use Rattle.row_steps.proofs.ForCallers.{usage_done}
use Rattle.row_commands.proofs.listing.tell_usage.Goals as goal
use Rattle.row_steps.specs.Beside.{beside_of}

pub returns : goal.returns
returns c node session grants bytes contents h =
    usage_done node c.args.row.now (beside_of c.args.works.now grants bytes c.args.row.now.job) contents session h c.usage.result (c.usage.ensures.shown grants bytes contents h)
