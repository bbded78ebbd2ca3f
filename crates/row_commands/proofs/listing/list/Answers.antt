use Rattle.std.proofs.Common.{ap, ◌∙◌, map}
use Rattle.row_copy.specs.Usages.{own_item_of}
use Rattle.row_steps.proofs.ForCallers.{list_done}
use Rattle.row_commands.proofs.listing.list.Goals as goal

pub returns : goal.returns
returns c node session beside contents h granted =
    list_done node c.args.row.now beside contents session h c.in_ok-own.own c.args.granted (c.in_ok-own.ensures.items ∙ ap (map own_item_of) c.copies.ensures.copies) granted
