use Rattle.std.proofs.Common.{map, ap, ◌∙◌}
use Rattle.obj_id.specs.declared.commands.OwnItem.{OwnItem}
use Rattle.job_row.specs.Ending.{keys_backed}
use Rattle.row_copy.specs.Usages.{own_item_of}
use Rattle.row_commands.proofs.LeavingEach.{ids-listed}
use Rattle.row_commands.proofs.ending.device_keys.Goals as goal

pub returns : goal.returns
returns c =
    let ids = ap (map (λ (item : OwnItem). item.id)) (c.as_slice.ensures ∙ c.in_ok-items.ensures.items ∙ ap (map own_item_of) c.copies.ensures.copies) ∙ ids-listed c.args.row.now.copies in
    c.in_ok-keys_each.ensures ∙ ap (keys_backed c.args.row.now) ids
