use Rattle.std.proofs.Common.{[], fold, map, sym, ap, subst, ◌∙◌}
use Rattle.obj_id.specs.declared.commands.Command.TheVariants as command
use Rattle.obj_id.specs.declared.commands.OwnItem.{OwnItem}
use Rattle.obj_id.specs.declared.commands.Reply.TheVariants as reply
use Rattle.private_store.specs.declared.inputs.Input.TheVariants as input
use Rattle.private_store.specs.rules.Tables.{ids_of}
use Rattle.job_row.specs.Dropping.{keys_left, left_row}
use Rattle.row_steps.specs.Shown.{only, RowStep}
use Rattle.row_copy.specs.Usages.{own_item_of, doomed_one}
use Rattle.job_row.specs.Usages.{total}
use Rattle.row_commands.proofs.Leaving.{leave_done, none_doomed}
use Rattle.row_commands.proofs.LeavingEach.{ids-listed, each_left}
use Rattle.row_commands.proofs.hold_commands.leave.Goals as goal

pub returns-then-doomed_count-eq0-clause-ok : goal.returns-then-doomed_count-eq0-clause-ok
returns-then-doomed_count-eq0-clause-ok c node beside contents h =
    let none = ap (total doomed_one) (sym c.copies.ensures.copies) ∙ sym c.doomed_count.ensures ∙ c.if-doomed_count-eq0.true in
    subst (λ g. RowStep node c.args.row.now beside contents (input.Call c.args.session command.Leave) g c.leave_copies.new.self beside) (sym c.only.ensures)
    (subst (λ r. RowStep node c.args.row.now beside contents (input.Call c.args.session command.Leave) (only reply.Ok) r beside) (sym c.leave_copies.ensures)
    (leave_done node c.args.row.now beside contents c.args.session h (none_doomed c.args.row.now.copies none)))

pub returns-clause-ok : goal.returns-clause-ok
returns-clause-ok c node beside contents h =
    let row = c.args.row.now in
    let ids = ap (map (λ (item : OwnItem). item.id)) (c.as_slice.ensures ∙ c.in_ok-items.ensures.items ∙ ap (map own_item_of) c.copies-2.ensures.copies) ∙ ids-listed row.copies in
    let keys = c.in_ok-keys.ensures.keys ∙ ap (keys_left c.args.session row) ids in
    let left = c.in_ok-keys.ensures.row ∙ ap (λ ids. fold (left_row c.args.session) row ids) ids in
    subst (λ g. RowStep node row beside contents (input.Call c.args.session command.Leave) g c.leave_each.new.row beside) (sym (λ i. record { reply = reply.Ok; posts = c.new.ensures i; erased = keys i }))
    (subst (λ r. RowStep node row beside contents (input.Call c.args.session command.Leave) (record { reply = reply.Ok; posts = []; erased = keys_left c.args.session row (ids_of row.copies) }) r beside) (sym left)
    (each_left node row beside contents c.args.session h c.copies.ensures.placed))
