use Rattle.std.proofs.Common.{false, Some, List, [], length, sym, ap, subst, ◌∙◌, arith}
use Rattle.std.specs.Option.{option_map_or}
use Rattle.obj_id.specs.declared.commands.Command.TheVariants as command
use Rattle.obj_id.specs.declared.commands.Reply.TheVariants as reply
use Rattle.private_store.specs.declared.inputs.Input.TheVariants as input
use Rattle.private_store.specs.rules.Copies.{is_sealed}
use Rattle.private_store.specs.rules.Extents.{rounded}
use Rattle.private_store.specs.rules.Private.{Post}
use Rattle.job_row.specs.Evicting.{IsReplaced, replaced, removals}
use Rattle.row_copy.specs.CopyViews.{CopyView, new_copy_view}
use Rattle.row_steps.specs.Shown.{RowStep}
use Rattle.job_row.proofs.ForCallers.{length-removals}
use Rattle.room_commands.proofs.Creating.{absent_of, size_of, unlisted, create_done}
use Rattle.room_commands.proofs.Pulling.{some_bytes}
use Rattle.room_commands.proofs.Rooms.{stays_of}
use Rattle.room_commands.proofs.create_command.create_in_place.Goals as goal

pub replace_copies-requires-clause-stays : goal.replace_copies-requires-clause-stays
replace_copies-requires-clause-stays c =
    stays_of c.args.row.now.copies c.args.placement.now.victims c.args.id.now c.requires.may_go
    (ap (λ o. option_map_or (λ (k : CopyView). is_sealed k.copy.state) o false) (absent_of c.args.row.now c.args.id.now c.args.len c.requires.checked))

pub overflow_cast-result : goal.overflow_cast-result
overflow_cast-result c =
    omega (arith, c.in_ok-extent.ensures.small)

pub overflow_cast-result-2 : goal.overflow_cast-result-2
overflow_cast-result-2 c =
    omega (arith, c.in_ok-extent.ensures.small)

pub returns-clause-ok : goal.returns-clause-ok
returns-clause-ok c session beside contents mine h makes =
    let e = c.in_ok-extent.extent in
    let stays = stays_of c.args.row.now.copies c.args.placement.now.victims c.args.id.now c.requires.may_go
    (ap (λ o. option_map_or (λ (k : CopyView). is_sealed k.copy.state) o false) (absent_of c.args.row.now c.args.id.now c.args.len c.requires.checked)) in
    let r : IsReplaced c.args.row.now (Some c.args.id.now) c.args.id.now (new_copy_view c.args.kind c.args.len) c.args.len c.args.placement.now.victims e c.replace_copies.new.self =
    c.in_ok-extent.ensures.ok
    (unlisted c.args.node c.args.row.now beside contents session c.args.id.now c.args.kind c.args.len mine h c.requires.checked) in
    subst (λ row. RowStep c.args.node c.args.row.now beside contents (input.Call session (command.Create c.args.id.now c.args.kind c.args.len)) (record { reply = reply.Placed e.offset e.length; posts = c.in_ok-messages.messages; erased = [] }) row beside) (sym r.row)
    (subst (λ n. RowStep c.args.node c.args.row.now beside contents (input.Call session (command.Create c.args.id.now c.args.kind c.args.len)) (record { reply = reply.Placed e.offset n; posts = c.in_ok-messages.messages; erased = [] }) (replaced c.args.row.now (Some c.args.id.now) c.args.id.now (new_copy_view c.args.kind c.args.len e.offset) c.args.len e.offset c.args.placement.now.victims) beside) (sym r.length)
    (subst (λ (ms : List Post). RowStep c.args.node c.args.row.now beside contents (input.Call session (command.Create c.args.id.now c.args.kind c.args.len)) (record { reply = reply.Placed e.offset (rounded c.args.len); posts = ms; erased = [] }) (replaced c.args.row.now (Some c.args.id.now) c.args.id.now (new_copy_view c.args.kind c.args.len e.offset) c.args.len e.offset c.args.placement.now.victims) beside) (sym (c.in_ok-messages.ensures ∙ (λ i. removals c.args.node (c.copies.ensures.copies i) (c.as_slice-victims.ensures i))))
    (create_done c.args.node c.args.row.now beside contents session c.args.id.now c.args.kind c.args.len mine h c.requires.checked c.args.placement.now.victims makes stays c.in_ok-extent.ensures.placed e.offset r.least r.fresh)))

pub returns-clause-bounded : goal.returns-clause-bounded
returns-clause-bounded c =
    let few = c.requires.may_go.few in
    let sent = length-removals c.args.node c.copies.result.now c.as_slice-victims.result.now in
    let same = ap length c.as_slice-victims.ensures in
    let response = ap length c.in_ok-messages.ensures in
    omega (arith, few, sent, same, response)

pub replace_copies-requires-clause-some : goal.replace_copies-requires-clause-some
replace_copies-requires-clause-some c = some_bytes c.args.row.now.window.quota c.args.len (size_of c.args.row.now c.args.id.now c.args.len c.requires.checked)
