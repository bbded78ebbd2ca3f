use Rattle.std.proofs.Common.{◌≡◌, ◌<◌, ◌≤◌, false, None, List, [], ◌∷◌, ◌++◌, ◌+◌, length, refl, sym, ap, subst, ◌∙◌, arith}
use Rattle.std.specs.Option.{option_and_then}
use Rattle.obj_id.specs.declared.commands.Command.TheVariants as command
use Rattle.obj_id.specs.declared.commands.CopyState.TheVariants.{Away}
use Rattle.obj_id.specs.declared.commands.Reply.TheVariants as reply
use Rattle.obj_id.specs.declared.refusals.Refusal.TheVariants.{Pending}
use Rattle.obj_id.specs.declared.works.WorkKind.TheVariants.{Read}
use Rattle.job_region.specs.Region.{Region, extents_of}
use Rattle.private_store.specs.declared.inputs.Input.TheVariants as input
use Rattle.private_store.specs.rules.Extents.{first, is_size}
use Rattle.private_store.specs.rules.Limits.{longest_object, has_numbers}
use Rattle.private_store.specs.rules.Private.{Post}
use Rattle.private_store.specs.rules.Room.{make_room}
use Rattle.store_facts.proofs.Tests.{some_value, true_false}
use Rattle.spill_work.specs.Line.{AsksWork, used_by}
use Rattle.job_row.specs.Evicting.{IsReplaced, placed_without, replaced, removals}
use Rattle.row_copy.specs.CopyViews.{CopyView, after_restore_begun}
use Rattle.room_commands.specs.RoomPlans.{MakesPlace}
use Rattle.row_steps.specs.Shown.{RowGiven, RowStep}
use Rattle.job_row.proofs.ForCallers.{length-removals, waiting}
use Rattle.room_commands.proofs.Getting.{each_ok, some_at}
use Rattle.room_commands.proofs.Pulling.{some_bytes, unsealed_visible}
use Rattle.room_commands.proofs.Rooms.{size_there, stays_of}
use Rattle.room_commands.proofs.Restoring.{few_works, may_ask, has_asked, asked_beside, sized_away, restore_done}
use Rattle.room_commands.proofs.restore.restore_in_place.Goals as goal
use Rattle.row_steps.specs.Beside.{SharedTables, beside_of, shape_of}

pub returns-in-Ok-clause-ok : goal.returns-in-Ok-clause-ok
returns-in-Ok-clause-ok c session grants bytes contents own mine alive h makes =
    let v = some_at c.args.row.now.copies c.args.id.now Away c.requires.visible in
    let sound = sym (ap (option_and_then (λ (k : CopyView). k.copy.fault)) v.found) ∙ c.requires.sound in
    let w = waiting c.args.row.now.copies c.args.id.now c.args.len c.requires.waits in
    let long : c.args.len ≡ v.k.copy.length = sym w.long ∙ ap (λ (y : CopyView). y.copy.length) (some_value w.k v.k (sym w.found ∙ v.found)) in
    let beside : SharedTables = beside_of c.args.works.now grants bytes c.args.row.now.job in
    let e = c.in-Ok.field-0 in
    let r : IsReplaced c.args.row.now None c.args.id.now (λ offset. after_restore_begun offset v.k) c.args.len c.args.placement.now.victims e c.place_copy.new.self =
    c.in-Ok.ensures.ok v.k v.found in
    let asks = subst (λ j. AsksWork c.args.works.now (record { job = j; number = c.in_ok-number.number; id = c.args.id.now; kind = Read }) c.ask_read.new.works) own c.in_ok-number.ensures.ok in
    subst (λ g. RowStep c.args.node c.args.row.now beside contents (input.Call session (command.Get c.args.id.now)) g c.place_copy.new.self (beside_of c.ask_read.new.works grants bytes c.args.row.now.job)) (sym c.pending.ensures)
    (subst (λ b. RowStep c.args.node c.args.row.now beside contents (input.Call session (command.Get c.args.id.now)) (record { reply = reply.Refused Pending; posts = c.in_ok-messages.messages; erased = [] }) c.place_copy.new.self b) (sym (asked_beside c.args.works.now c.ask_read.new.works c.args.row.now.job c.in_ok-number.number c.args.id.now grants bytes asks))
    (subst (λ row. RowStep c.args.node c.args.row.now beside contents (input.Call session (command.Get c.args.id.now)) (record { reply = reply.Refused Pending; posts = c.in_ok-messages.messages; erased = [] }) row
    (record beside { works = beside.works ++ record { number = beside.used + 1; id = c.args.id.now; writes = false } ∷ []; used = beside.used + 1 })) (sym (r.row ∙ ap (λ n. replaced c.args.row.now None c.args.id.now (after_restore_begun e.offset v.k) n e.offset c.args.placement.now.victims) long))
    (subst (λ (ps : List Post). RowStep c.args.node c.args.row.now beside contents (input.Call session (command.Get c.args.id.now)) (record { reply = reply.Refused Pending; posts = ps; erased = [] }) (replaced c.args.row.now None c.args.id.now (after_restore_begun e.offset v.k) v.k.copy.length e.offset c.args.placement.now.victims)
    (record beside { works = beside.works ++ record { number = beside.used + 1; id = c.args.id.now; writes = false } ∷ []; used = beside.used + 1 })) (sym (c.in_ok-messages.ensures ∙ (λ j. removals c.args.node (c.copies.ensures.copies j) (c.as_slice-victims.ensures j))))
    (restore_done c.args.node c.args.row.now beside contents session c.args.id.now mine alive h v.k v.found v.stays v.is sound (few_works c.args.works.now c.args.job c.args.row.now.job own c.requires.idle)
    c.args.placement.now.victims (subst (λ n. MakesPlace (make_room c.args.row.now.order (shape_of c.args.row.now beside) n) (shape_of c.args.row.now beside) n c.args.placement.now.victims) long makes)
    (ap (λ j. has_numbers (used_by c.args.works.now j) 1) (sym own) ∙ c.requires.numbered) c.in-Ok.ensures.placed w.nowhere
    (stays_of c.args.row.now.copies c.args.placement.now.victims c.args.id.now c.requires.may_go (unsealed_visible c.args.row.now.copies c.args.id.now Away refl c.requires.visible)) e.offset
    (ap (λ n. first (extents_of (placed_without c.args.row.now c.args.placement.now.victims)) c.args.row.now.window.quota n) (sym long) ∙ r.least) r.fresh))))

pub returns-in-Ok-clause-bounded : goal.returns-in-Ok-clause-bounded
returns-in-Ok-clause-bounded c =
    let few = c.requires.may_go.few in
    let sent = length-removals c.args.node c.copies.result.now c.as_slice-victims.result.now in
    let same = ap length c.as_slice-victims.ensures in
    let response = ap length c.in_ok-messages.ensures in
    let all = ap (λ (g : RowGiven). length g.posts) c.pending.ensures in
    omega (arith, few, sent, same, response, all)

pub returns-in-Ok-clause-line : goal.returns-in-Ok-clause-line
returns-in-Ok-clause-line c = has_asked c.args.works.now c.ask_read.new.works c.args.job c.in_ok-number.number c.args.id.now c.in_ok-number.ensures.ok

pub returns-then-not-may_have-clause-ok : goal.returns-then-not-may_have-clause-ok
returns-then-not-may_have-clause-ok c =
    let v = some_at c.args.row.now.copies c.args.id.now Away c.requires.visible in
    let w = waiting c.args.row.now.copies c.args.id.now c.args.len c.requires.waits in
    let long : c.args.len ≡ v.k.copy.length = sym w.long ∙ ap (λ (y : CopyView). y.copy.length) (some_value w.k v.k (sym w.found ∙ v.found)) in
    each_ok c.refuse.result (λ o said session grants bytes contents own mine alive h makes.
    let beside : SharedTables = beside_of c.args.works.now grants bytes c.args.row.now.job in
    let sized = sized_away c.args.row.now beside contents h c.args.id.now v.k v.found v.is in
    let fine = size_there c.args.row.now beside contents h c.args.len c.args.placement.now.victims makes c.copies.ensures.placed (subst (λ n. 0 < n) (sym long) sized.0) (subst (λ n. n ≤ longest_object) (sym long) sized.1) in
    let may = c.may_have.ensures ∙ ap (λ (w : Region). is_size w.quota c.args.len) c.window.ensures ∙ fine in
    true_false (sym c.if-not-may_have.true ∙ may)) c.refuse.ensures.ok

pub place_copy-requires-clause-some : goal.place_copy-requires-clause-some
place_copy-requires-clause-some c = some_bytes c.args.row.now.window.quota c.args.len (sym (c.may_have.ensures ∙ ap (λ (w : Region). is_size w.quota c.args.len) c.window.ensures) ∙ c.if-not-may_have.false)

pub returns-in-Err-clause-works : goal.returns-in-Err-clause-works
returns-in-Err-clause-works c =
    let asks = c.in_ok-number.ensures.ok in
    let next = asks.number in
    c.take_back.ensures.undone c.args.works.now c.args.id.now Read asks (λ one. c.requires.fresh (omega (arith, next, one)))

pub ask_read-requires : goal.ask_read-requires
ask_read-requires c = may_ask c.args.works.now c.args.job c.requires.idle c.requires.numbered

pub place_copy-requires-clause-stays : goal.place_copy-requires-clause-stays
place_copy-requires-clause-stays c = stays_of c.args.row.now.copies c.args.placement.now.victims c.args.id.now c.requires.may_go (unsealed_visible c.args.row.now.copies c.args.id.now Away refl c.requires.visible)
