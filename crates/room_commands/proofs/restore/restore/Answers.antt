use Rattle.std.proofs.Common.{◌≡◌, ◌==◌, ◌<◌, true, false, ◌≤◌, ◌+◌, length, IfOk, sym, ap, subst, ◌∙◌}
use Rattle.std.specs.Option.{option_copied, option_map_or, option_and_then}
use Rattle.obj_id.specs.declared.commands.Command.TheVariants as command
use Rattle.obj_id.specs.declared.commands.CopyState.TheVariants.{Away}
use Rattle.obj_id.specs.declared.commands.Reply.TheVariants as reply
use Rattle.obj_id.specs.declared.refusals.Refusal.TheVariants.{TooMany}
use Rattle.private_store.specs.declared.inputs.Input.TheVariants as input
use Rattle.job_region.specs.Region.{place_for}
use Rattle.private_store.specs.rules.Copies.{is_away}
use Rattle.private_store.specs.laws.Invariants.{is_remembered}
use Rattle.private_store.specs.rules.Limits.{most_works, has_numbers}
use Rattle.private_store.specs.rules.Room.{make_room}
use Rattle.private_store.specs.rules.Tables.{at}
use Rattle.spill_work.specs.Line.{in_flight, used_by}
use Rattle.job_row.specs.Checks.{visible_state, fault_at}
use Rattle.row_copy.specs.CopyViews.{CopyView, waits_for_place}
use Rattle.row_steps.specs.Outcomes.{row_given_of}
use Rattle.room_commands.specs.RoomPlans.{MakesPlace, planned_by, makes_place}
use Rattle.job_row.specs.Row.{Row}
use Rattle.row_steps.specs.Shown.{IsShown, only, RowStep}
use Rattle.room_commands.proofs.Getting.{each_ok, each_err, some_at, seen_at}
use Rattle.room_commands.proofs.Growing.{place_planned_by}
use Rattle.room_commands.proofs.MemoryLast.{restore_due}
use Rattle.room_commands.proofs.Pulling.{own_job, waits}
use Rattle.room_commands.proofs.Restoring.{busy_told, few_works, all_works, no_number, numbers_left, too_many_told}
use Rattle.room_commands.proofs.restore.restore.Goals as goal
use Rattle.row_steps.specs.Beside.{beside_of, shape_of}

pub restore_by-requires-clause-visible : goal.restore_by-requires-clause-visible
restore_by-requires-clause-visible c = ap (λ (r : Row). visible_state (at r.copies c.args.id.now)) c.plan_room-plan.ensures.same ∙ c.requires.visible

pub restore_by-requires-clause-sound : goal.restore_by-requires-clause-sound
restore_by-requires-clause-sound c = ap (λ (r : Row). fault_at r.copies c.args.id.now) c.plan_room-plan.ensures.same ∙ c.requires.sound

pub restore_by-requires-clause-idle : goal.restore_by-requires-clause-idle
restore_by-requires-clause-idle c = subst (λ m. m < most_works) c.in_flight.ensures c.if-in_flight-ge-MOST_WORKS.false

pub restore_by-requires-clause-waits : goal.restore_by-requires-clause-waits
restore_by-requires-clause-waits c =
    let k = c.in-Some.copy.now in
    let found = ap (λ t. at t c.args.id.now) (sym c.copies.ensures.copies) ∙ sym c.get.ensures ∙ ap option_copied c.in-Some.is in
    let st = seen_at c.args.row.now.copies c.args.id.now Away k found c.requires.visible in
    let none = sym c.offset-place.ensures.offset ∙ c.offset-place.ensures.away (ap is_away st.1) in
    ap (λ (r : Row). option_map_or (waits_for_place c.length-len.result) (at r.copies c.args.id.now) false) c.plan_room-plan.ensures.same ∙ waits c.args.row.now.copies c.args.id.now k found none c.length-len.result c.length-len.ensures

pub returns-then-in_flight-ge-MOST_WORKS-clause-ok : goal.returns-then-in_flight-ge-MOST_WORKS-clause-ok
returns-then-in_flight-ge-MOST_WORKS-clause-ok c =
    let v = some_at c.args.row.now.copies c.args.id.now Away c.requires.visible in
    let sound = sym (ap (option_and_then (λ (k : CopyView). k.copy.fault)) v.found) ∙ c.requires.sound in
    each_ok c.refuse.result (λ o said session grants bytes contents own mine alive h.
    subst (λ t. RowStep c.args.node c.args.row.now (beside_of c.args.works.now grants bytes c.args.row.now.job) contents (input.Call session (command.Get c.args.id.now)) t c.args.row.now (beside_of c.args.works.now grants bytes c.args.row.now.job)) (sym said)
    (busy_told c.args.node c.args.row.now (beside_of c.args.works.now grants bytes c.args.row.now.job) contents session c.args.id.now mine alive h v.k v.found v.stays v.is sound
    (all_works c.args.works.now c.args.job c.args.row.now.job own (subst (λ m. most_works ≤ m) c.in_flight.ensures c.if-in_flight-ge-MOST_WORKS.true)))) c.refuse.ensures.ok

pub restore_by-requires-clause-numbered : goal.restore_by-requires-clause-numbered
restore_by-requires-clause-numbered c makes =
    ap (λ n. has_numbers n 1) (sym c.asked-asked.ensures.last)
    ∙ numbers_left c.makes_place.result c.asked-asked.result c.else-makes_place.either c.asked-asked.type_inv (c.makes_place.ensures ∙ makes)

pub restore_by-requires-clause-fresh : goal.restore_by-requires-clause-fresh
restore_by-requires-clause-fresh c none =
    c.asked-asked.ensures.fresh (c.asked-asked.ensures.last ∙ none)

pub returns-then-asked-clause-ok : goal.returns-then-asked-clause-ok
returns-then-asked-clause-ok c =
    let k = c.in-Some.copy.now in
    let found = ap (λ t. at t c.args.id.now) (sym c.copies.ensures.copies) ∙ sym c.get.ensures ∙ ap option_copied c.in-Some.is in
    let st = seen_at c.args.row.now.copies c.args.id.now Away k found c.requires.visible in
    let sound = sym (ap (option_and_then (λ (k : CopyView). k.copy.fault)) found) ∙ c.requires.sound in
    each_ok c.refuse-then-asked.result (λ o said session grants bytes contents own mine alive h.
    let beside = beside_of c.args.works.now grants bytes c.args.row.now.job in
    let place = place_planned_by c.args.row.now beside contents h c.length-len.result
    (ap makes_place (sym (c.plan_room-plan.ensures.plan grants bytes contents own h)) ∙ sym c.makes_place.ensures ∙ c.if-makes_place.true) in
    subst (λ g. RowStep c.args.node c.args.row.now beside contents (input.Call session (command.Get c.args.id.now)) g c.plan_room-plan.new.row beside) (sym said)
    (subst (λ row. RowStep c.args.node c.args.row.now beside contents (input.Call session (command.Get c.args.id.now)) (only (reply.Refused TooMany)) row beside) (sym c.plan_room-plan.ensures.same)
    (too_many_told c.args.node c.args.row.now beside contents session c.args.id.now mine alive h k found st.0 st.1 sound
    (few_works c.args.works.now c.args.job c.args.row.now.job own (subst (λ m. m < most_works) c.in_flight.ensures c.if-in_flight-ge-MOST_WORKS.false))
    place.0 (subst (λ n. MakesPlace (make_room c.args.row.now.order (shape_of c.args.row.now beside) n) (shape_of c.args.row.now beside) n place.0) c.length-len.ensures place.1)
    (no_number c.args.works.now c.args.job c.args.row.now.job own (sym c.asked-asked.ensures.last ∙ c.if-asked.true))))) c.refuse-then-asked.ensures.ok

pub returns-clause-ok : goal.returns-clause-ok
returns-clause-ok c = each_ok c.restore_by.result (λ o response session grants bytes contents own mine alive h.
    subst (λ (r : Row). c.args.job ≡ record { 0 = r.job } → (c.args.id.now.job.0 == r.job) ≡ true → is_remembered r.ended_tasks c.args.id.now.task ≡ false → IsShown r (beside_of c.args.works.now grants bytes r.job) contents
    → c.plan_room-plan.result ≡ planned_by r.order (shape_of r (beside_of c.args.works.now grants bytes r.job)) c.length-len.result
    → RowStep c.args.node r (beside_of c.args.works.now grants bytes r.job) contents (input.Call session (command.Get c.args.id.now)) (row_given_of o) c.restore_by.new.row (beside_of c.restore_by.new.works grants bytes r.job)) c.plan_room-plan.ensures.same
    (response session grants bytes contents) own mine alive h (c.plan_room-plan.ensures.plan grants bytes contents own h)) c.restore_by.ensures.ok

pub returns-clause-bounded : goal.returns-clause-bounded
returns-clause-bounded c = subst (λ (r : Row). IfOk c.restore_by.result (λ o. length o.messages ≤ length r.copies + 1)) c.plan_room-plan.ensures.same c.restore_by.ensures.bounded

pub returns-clause-err : goal.returns-clause-err
returns-clause-err c = each_err c.restore_by.result (λ same. same ∙ c.plan_room-plan.ensures.same) c.restore_by.ensures.err

pub returns-clause-memory_last : goal.returns-clause-memory_last
returns-clause-memory_last c =
    let k = c.in-Some.copy.now in
    let found = ap (λ t. at t c.args.id.now) (sym c.copies.ensures.copies) ∙ sym c.get.ensures ∙ ap option_copied c.in-Some.is in
    let st = seen_at c.args.row.now.copies c.args.id.now Away k found c.requires.visible in
    let sound = sym (ap (option_and_then (λ (k : CopyView). k.copy.fault)) found) ∙ c.requires.sound in
    each_err c.restore_by.result (λ may own mine alive.
    let same : c.args.job ≡ c.args.id.now.job = own ∙ sym (own_job c.args.id.now.job c.args.row.now.job mine) in
    restore_due c.args.node c.args.row.now c.args.works.now c.args.id.now alive k found st.0 st.1 sound
    (subst (λ j. in_flight c.args.works.now j < most_works) same (subst (λ m. m < most_works) c.in_flight.ensures c.if-in_flight-ge-MOST_WORKS.false)) c.length-len.result c.length-len.ensures
    c.plan_room-plan.result (λ grants bytes contents h. c.plan_room-plan.ensures.plan grants bytes contents own h) (λ makes.
    ap (λ j. has_numbers (used_by c.args.works.now j) 1) (sym same) ∙ ap (λ n. has_numbers n 1) (sym c.asked-asked.ensures.last)
    ∙ numbers_left c.makes_place.result c.asked-asked.result c.else-makes_place.either c.asked-asked.type_inv (c.makes_place.ensures ∙ makes)) may mine) c.restore_by.ensures.memory_last

pub restore_by-requires-clause-fits : goal.restore_by-requires-clause-fits
restore_by-requires-clause-fits c offset fits = ap (λ (r : Row). place_for r.window c.length-len.result) c.plan_room-plan.ensures.same ∙ c.plan_room-plan.ensures.fits offset fits
