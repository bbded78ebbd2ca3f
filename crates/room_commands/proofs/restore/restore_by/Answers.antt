use Rattle.std.proofs.Common.{◌≡◌, ◌==◌, None, ◌<◌, true, false, sym, ap, subst, ◌∙◌}
use Rattle.std.specs.Map.{lookup}
use Rattle.std.specs.Option.{option_map_or, option_and_then}
use Rattle.obj_id.specs.declared.commands.Command.TheVariants as command
use Rattle.obj_id.specs.declared.commands.CopyState.TheVariants.{Away}
use Rattle.private_store.specs.declared.inputs.Input.TheVariants as input
use Rattle.private_store.specs.laws.Invariants.{is_remembered}
use Rattle.private_store.specs.rules.Limits.{most_works, has_numbers}
use Rattle.private_store.specs.rules.Room.{make_room}
use Rattle.private_store.specs.rules.Tables.{at}
use Rattle.store_facts.proofs.Tests.{some_value}
use Rattle.spill_work.specs.Line.{in_flight, same_work_job, used_by}
use Rattle.job_row.specs.Checks.{visible_state, fault_at}
use Rattle.job_row.specs.Evicting.{IsPlacement, MayGo}
use Rattle.row_copy.specs.CopyViews.{CopyView, waits_for_place}
use Rattle.room_commands.specs.MadeRooms.{IsRoomMade, TellsRoom, WaitsForPlace, tells_refusal}
use Rattle.row_steps.specs.Outcomes.{row_given_of}
use Rattle.room_commands.specs.RoomPlans.{MakesPlace}
use Rattle.job_row.specs.Row.{Row}
use Rattle.row_steps.specs.Shown.{IsShown, RowStep}
use Rattle.room_commands.proofs.Getting.{each_ok, always_err, some_at}
use Rattle.room_commands.proofs.Growing.{placed_unrefused}
use Rattle.room_commands.proofs.Pulling.{quiet_get}
use Rattle.room_commands.proofs.Restoring.{f, by_no_room, few_works}
use Rattle.room_commands.proofs.restore.restore_by.Goals as goal
use Rattle.job_row.proofs.ForCallers.{waiting}
use Rattle.row_steps.specs.Beside.{beside_of, shape_of}

pub restore_in_place-requires-clause-visible : goal.restore_in_place-requires-clause-visible
restore_in_place-requires-clause-visible c =
    let kept = subst (λ m. WaitsForPlace m c.args.row.now c.args.works.now c.args.len c.room_by.new.row c.room_by.new.works) c.in-Place.is c.in_ok-placement.ensures.place in
    ap (λ (r : Row). visible_state (at r.copies c.args.id.now)) kept.0 ∙ c.requires.visible

pub restore_in_place-requires-clause-sound : goal.restore_in_place-requires-clause-sound
restore_in_place-requires-clause-sound c =
    let kept = subst (λ m. WaitsForPlace m c.args.row.now c.args.works.now c.args.len c.room_by.new.row c.room_by.new.works) c.in-Place.is c.in_ok-placement.ensures.place in
    ap (λ (r : Row). fault_at r.copies c.args.id.now) kept.0 ∙ c.requires.sound

pub restore_in_place-requires-clause-idle : goal.restore_in_place-requires-clause-idle
restore_in_place-requires-clause-idle c =
    let kept = subst (λ m. WaitsForPlace m c.args.row.now c.args.works.now c.args.len c.room_by.new.row c.room_by.new.works) c.in-Place.is c.in_ok-placement.ensures.place in
    subst (λ w. in_flight w c.args.job < most_works) (sym kept.1) c.requires.idle

pub restore_in_place-requires-clause-numbered : goal.restore_in_place-requires-clause-numbered
restore_in_place-requires-clause-numbered c =
    let kept = subst (λ m. WaitsForPlace m c.args.row.now c.args.works.now c.args.len c.room_by.new.row c.room_by.new.works) c.in-Place.is c.in_ok-placement.ensures.place in
    ap (λ w. has_numbers (used_by w c.args.job) 1) kept.1 ∙ c.requires.numbered (c.in_ok-placement.ensures.made (ap tells_refusal c.in-Place.is))

pub restore_in_place-requires-clause-fresh : goal.restore_in_place-requires-clause-fresh
restore_in_place-requires-clause-fresh c =
    let kept = subst (λ m. WaitsForPlace m c.args.row.now c.args.works.now c.args.len c.room_by.new.row c.room_by.new.works) c.in-Place.is c.in_ok-placement.ensures.place in
    subst (λ w. used_by w c.args.job ≡ 0 → lookup (same_work_job c.args.job) w.used ≡ None) (sym kept.1) c.requires.fresh

pub restore_in_place-requires-clause-waits : goal.restore_in_place-requires-clause-waits
restore_in_place-requires-clause-waits c =
    let kept = subst (λ m. WaitsForPlace m c.args.row.now c.args.works.now c.args.len c.room_by.new.row c.room_by.new.works) c.in-Place.is c.in_ok-placement.ensures.place in
    ap (λ (r : Row). option_map_or (waits_for_place c.args.len) (at r.copies c.args.id.now) false) kept.0 ∙ c.requires.waits

pub restore_in_place-requires-clause-may_go : goal.restore_in_place-requires-clause-may_go
restore_in_place-requires-clause-may_go c =
    let kept = subst (λ m. WaitsForPlace m c.args.row.now c.args.works.now c.args.len c.room_by.new.row c.room_by.new.works) c.in-Place.is c.in_ok-placement.ensures.place in
    subst (λ (r : Row). MayGo r.copies c.in-Place.placement.victims) (sym kept.0) kept.2

pub returns-in-Place-clause-ok : goal.returns-in-Place-clause-ok
returns-in-Place-clause-ok c = each_ok c.restore_in_place.result (λ o response session grants bytes contents own mine alive h is_plan.
    let kept = subst (λ m. WaitsForPlace m c.args.row.now c.args.works.now c.args.len c.room_by.new.row c.room_by.new.works) c.in-Place.is c.in_ok-placement.ensures.place in
    let makes = subst (λ m. IsRoomMade m c.args.row.now (beside_of c.args.works.now grants bytes c.args.row.now.job) contents c.args.len c.room_by.new.row (beside_of c.room_by.new.works grants bytes c.args.row.now.job)) c.in-Place.is (c.in_ok-placement.ensures.ok grants bytes contents own h is_plan) in
    subst (λ w. c.args.job ≡ record { 0 = c.args.row.now.job } → (c.args.id.now.job.0 == c.args.row.now.job) ≡ true → is_remembered c.args.row.now.ended_tasks c.args.id.now.task ≡ false → IsShown c.args.row.now (beside_of w grants bytes c.args.row.now.job) contents
    → MakesPlace (make_room c.args.row.now.order (shape_of c.args.row.now (beside_of w grants bytes c.args.row.now.job)) c.args.len) (shape_of c.args.row.now (beside_of w grants bytes c.args.row.now.job)) c.args.len c.in-Place.placement.victims
    → RowStep c.args.node c.args.row.now (beside_of w grants bytes c.args.row.now.job) contents (input.Call session (command.Get c.args.id.now)) (row_given_of o) c.restore_in_place.new.row (beside_of c.restore_in_place.new.works grants bytes c.args.row.now.job)) kept.1
    (subst (λ r. c.args.job ≡ record { 0 = r.job } → (c.args.id.now.job.0 == r.job) ≡ true → is_remembered r.ended_tasks c.args.id.now.task ≡ false → IsShown r (beside_of c.room_by.new.works grants bytes r.job) contents
    → MakesPlace (make_room r.order (shape_of r (beside_of c.room_by.new.works grants bytes r.job)) c.args.len) (shape_of r (beside_of c.room_by.new.works grants bytes r.job)) c.args.len c.in-Place.placement.victims
    → RowStep c.args.node r (beside_of c.room_by.new.works grants bytes r.job) contents (input.Call session (command.Get c.args.id.now)) (row_given_of o) c.restore_in_place.new.row (beside_of c.restore_in_place.new.works grants bytes r.job)) kept.0 (response session grants bytes contents)) own mine alive h
    makes) c.restore_in_place.ensures.ok

pub returns-in-Refused-clause-ok : goal.returns-in-Refused-clause-ok
returns-in-Refused-clause-ok c =
    let v = some_at c.args.row.now.copies c.args.id.now Away c.requires.visible in
    let w = waiting c.args.row.now.copies c.args.id.now c.args.len c.requires.waits in
    let long : c.args.len ≡ v.k.copy.length = sym w.long ∙ ap (λ (y : CopyView). y.copy.length) (some_value w.k v.k (sym w.found ∙ v.found)) in
    let sound = sym (ap (option_and_then (λ (k : CopyView). k.copy.fault)) v.found) ∙ c.requires.sound in
    each_ok c.refuse.result (λ o said session grants bytes contents own mine alive h is_plan.
    let made = subst (λ m. IsRoomMade m c.args.row.now (beside_of c.args.works.now grants bytes c.args.row.now.job) contents c.args.len c.room_by.new.row (beside_of c.room_by.new.works grants bytes c.args.row.now.job)) c.in-Refused.is (c.in_ok-placement.ensures.ok grants bytes contents own h is_plan) in
    let tells = subst (λ n. TellsRoom c.args.row.now (beside_of c.args.works.now grants bytes c.args.row.now.job) contents n c.in-Refused.refusal c.room_by.new.row (beside_of c.room_by.new.works grants bytes c.args.row.now.job)) long made in
    subst (λ t. RowStep c.args.node c.args.row.now (beside_of c.args.works.now grants bytes c.args.row.now.job) contents (input.Call session (command.Get c.args.id.now)) t c.room_by.new.row (beside_of c.room_by.new.works grants bytes c.args.row.now.job)) (sym said)
    (tells.tells c.args.node (input.Call session (command.Get c.args.id.now)) (f c.args.node c.args.row.now (beside_of c.args.works.now grants bytes c.args.row.now.job) contents session c.args.id.now mine alive h v.k v.found v.stays v.is sound)
    (quiet_get c.args.node c.args.row.now (beside_of c.args.works.now grants bytes c.args.row.now.job) contents session c.args.id.now)
    (by_no_room c.args.node c.args.row.now (beside_of c.args.works.now grants bytes c.args.row.now.job) contents session c.args.id.now mine alive h v.k v.found v.stays v.is sound
    (few_works c.args.works.now c.args.job c.args.row.now.job own c.requires.idle)))) c.refuse.ensures.ok

pub returns-in_err-placement-clause-memory_last : goal.returns-in_err-placement-clause-memory_last
returns-in_err-placement-clause-memory_last c = always_err c.from_residual.result c.in_err-placement.ensures.memory_last

pub returns-in-Place-clause-memory_last : goal.returns-in-Place-clause-memory_last
returns-in-Place-clause-memory_last c = always_err c.restore_in_place.result (placed_unrefused c.args.plan (c.in_ok-placement.ensures.made (ap tells_refusal c.in-Place.is)))

pub room_by-requires-clause-asks : goal.room_by-requires-clause-asks
room_by-requires-clause-asks c = c.requires.asks

pub room_by-requires-clause-fits : goal.room_by-requires-clause-fits
room_by-requires-clause-fits c = c.requires.fits

pub restore_in_place-requires-clause-place : goal.restore_in_place-requires-clause-place
restore_in_place-requires-clause-place c =
    let kept = subst (λ m. WaitsForPlace m c.args.row.now c.args.works.now c.args.len c.room_by.new.row c.room_by.new.works) c.in-Place.is c.in_ok-placement.ensures.place in
    subst (λ (r : Row). IsPlacement r c.args.len c.in-Place.placement) (sym kept.0) kept.3
