use Rattle.std.proofs.Common.{◌≤◌, List, length, refl, sym, subst, ◌∙◌, arith}
use Rattle.obj_id.specs.declared.ids.ObjectId.{ObjectId}
use Rattle.private_store.specs.rules.Room.{make_room}
use Rattle.job_row.specs.Evicting.{MayGo}
use Rattle.room_commands.specs.RoomPlans.{MakesPlace, AsksWrites}
use Rattle.room_commands.specs.declared.room.RoomPlan.TheVariants.{Fits, Evict, Ask, TellFailedSpill, Refuse}
use Rattle.room_commands.proofs.Asking.{may_ask_fewer}
use Rattle.room_commands.proofs.Getting.{each_ok}
use Rattle.room_commands.proofs.Planning.{planned_as}
use Rattle.room_commands.proofs.Placements.{no_victims}
use Rattle.room_commands.proofs.Rooms.{refusal_told, failure_told}
use Rattle.room_commands.proofs.room.room_by.Goals as goal
use Rattle.row_steps.specs.Beside.{beside_of, shape_of}

pub returns-in-Fits-clause-ok : goal.returns-in-Fits-clause-ok
returns-in-Fits-clause-ok c grants bytes contents own h is =
    let beside = beside_of c.args.works.now grants bytes c.args.row.now.job in
    subst (MakesPlace (make_room c.args.row.now.order (shape_of c.args.row.now beside) c.args.len) (shape_of c.args.row.now beside) c.args.len) (sym c.new.ensures)
    (planned_as c.args.row.now beside contents h c.args.len c.args.plan (Fits c.in-Fits.offset) is c.in-Fits.is)

pub returns-in-Fits-clause-place : goal.returns-in-Fits-clause-place
returns-in-Fits-clause-place c =
    let none = c.new.ensures in
    let gone = c.new-in-Fits.ensures.items in (
      refl,
      refl,
      subst (MayGo c.args.row.now.copies) (sym none) (record { sealed = refl; few = omega arith }),
      no_victims c.args.row.now c.args.len (record { victims = c.new.result; gone = c.new-in-Fits.result; offset = c.in-Fits.offset }) none gone (c.requires.fits c.in-Fits.offset c.in-Fits.is),
    )

pub returns-in_ok-victims-in-Evict-clause-ok : goal.returns-in_ok-victims-in-Evict-clause-ok
returns-in_ok-victims-in-Evict-clause-ok c = each_ok c.place_of_victims.result (λ made is_made grants bytes contents own h is.
    let beside = beside_of c.args.works.now grants bytes c.args.row.now.job in
    is_made beside contents h
    (subst (MakesPlace (make_room c.args.row.now.order (shape_of c.args.row.now beside) c.args.len) (shape_of c.args.row.now beside) c.args.len)
    (sym (c.in_ok-victims-in-Evict.ensures.victims c.args.works.now grants bytes contents h (sym is ∙ c.in-Evict.is)))
    (planned_as c.args.row.now beside contents h c.args.len c.args.plan Evict is c.in-Evict.is))) c.place_of_victims.ensures.ok

pub returns-in_ok-victims-in-Evict-clause-place : goal.returns-in_ok-victims-in-Evict-clause-place
returns-in_ok-victims-in-Evict-clause-place c = each_ok c.place_of_victims.result (λ made waits. waits c.args.works.now) c.place_of_victims.ensures.place

pub returns-in_ok-ids-in-Ask-clause-ok : goal.returns-in_ok-ids-in-Ask-clause-ok
returns-in_ok-ids-in-Ask-clause-ok c = each_ok c.ask_writes.result (λ made asked grants bytes contents own h is.
    let beside = beside_of c.args.works.now grants bytes c.args.row.now.job in
    asked grants bytes contents c.args.len own h
    (subst (AsksWrites (make_room c.args.row.now.order (shape_of c.args.row.now beside) c.args.len) (shape_of c.args.row.now beside))
    (sym (c.as_slice.ensures ∙ c.in_ok-ids-in-Ask.ensures.spillable c.args.works.now grants bytes contents c.args.len h (sym is ∙ c.in-Ask.is)))
    (planned_as c.args.row.now beside contents h c.args.len c.args.plan (Ask c.in-Ask.count) is c.in-Ask.is))) c.ask_writes.ensures.ok

pub returns-in-TellFailedSpill-clause-ok : goal.returns-in-TellFailedSpill-clause-ok
returns-in-TellFailedSpill-clause-ok c grants bytes contents own h is =
    let beside = beside_of c.args.works.now grants bytes c.args.row.now.job in
    failure_told c.args.row.now beside contents h c.args.len
    (planned_as c.args.row.now beside contents h c.args.len c.args.plan TellFailedSpill is c.in-TellFailedSpill.is) c.forget_failed_spill.new.self c.forget_failed_spill.ensures

pub returns-in-Refuse-clause-ok : goal.returns-in-Refuse-clause-ok
returns-in-Refuse-clause-ok c grants bytes contents own h is =
    let beside = beside_of c.args.works.now grants bytes c.args.row.now.job in
    refusal_told c.args.row.now beside contents h c.args.len c.in-Refuse.refusal
    (planned_as c.args.row.now beside contents h c.args.len c.args.plan (Refuse c.in-Refuse.refusal) is c.in-Refuse.is)

pub ask_writes-requires : goal.ask_writes-requires
ask_writes-requires c =
    may_ask_fewer c.args.works.now c.args.job c.in-Ask.count (length c.as_slice.result.now) (subst (λ (ids : List ObjectId). length ids ≤ c.in-Ask.count) (sym c.as_slice.ensures) c.in_ok-ids-in-Ask.ensures.bounded)
    (c.requires.asks c.in-Ask.count c.in-Ask.is)
