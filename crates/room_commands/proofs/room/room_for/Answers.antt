use Rattle.std.proofs.Common.{◌≡◌, sym, ap, subst, ◌∙◌}
use Rattle.job_region.specs.Region.{place_for}
use Rattle.room_commands.specs.MadeRooms.{IsRoomMade, WaitsForPlace}
use Rattle.room_commands.specs.RoomPlans.{planned_by, refuses}
use Rattle.job_row.specs.Row.{Row}
use Rattle.row_steps.specs.Shown.{IsShown}
use Rattle.room_commands.proofs.Getting.{each_ok, each_err}
use Rattle.room_commands.proofs.Growing.{placed_unrefused}
use Rattle.room_commands.proofs.room.room_for.Goals as goal
use Rattle.row_steps.specs.Beside.{beside_of, shape_of}

pub returns-clause-ok : goal.returns-clause-ok
returns-clause-ok c = each_ok c.room_by.result (λ made response grants bytes contents own h.
    subst (λ (r : Row). c.args.job ≡ record { 0 = r.job } → IsShown r (beside_of c.args.works.now grants bytes r.job) contents
    → c.plan_room-plan.result ≡ planned_by r.order (shape_of r (beside_of c.args.works.now grants bytes r.job)) c.args.len
    → IsRoomMade made r (beside_of c.args.works.now grants bytes r.job) contents c.args.len c.room_by.new.row (beside_of c.room_by.new.works grants bytes r.job)) c.plan_room-plan.ensures.same
    (response grants bytes contents) own h (c.plan_room-plan.ensures.plan grants bytes contents own h)) c.room_by.ensures.ok

pub returns-clause-place : goal.returns-clause-place
returns-clause-place c = each_ok c.room_by.result (λ made waits.
    subst (λ (r : Row). WaitsForPlace made r c.args.works.now c.args.len c.room_by.new.row c.room_by.new.works) c.plan_room-plan.ensures.same waits) c.room_by.ensures.place

pub returns-clause-made : goal.returns-clause-made
returns-clause-made c = each_ok c.room_by.result (λ made makes untold own grants bytes contents h.
    ap refuses (sym (c.plan_room-plan.ensures.plan grants bytes contents own h)) ∙ placed_unrefused c.plan_room-plan.result (makes untold)) c.room_by.ensures.made

pub returns-clause-memory_last : goal.returns-clause-memory_last
returns-clause-memory_last c = each_err c.room_by.result (λ may own grants bytes contents h. ap refuses (sym (c.plan_room-plan.ensures.plan grants bytes contents own h)) ∙ may) c.room_by.ensures.memory_last

pub returns-clause-err : goal.returns-clause-err
returns-clause-err c = each_err c.room_by.result (λ same. same ∙ c.plan_room-plan.ensures.same) c.room_by.ensures.err

pub room_by-requires-clause-fits : goal.room_by-requires-clause-fits
room_by-requires-clause-fits c offset fits = ap (λ (r : Row). place_for r.window c.args.len) c.plan_room-plan.ensures.same ∙ c.plan_room-plan.ensures.fits offset fits
