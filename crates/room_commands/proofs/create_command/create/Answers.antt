use Rattle.std.proofs.Common.{◌≡◌, ◌==◌, true, sym, ap, subst, ◌∙◌}
use Rattle.job_row.specs.Evicting.{IsPlacement, MayGo}
use Rattle.obj_id.specs.declared.commands.Command.TheVariants as command
use Rattle.private_store.specs.declared.inputs.Input.TheVariants as input
use Rattle.private_store.specs.rules.Room.{make_room}
use Rattle.private_store.specs.rules.Commands.{created}
use Rattle.job_row.specs.Row.{Row}
use Rattle.room_commands.specs.RoomPlans.{MakesPlace}
use Rattle.room_commands.specs.MadeRooms.{IsRoomMade, WaitsForPlace, tells_refusal}
use Rattle.row_steps.specs.Shown.{IsShown, RowStep}
use Rattle.row_steps.specs.Outcomes.{row_given_of}
use Rattle.room_commands.proofs.Creating.{x, quiet, by_room, create_refused}
use Rattle.room_commands.proofs.Pulling.{own_job}
use Rattle.room_commands.proofs.Getting.{each_ok, always_err}
use Rattle.room_commands.proofs.MemoryLast.{create_due}
use Rattle.room_commands.proofs.create_command.create.Goals as goal
use Rattle.row_steps.specs.Beside.{beside_of, shape_of}

pub returns-in-Some-clause-ok : goal.returns-in-Some-clause-ok
returns-in-Some-clause-ok c = each_ok c.refuse.result (λ o said session grants bytes contents mine h.
    subst (λ t. RowStep c.args.node c.args.row.now (beside_of c.args.works.now grants bytes c.args.row.now.job) contents (input.Call session (command.Create c.args.id.now c.args.kind c.args.len)) t c.args.row.now (beside_of c.args.works.now grants bytes c.args.row.now.job)) (sym said)
    (create_refused c.args.node c.args.row.now (beside_of c.args.works.now grants bytes c.args.row.now.job) contents session c.args.id.now c.args.kind c.args.len mine h c.in-Some.refusal (sym c.create_check.ensures ∙ c.in-Some.is))) c.refuse.ensures.ok

pub returns-in-Place-clause-ok : goal.returns-in-Place-clause-ok
returns-in-Place-clause-ok c = each_ok c.create_in_place.result (λ o response session grants bytes contents mine h.
    let own = c.job.ensures.value ∙ own_job c.args.id.now.job c.args.row.now.job mine in
    let kept = subst (λ m. WaitsForPlace m c.args.row.now c.args.works.now c.args.len c.room_for.new.row c.room_for.new.works) c.in-Place.is c.in_ok-placement.ensures.place in
    let makes = subst (λ m. IsRoomMade m c.args.row.now (beside_of c.args.works.now grants bytes c.args.row.now.job) contents c.args.len c.room_for.new.row (beside_of c.room_for.new.works grants bytes c.args.row.now.job)) c.in-Place.is (c.in_ok-placement.ensures.ok grants bytes contents own h) in
    subst (λ w. RowStep c.args.node c.args.row.now (beside_of c.args.works.now grants bytes c.args.row.now.job) contents (input.Call session (command.Create c.args.id.now c.args.kind c.args.len)) (row_given_of o) c.create_in_place.new.row (beside_of w grants bytes c.args.row.now.job)) (sym kept.1)
    (subst (λ r. (c.args.id.now.job.0 == r.job) ≡ true → IsShown r (beside_of c.args.works.now grants bytes c.args.row.now.job) contents → MakesPlace (make_room r.order (shape_of r (beside_of c.args.works.now grants bytes c.args.row.now.job)) c.args.len) (shape_of r (beside_of c.args.works.now grants bytes c.args.row.now.job)) c.args.len c.in-Place.placement.victims
    → RowStep c.args.node r (beside_of c.args.works.now grants bytes c.args.row.now.job) contents (input.Call session (command.Create c.args.id.now c.args.kind c.args.len)) (row_given_of o) c.create_in_place.new.row (beside_of c.args.works.now grants bytes c.args.row.now.job)) kept.0 (response session (beside_of c.args.works.now grants bytes c.args.row.now.job) contents) mine h
    makes)) c.create_in_place.ensures.ok

pub returns-in-Refused-clause-ok : goal.returns-in-Refused-clause-ok
returns-in-Refused-clause-ok c = each_ok c.refuse-in-Refused.result (λ o said session grants bytes contents mine h.
    let passed = sym c.create_check.ensures ∙ c.in_default.is in
    let own = c.job.ensures.value ∙ own_job c.args.id.now.job c.args.row.now.job mine in
    let made = subst (λ m. IsRoomMade m c.args.row.now (beside_of c.args.works.now grants bytes c.args.row.now.job) contents c.args.len c.room_for.new.row (beside_of c.room_for.new.works grants bytes c.args.row.now.job)) c.in-Refused.is (c.in_ok-placement.ensures.ok grants bytes contents own h) in
    subst (λ t. RowStep c.args.node c.args.row.now (beside_of c.args.works.now grants bytes c.args.row.now.job) contents (input.Call session (command.Create c.args.id.now c.args.kind c.args.len)) t c.room_for.new.row (beside_of c.room_for.new.works grants bytes c.args.row.now.job)) (sym said)
    (made.tells c.args.node (x c.args.node c.args.row.now (beside_of c.args.works.now grants bytes c.args.row.now.job) contents session c.args.id.now c.args.kind c.args.len mine h)
    (created c.args.id.now c.args.kind c.args.len) (quiet c.args.node c.args.row.now (beside_of c.args.works.now grants bytes c.args.row.now.job) contents session c.args.id.now c.args.kind c.args.len mine h)
    (λ none. by_room c.args.node c.args.row.now (beside_of c.args.works.now grants bytes c.args.row.now.job) contents session c.args.id.now c.args.kind c.args.len mine h passed))) c.refuse-in-Refused.ensures.ok

pub create_in_place-requires-clause-may_go : goal.create_in_place-requires-clause-may_go
create_in_place-requires-clause-may_go c =
    let kept = subst (λ m. WaitsForPlace m c.args.row.now c.args.works.now c.args.len c.room_for.new.row c.room_for.new.works) c.in-Place.is c.in_ok-placement.ensures.place in
    subst (λ (r : Row). MayGo r.copies c.in-Place.placement.victims) (sym kept.0) kept.2

pub returns-in_err-placement-clause-memory_last : goal.returns-in_err-placement-clause-memory_last
returns-in_err-placement-clause-memory_last c =
    always_err c.from_residual.result (λ mine. create_due c.args.node c.args.row.now c.args.works.now c.args.id.now c.args.kind c.args.len (sym c.create_check.ensures ∙ c.in_default.is)
    (c.in_err-placement.ensures.memory_last (c.job.ensures.value ∙ own_job c.args.id.now.job c.args.row.now.job mine)) mine)

pub returns-in-Place-clause-memory_last : goal.returns-in-Place-clause-memory_last
returns-in-Place-clause-memory_last c =
    always_err c.create_in_place.result (λ mine. create_due c.args.node c.args.row.now c.args.works.now c.args.id.now c.args.kind c.args.len (sym c.create_check.ensures ∙ c.in_default.is)
    (c.in_ok-placement.ensures.made (ap tells_refusal c.in-Place.is) (c.job.ensures.value ∙ own_job c.args.id.now.job c.args.row.now.job mine)) mine)

pub create_in_place-requires-clause-place : goal.create_in_place-requires-clause-place
create_in_place-requires-clause-place c =
    let kept = subst (λ m. WaitsForPlace m c.args.row.now c.args.works.now c.args.len c.room_for.new.row c.room_for.new.works) c.in-Place.is c.in_ok-placement.ensures.place in
    subst (λ (r : Row). IsPlacement r c.args.len c.in-Place.placement) (sym kept.0) kept.3
