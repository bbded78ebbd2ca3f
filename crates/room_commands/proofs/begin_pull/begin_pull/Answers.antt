use Rattle.std.proofs.Common.{◌≡◌, ◌==◌, true, false, sym, ap, subst, ◌∙◌}
use Rattle.std.specs.Option.{option_copied, option_map_or}
use Rattle.obj_id.specs.declared.commands.Command.TheVariants as command
use Rattle.obj_id.specs.declared.commands.CopyState.TheVariants.{Fetching}
use Rattle.private_store.specs.declared.inputs.Input.TheVariants as input
use Rattle.private_store.specs.laws.Invariants.{is_remembered}
use Rattle.private_store.specs.rules.Room.{make_room}
use Rattle.private_store.specs.rules.Shape.{sized}
use Rattle.private_store.specs.rules.Tables.{at}
use Rattle.job_row.specs.Checks.{can_pull_at, visible_state}
use Rattle.job_row.specs.Evicting.{IsPlacement, MayGo}
use Rattle.row_copy.specs.CopyViews.{waits_for_place}
use Rattle.room_commands.specs.MadeRooms.{IsRoomMade, IsPlannedFor, TellsRoom, WaitsForPlace, tells_refusal}
use Rattle.row_steps.specs.Outcomes.{row_given_of}
use Rattle.room_commands.specs.RoomPlans.{MakesPlace}
use Rattle.job_row.specs.Row.{Row}
use Rattle.row_steps.specs.Shown.{IsShown, RowStep}
use Rattle.room_commands.proofs.Fetching.{phase_is}
use Rattle.room_commands.proofs.Getting.{each_ok, always_err, seen_at}
use Rattle.room_commands.proofs.MemoryLast.{pull_due}
use Rattle.room_commands.proofs.Pulling.{own_job, sized_at, unasked_at, waits, quiet_get, f, by_room}
use Rattle.room_commands.proofs.begin_pull.begin_pull.Goals as goal
use Rattle.row_steps.specs.Beside.{beside_of, shape_of}

pub pull_in_place-requires-clause-alive : goal.pull_in_place-requires-clause-alive
pull_in_place-requires-clause-alive c =
    let kept = subst (λ m. WaitsForPlace m c.args.row.now c.args.works.now c.length-len.result c.room_for.new.row c.room_for.new.works) c.in-Place.is c.in_ok-placement.ensures.place in
    ap (λ (r : Row). is_remembered r.ended_tasks c.args.id.now.task) kept.0 ∙ c.requires.alive

pub pull_in_place-requires-clause-visible : goal.pull_in_place-requires-clause-visible
pull_in_place-requires-clause-visible c =
    let kept = subst (λ m. WaitsForPlace m c.args.row.now c.args.works.now c.length-len.result c.room_for.new.row c.room_for.new.works) c.in-Place.is c.in_ok-placement.ensures.place in
    ap (λ (r : Row). visible_state (at r.copies c.args.id.now)) kept.0 ∙ c.requires.visible

pub pull_in_place-requires-clause-sized : goal.pull_in_place-requires-clause-sized
pull_in_place-requires-clause-sized c =
    let kept = subst (λ m. WaitsForPlace m c.args.row.now c.args.works.now c.length-len.result c.room_for.new.row c.room_for.new.works) c.in-Place.is c.in_ok-placement.ensures.place in
    ap (λ (r : Row). can_pull_at r c.args.id.now) kept.0 ∙ c.requires.sized

pub pull_in_place-requires-clause-waits : goal.pull_in_place-requires-clause-waits
pull_in_place-requires-clause-waits c =
    let k = c.in-Some.copy.now in
    let found = ap (λ t. at t c.args.id.now) (sym c.copies.ensures.copies) ∙ sym c.get.ensures ∙ ap option_copied c.in-Some.is in
    let kept = subst (λ m. WaitsForPlace m c.args.row.now c.args.works.now c.length-len.result c.room_for.new.row c.room_for.new.works) c.in-Place.is c.in_ok-placement.ensures.place in
    let z = sized_at c.args.row.now c.args.id.now k found c.requires.sized in
    let none = sym c.offset-place.ensures.offset ∙ c.offset-place.ensures.unasked (unasked_at c.args.row.now.window.quota k.copy z) in
    ap (λ (r : Row). option_map_or (waits_for_place c.length-len.result) (at r.copies c.args.id.now) false) kept.0 ∙ waits c.args.row.now.copies c.args.id.now k found none c.length-len.result c.length-len.ensures

pub returns-in-Place-clause-ok : goal.returns-in-Place-clause-ok
returns-in-Place-clause-ok c =
    each_ok c.pull_in_place.result (λ o response session grants bytes contents mine h.
    let own = c.job.ensures.value ∙ own_job c.args.id.now.job c.args.row.now.job mine in
    let kept = subst (λ m. WaitsForPlace m c.args.row.now c.args.works.now c.length-len.result c.room_for.new.row c.room_for.new.works) c.in-Place.is c.in_ok-placement.ensures.place in
    let makes = subst (λ m. IsRoomMade m c.args.row.now (beside_of c.args.works.now grants bytes c.args.row.now.job) contents c.length-len.result c.room_for.new.row (beside_of c.room_for.new.works grants bytes c.args.row.now.job)) c.in-Place.is (c.in_ok-placement.ensures.ok grants bytes contents own h) in
    subst (λ w. RowStep c.args.node c.args.row.now (beside_of c.args.works.now grants bytes c.args.row.now.job) contents (input.Call session (command.Get c.args.id.now)) (row_given_of o) c.pull_in_place.new.row (beside_of w grants bytes c.args.row.now.job)) (sym kept.1)
    (subst (λ r. (c.args.id.now.job.0 == r.job) ≡ true → IsShown r (beside_of c.args.works.now grants bytes c.args.row.now.job) contents → MakesPlace (make_room r.order (shape_of r (beside_of c.args.works.now grants bytes c.args.row.now.job)) c.length-len.result) (shape_of r (beside_of c.args.works.now grants bytes c.args.row.now.job)) c.length-len.result c.in-Place.placement.victims
    → RowStep c.args.node r (beside_of c.args.works.now grants bytes c.args.row.now.job) contents (input.Call session (command.Get c.args.id.now)) (row_given_of o) c.pull_in_place.new.row (beside_of c.args.works.now grants bytes c.args.row.now.job)) kept.0 (response session (beside_of c.args.works.now grants bytes c.args.row.now.job) contents) mine h
    makes)) c.pull_in_place.ensures.ok

pub returns-in-Refused-clause-ok : goal.returns-in-Refused-clause-ok
returns-in-Refused-clause-ok c =
    let k = c.in-Some.copy.now in
    let found = ap (λ t. at t c.args.id.now) (sym c.copies.ensures.copies) ∙ sym c.get.ensures ∙ ap option_copied c.in-Some.is in
    let st = seen_at c.args.row.now.copies c.args.id.now Fetching k found c.requires.visible in
    let z = sized_at c.args.row.now c.args.id.now k found c.requires.sized in
    each_ok c.refuse.result (λ o said session grants bytes contents mine h.
    let own = c.job.ensures.value ∙ own_job c.args.id.now.job c.args.row.now.job mine in
    let made = subst (λ m. IsRoomMade m c.args.row.now (beside_of c.args.works.now grants bytes c.args.row.now.job) contents c.length-len.result c.room_for.new.row (beside_of c.room_for.new.works grants bytes c.args.row.now.job)) c.in-Refused.is (c.in_ok-placement.ensures.ok grants bytes contents own h) in
    let tells = subst (λ n. TellsRoom c.args.row.now (beside_of c.args.works.now grants bytes c.args.row.now.job) contents n c.in-Refused.refusal c.room_for.new.row (beside_of c.room_for.new.works grants bytes c.args.row.now.job)) c.length-len.ensures made in
    subst (λ t. RowStep c.args.node c.args.row.now (beside_of c.args.works.now grants bytes c.args.row.now.job) contents (input.Call session (command.Get c.args.id.now)) t c.room_for.new.row (beside_of c.room_for.new.works grants bytes c.args.row.now.job)) (sym said)
    (tells.tells c.args.node (input.Call session (command.Get c.args.id.now)) (f c.args.node c.args.row.now (beside_of c.args.works.now grants bytes c.args.row.now.job) contents h (input.Call session (command.Get c.args.id.now)) (quiet_get c.args.node c.args.row.now (beside_of c.args.works.now grants bytes c.args.row.now.job) contents session c.args.id.now) c.args.id.now k found st.1 z.fetch z.source z.fetched z.is z.fine (phase_is c.args.node c.args.row.now (beside_of c.args.works.now grants bytes c.args.row.now.job) contents session c.args.id.now mine c.requires.alive h k found st.0 st.1 z.fetch z.fetched (sized z.source) z.is)) (quiet_get c.args.node c.args.row.now (beside_of c.args.works.now grants bytes c.args.row.now.job) contents session c.args.id.now) (λ none. by_room c.args.node c.args.row.now (beside_of c.args.works.now grants bytes c.args.row.now.job) contents h (input.Call session (command.Get c.args.id.now)) (quiet_get c.args.node c.args.row.now (beside_of c.args.works.now grants bytes c.args.row.now.job) contents session c.args.id.now) c.args.id.now k found st.1 z.fetch z.source z.fetched z.is z.fine (phase_is c.args.node c.args.row.now (beside_of c.args.works.now grants bytes c.args.row.now.job) contents session c.args.id.now mine c.requires.alive h k found st.0 st.1 z.fetch z.fetched (sized z.source) z.is)))) c.refuse.ensures.ok

pub pull_in_place-requires-clause-may_go : goal.pull_in_place-requires-clause-may_go
pull_in_place-requires-clause-may_go c =
    let kept = subst (λ m. WaitsForPlace m c.args.row.now c.args.works.now c.length-len.result c.room_for.new.row c.room_for.new.works) c.in-Place.is c.in_ok-placement.ensures.place in
    subst (λ (r : Row). MayGo r.copies c.in-Place.placement.victims) (sym kept.0) kept.2

pub returns-in_err-placement-clause-memory_last : goal.returns-in_err-placement-clause-memory_last
returns-in_err-placement-clause-memory_last c =
    let k = c.in-Some.copy.now in
    let found = ap (λ t. at t c.args.id.now) (sym c.copies.ensures.copies) ∙ sym c.get.ensures ∙ ap option_copied c.in-Some.is in
    let st = seen_at c.args.row.now.copies c.args.id.now Fetching k found c.requires.visible in
    let z = sized_at c.args.row.now c.args.id.now k found c.requires.sized in
    always_err c.from_residual.result (λ mine. pull_due c.args.node c.args.row.now c.args.works.now c.args.id.now c.requires.alive k found st.0 st.1 z
    (subst (IsPlannedFor c.args.row.now c.args.works.now) c.length-len.ensures (c.in_err-placement.ensures.memory_last (c.job.ensures.value ∙ own_job c.args.id.now.job c.args.row.now.job mine))) mine)

pub returns-in-Place-clause-memory_last : goal.returns-in-Place-clause-memory_last
returns-in-Place-clause-memory_last c =
    let k = c.in-Some.copy.now in
    let found = ap (λ t. at t c.args.id.now) (sym c.copies.ensures.copies) ∙ sym c.get.ensures ∙ ap option_copied c.in-Some.is in
    let st = seen_at c.args.row.now.copies c.args.id.now Fetching k found c.requires.visible in
    let z = sized_at c.args.row.now c.args.id.now k found c.requires.sized in
    always_err c.pull_in_place.result (λ mine. pull_due c.args.node c.args.row.now c.args.works.now c.args.id.now c.requires.alive k found st.0 st.1 z
    (subst (IsPlannedFor c.args.row.now c.args.works.now) c.length-len.ensures (c.in_ok-placement.ensures.made (ap tells_refusal c.in-Place.is) (c.job.ensures.value ∙ own_job c.args.id.now.job c.args.row.now.job mine))) mine)

pub pull_in_place-requires-clause-place : goal.pull_in_place-requires-clause-place
pull_in_place-requires-clause-place c =
    let kept = subst (λ m. WaitsForPlace m c.args.row.now c.args.works.now c.length-len.result c.room_for.new.row c.room_for.new.works) c.in-Place.is c.in_ok-placement.ensures.place in
    subst (λ (r : Row). IsPlacement r c.length-len.result c.in-Place.placement) (sym kept.0) kept.3
