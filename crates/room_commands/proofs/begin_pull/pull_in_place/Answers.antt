use Rattle.std.proofs.Common.{◌≡◌, None, length, List, [], ◌∷◌, ◌++◌, refl, sym, ap, subst, ◌∙◌, arith}
use Rattle.obj_id.specs.declared.commands.Command.TheVariants as command
use Rattle.obj_id.specs.declared.commands.CopyState.TheVariants.{Fetching}
use Rattle.obj_id.specs.declared.commands.Reply.TheVariants as reply
use Rattle.obj_id.specs.declared.refusals.Refusal.TheVariants.{Pending}
use Rattle.job_region.specs.Region.{extents_of}
use Rattle.private_store.specs.declared.inputs.Input.TheVariants as input
use Rattle.private_store.specs.rules.Extents.{first, is_size}
use Rattle.private_store.specs.laws.Invariants.{is_fetching}
use Rattle.private_store.specs.rules.Marks.{chunk_count, counted}
use Rattle.private_store.specs.rules.Private.{Post}
use Rattle.private_store.specs.rules.Room.{make_room}
use Rattle.private_store.specs.rules.Shape.{sized}
use Rattle.store_facts.proofs.Tests.{some_value}
use Rattle.job_row.specs.Evicting.{IsReplaced, placed_without, replaced, removals}
use Rattle.row_copy.specs.CopyViews.{CopyView, after_pull}
use Rattle.room_commands.specs.RoomPlans.{MakesPlace}
use Rattle.row_steps.specs.Shown.{RowGiven, RowStep}
use Rattle.job_row.proofs.ForCallers.{length-removals, waiting}
use Rattle.room_commands.proofs.Fetching.{phase_is}
use Rattle.room_commands.proofs.Getting.{some_at, seen_at}
use Rattle.room_commands.proofs.Pulling.{sized_at, some_bytes, unsealed_visible, quiet_get, pull_done, length_more}
use Rattle.room_commands.proofs.Rooms.{stays_of}
use Rattle.room_commands.proofs.begin_pull.pull_in_place.Goals as goal
use Rattle.row_steps.specs.Beside.{shape_of}

pub place_copy-requires-clause-stays : goal.place_copy-requires-clause-stays
place_copy-requires-clause-stays c = stays_of c.args.row.now.copies c.args.placement.now.victims c.args.id.now c.requires.may_go (unsealed_visible c.args.row.now.copies c.args.id.now Fetching refl c.requires.visible)

pub place_copy-requires-clause-waits : goal.place_copy-requires-clause-waits
place_copy-requires-clause-waits c = c.requires.waits

pub place_copy-requires-clause-awaits : goal.place_copy-requires-clause-awaits
place_copy-requires-clause-awaits c k found =
    let st = seen_at c.args.row.now.copies c.args.id.now Fetching k found c.requires.visible in
    let w = waiting c.args.row.now.copies c.args.id.now c.args.len c.requires.waits in
    (ap is_fetching st.1, c.in_ok-missing.ensures ∙ ap (λ n. counted 0 (chunk_count n)) (sym w.long ∙ ap (λ (y : CopyView). y.copy.length) (some_value w.k k (sym w.found ∙ found))))

pub returns-clause-ok : goal.returns-clause-ok
returns-clause-ok c session beside contents mine h makes =
    let v = some_at c.args.row.now.copies c.args.id.now Fetching c.requires.visible in
    let z = sized_at c.args.row.now c.args.id.now v.k v.found c.requires.sized in
    let w = waiting c.args.row.now.copies c.args.id.now c.args.len c.requires.waits in
    let long : c.args.len ≡ v.k.copy.length = sym w.long ∙ ap (λ (y : CopyView). y.copy.length) (some_value w.k v.k (sym w.found ∙ v.found)) in
    let e = c.in_ok-place_copy.field-0 in
    let r : IsReplaced c.args.row.now None c.args.id.now (λ offset. after_pull offset v.k) c.args.len c.args.placement.now.victims e c.place_copy.new.self =
    c.in_ok-place_copy.ensures.ok v.k v.found in
    let posts_is = c.in_ok-push.ensures.ok
    ∙ (λ i. (c.in_ok-messages.ensures ∙ (λ j. removals c.args.node (c.copies.ensures.copies j) (c.as_slice-victims.ensures j))) i ++ c.in_ok-question.ensures v.k z.fetch z.source v.found z.fetched z.is i ∷ []) in
    subst (λ g. RowStep c.args.node c.args.row.now beside contents (input.Call session (command.Get c.args.id.now)) g c.place_copy.new.self beside) (sym c.pending.ensures)
    (subst (λ row. RowStep c.args.node c.args.row.now beside contents (input.Call session (command.Get c.args.id.now)) (record { reply = reply.Refused Pending; posts = c.push.new.self; erased = [] }) row beside) (sym (r.row ∙ ap (λ n. replaced c.args.row.now None c.args.id.now (after_pull e.offset v.k) n e.offset c.args.placement.now.victims) long))
    (subst (λ (ps : List Post). RowStep c.args.node c.args.row.now beside contents (input.Call session (command.Get c.args.id.now)) (record { reply = reply.Refused Pending; posts = ps; erased = [] }) (replaced c.args.row.now None c.args.id.now (after_pull e.offset v.k) v.k.copy.length e.offset c.args.placement.now.victims) beside) (sym posts_is)
    (pull_done c.args.node c.args.row.now beside contents h (input.Call session (command.Get c.args.id.now)) (quiet_get c.args.node c.args.row.now beside contents session c.args.id.now) c.args.id.now v.k v.found v.is z.fetch z.source z.fetched z.is z.fine (phase_is c.args.node c.args.row.now beside contents session c.args.id.now mine c.requires.alive h v.k v.found v.stays v.is z.fetch z.fetched (sized z.source) z.is) c.args.placement.now.victims (subst (λ n. MakesPlace (make_room c.args.row.now.order (shape_of c.args.row.now beside) n) (shape_of c.args.row.now beside) n c.args.placement.now.victims) long makes) c.in_ok-place_copy.ensures.placed w.nowhere (stays_of c.args.row.now.copies c.args.placement.now.victims c.args.id.now c.requires.may_go (unsealed_visible c.args.row.now.copies c.args.id.now Fetching refl c.requires.visible)) e.offset
    (ap (λ n. first (extents_of (placed_without c.args.row.now c.args.placement.now.victims)) c.args.row.now.window.quota n) (sym long) ∙ r.least) r.fresh)))

pub returns-clause-bounded : goal.returns-clause-bounded
returns-clause-bounded c =
    let few = c.requires.may_go.few in
    let sent = length-removals c.args.node c.copies.result.now c.as_slice-victims.result.now in
    let same = ap length c.as_slice-victims.ensures in
    let response = ap length c.in_ok-messages.ensures in
    let all = ap (λ (g : RowGiven). length g.posts) c.pending.ensures ∙ ap length c.in_ok-push.ensures.ok ∙ length_more c.in_ok-messages.messages c.in_ok-question.field-0 in
    omega (arith, few, sent, same, response, all)

pub place_copy-requires-clause-some : goal.place_copy-requires-clause-some
place_copy-requires-clause-some c =
    let v = some_at c.args.row.now.copies c.args.id.now Fetching c.requires.visible in
    let z = sized_at c.args.row.now c.args.id.now v.k v.found c.requires.sized in
    let w = waiting c.args.row.now.copies c.args.id.now c.args.len c.requires.waits in
    let long : c.args.len ≡ v.k.copy.length = sym w.long ∙ ap (λ (y : CopyView). y.copy.length) (some_value w.k v.k (sym w.found ∙ v.found)) in
    some_bytes c.args.row.now.window.quota c.args.len (ap (is_size c.args.row.now.window.quota) long ∙ z.fine)
