-- A restore by its checks, and past them.
use Rattle.std.proofs.Common.{◌≡◌, ℕ, true, false, List, Some, None, Ok, refl, ap, sym, ◌∙◌}
use Rattle.obj_id.specs.declared.ids.ObjectId.{ObjectId}
use Rattle.obj_id.specs.declared.refusals.Refusal.{Refusal}
use Rattle.obj_id.specs.declared.refusals.Refusal.TheVariants.{Absent}
use Rattle.std.specs.Option.{option_map_or}
use Rattle.private_store.specs.rules.Tables.{at}
use Rattle.private_store.specs.rules.Shape.{Copy, Shape}
use Rattle.private_store.specs.rules.Replay.{ReplayState}
use Rattle.private_store.specs.laws.Listed.{IsReplayStateKept}
use Rattle.private_store.specs.rules.Copies.{is_sealed}
use Rattle.private_store.specs.rules.Events.{is_live}
use Rattle.private_store.specs.rules.Room.{make_room}
use Rattle.private_store.specs.rules.Change.{checked, needing, refused, in_room}
use Rattle.private_store.specs.rules.Commands.{restore, restoring}
use Rattle.store_facts.proofs.Checks.{needing-some}
use Rattle.plain_store.specs.Checks.{restore_checks, restored}
use Rattle.private_store.specs.rules.Shared.{first_refusal}
use Rattle.plain_store.proofs.Changes.{checked-refused, checked-passed, in_room-ok}
use Rattle.plain_store.proofs.RoomLeaves.{room_leaves}

restore-checked : (order : List ObjectId) (store : Shape) (id : ObjectId) (copy : Copy)
    → restore order store id copy ≡ checked store (restore_checks order store copy.length) (in_room (make_room order store copy.length) (restoring id copy))
unfolding checked
restore-checked order store id copy = refl

pub restore-refused : (order : List ObjectId) (store : Shape) (id : ObjectId) (copy : Copy) (n : ℕ) (r : Refusal) → at store.copies id ≡ Some copy → n ≡ copy.length → first_refusal (restore_checks order store n) ≡ Some r
    → needing store (at store.copies id) Absent (restore order store id) ≡ refused store r
restore-refused order store id copy n r there is e =
    needing-some store (at store.copies id) copy Absent (restore order store id) there
    ∙ restore-checked order store id copy
    ∙ checked-refused store (restore_checks order store copy.length) _ r (sym (ap (λ m. first_refusal (restore_checks order store m)) is) ∙ e)

pub restore-begun : (replay_state : ReplayState) → IsReplayStateKept replay_state → is_live replay_state.shape ≡ true → (id : ObjectId) (copy : Copy) (n offset : ℕ) → at replay_state.shape.copies id ≡ Some copy → is_sealed copy.state ≡ false → n ≡ copy.length
    → first_refusal (restore_checks replay_state.order replay_state.shape n) ≡ None → (make_room replay_state.order replay_state.shape n).offset ≡ Ok offset
    → restored (make_room replay_state.order replay_state.shape n).shape id offset ≡ (needing replay_state.shape (at replay_state.shape.copies id) Absent (restore replay_state.order replay_state.shape id)).shape
restore-begun replay_state kept live id copy n offset there unsealed is passes room =
    ap (λ o. option_map_or (λ c. (restoring id c (make_room replay_state.order replay_state.shape n).shape offset).shape) o (make_room replay_state.order replay_state.shape n).shape) (room_leaves replay_state kept live n offset id copy room there unsealed)
    ∙ sym (in_room-ok (make_room replay_state.order replay_state.shape n) (restoring id copy) offset room).shape
    ∙ ap (λ m. (in_room (make_room replay_state.order replay_state.shape m) (restoring id copy)).shape) is
    ∙ sym (ap (λ c. c.shape)
    (needing-some replay_state.shape (at replay_state.shape.copies id) copy Absent (restore replay_state.order replay_state.shape id) there
    ∙ restore-checked replay_state.order replay_state.shape id copy
    ∙ checked-passed replay_state.shape (restore_checks replay_state.order replay_state.shape copy.length) (in_room (make_room replay_state.order replay_state.shape copy.length) (restoring id copy)) (sym (ap (λ m. first_refusal (restore_checks replay_state.order replay_state.shape m)) is) ∙ passes)))
