-- What making room leaves of copies that aren't sealed, and what it takes from what a store keeps.
use Rattle.std.proofs.Common.{◌≡◌, ℕ, ◌+◌, ◌<◌, ◌≤◌, ◌^◌, true, false, List, [], ◌∷◌, cond, Some, Ok, is_ok, ap, ◌∙◌, arith}
use Rattle.std.specs.Prelude.{nat_le, sum_by}
use Rattle.std.specs.Option.{unwrap_or}
use Rattle.std.specs.Ordering.{nat_cmp, is_eq}
use Rattle.std.specs.FinMap.{find}
use Rattle.std.proofs.lemmas.List.Sums.{sum_by-cons}
use Rattle.std.proofs.lemmas.Bool.{leb-false}
use Rattle.obj_id.specs.declared.ids.ObjectId.{ObjectId}
use Rattle.private_store.specs.rules.Tables.{at}
use Rattle.private_store.specs.rules.Limits.{is_quota, most_holds}
use Rattle.private_store.specs.rules.Shape.{Copy}
use Rattle.private_store.specs.rules.Replay.{ReplayState}
use Rattle.private_store.specs.laws.Listed.{IsReplayStateKept}
use Rattle.private_store.specs.rules.Copies.{is_sealed}
use Rattle.private_store.specs.rules.Events.{is_live}
use Rattle.private_store.specs.rules.Room.{make_room}
use Rattle.private_store.specs.rules.Commands.{holds_of, all_holds}
use Rattle.store_facts.proofs.ReplayStateKept.{order_once}
use Rattle.store_facts.proofs.KeptRows.{to_live}
use Rattle.store_facts.proofs.KeptRoom.{IsMade}
use Rattle.store_facts.proofs.KeptPlan.{room_keeps}

module _ (replay_state : ReplayState) (kept : IsReplayStateKept replay_state) (live : is_live replay_state.shape ≡ true) where
  pub quota_kept : is_quota replay_state.shape.quota ≡ true
  quota_kept = kept.shape.quota live

  room_made : (n offset : ℕ) → (make_room replay_state.order replay_state.shape n).offset ≡ Ok offset → IsMade replay_state.shape (make_room replay_state.order replay_state.shape n).shape
  room_made n offset e = (room_keeps replay_state.order (order_once replay_state.order replay_state.shape.copies kept.order) replay_state.shape (to_live replay_state.shape kept.shape live) n).made (ap is_ok e)

  pub room_leaves : (n offset : ℕ) (id : ObjectId) (copy : Copy) → (make_room replay_state.order replay_state.shape n).offset ≡ Ok offset → at replay_state.shape.copies id ≡ Some copy → is_sealed copy.state ≡ false
      → at (make_room replay_state.order replay_state.shape n).shape.copies id ≡ Some copy
  room_leaves n offset id copy e there unsealed =
      let m = room_made n offset e in
      ap (λ s. at s.copies id) m.is ∙ m.others id copy there unsealed

  pub room_numbers : (n offset : ℕ) → (make_room replay_state.order replay_state.shape n).offset ≡ Ok offset → (make_room replay_state.order replay_state.shape n).shape.works_asked ≡ replay_state.shape.works_asked
  room_numbers n offset e = ap (λ s. s.works_asked) (room_made n offset e).is

found-le : (session : ℕ) (holds : List (ℕ × ℕ)) → unwrap_or (find nat_cmp session holds) 0 ≤ sum_by (λ e. e.1) holds
found-le session [] = omega arith
found-le session (e ∷ es) =
    let c = sum_by-cons (λ (x : ℕ × ℕ). x.1) e es in
    let rest = found-le session es in
    elim (is_eq (nat_cmp session e.0)) as (λ b. unwrap_or (cond b (Some e.1) (find nat_cmp session es)) 0 ≤ sum_by (λ (x : ℕ × ℕ). x.1) (e ∷ es)) [
      | true ↦ omega (arith, c)
      | false ↦ omega (arith, c, rest)
    ]

-- one hold more is a number of 32 bits
pub holds_fit : (copy : Copy) (session : ℕ) → nat_le most_holds (all_holds copy) ≡ false → holds_of copy session + 1 < 2 ^ 32
holds_fit copy session few = let le = found-le session copy.holds in let lt = leb-false most_holds (all_holds copy) few in omega (arith, le, lt)
