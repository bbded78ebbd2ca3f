-- What a change leaves and answers, past its checks and the room that was made for it.
use Rattle.std.proofs.Common.{◌≡◌, ℕ, Bool, true, false, cond, List, [], ◌∷◌, Some, None, Result, Ok, Err, refl, sym, ap}
use Rattle.obj_id.specs.declared.refusals.Refusal.{Refusal}
use Rattle.private_store.specs.rules.Shape.{Shape, Change}
use Rattle.private_store.specs.rules.Room.{Room}
use Rattle.private_store.specs.rules.Change.{checked, refused, in_room, sending}
use Rattle.store_facts.proofs.Tests.{none_some, some_value}
use Rattle.private_store.specs.rules.Shared.{first_refusal}

pub checked-refused : (store : Shape) (checks : List (Bool × Refusal)) (rest : Change) (r : Refusal) → first_refusal checks ≡ Some r → checked store checks rest ≡ refused store r
unfolding checked
checked-refused store [] rest r e = none_some r e
checked-refused store (check ∷ checks) rest r e =
    elim check.0 as (λ b. cond b (Some check.1) (first_refusal checks) ≡ Some r → cond b (refused store check.1) (checked store checks rest) ≡ refused store r) [
      | true ↦ λ f. ap (refused store) (some_value check.1 r f)
      | false ↦ λ f. checked-refused store checks rest r f
    ] e

pub checked-passed : (store : Shape) (checks : List (Bool × Refusal)) (rest : Change) → first_refusal checks ≡ None → checked store checks rest ≡ rest
unfolding checked
checked-passed store [] rest e = refl
checked-passed store (check ∷ checks) rest e =
    elim check.0 as (λ b. cond b (Some check.1) (first_refusal checks) ≡ None → cond b (refused store check.1) (checked store checks rest) ≡ rest) [
      | true ↦ λ f. none_some check.1 (sym f)
      | false ↦ λ f. checked-passed store checks rest f
    ] e

-- the same change as far as it stays and is answered
pub record IsAs (c d : Change) : Type 0 where
  pub shape : c.shape ≡ d.shape
  pub reply : c.reply ≡ d.reply
  pub used : c.used ≡ d.used

pub in_room-ok : (room : Room) (f : Shape → ℕ → Change) (offset : ℕ) → room.offset ≡ Ok offset → IsAs (in_room room f) (f room.shape offset)
unfolding in_room sending
in_room-ok room f offset e =
    let c : Result ℕ Refusal → Change = λ o. elim o [ Ok offset ↦ f room.shape offset | Err refusal ↦ refused room.shape refusal ] in
    record { shape = ap (λ o. (c o).shape) e; reply = ap (λ o. (c o).reply) e; used = ap (λ o. (c o).used) e }

pub in_room-err : (room : Room) (f : Shape → ℕ → Change) (refusal : Refusal) → room.offset ≡ Err refusal → IsAs (in_room room f) (refused room.shape refusal)
unfolding in_room sending
in_room-err room f refusal e =
    let c : Result ℕ Refusal → Change = λ o. elim o [ Ok offset ↦ f room.shape offset | Err refusal ↦ refused room.shape refusal ] in
    record { shape = ap (λ o. (c o).shape) e; reply = ap (λ o. (c o).reply) e; used = ap (λ o. (c o).used) e }
