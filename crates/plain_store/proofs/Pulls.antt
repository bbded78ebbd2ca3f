-- A pull begun, and the numbers of all chunks.
use Rattle.std.proofs.Common.{◌≡◌, ℕ, suc, ◌+◌, ◌-◌, ◌<◌, true, false, cond, not, List, [], ◌∷◌, ◌++◌, Option, Some, None, Ok, is_none, refl, ap, sym, ◌∙◌, append_assoc, arith}
use Rattle.std.specs.Option.{option_map_or}
use Rattle.obj_id.specs.declared.ids.ObjectId.{ObjectId}
use Rattle.obj_id.specs.declared.refusals.Refusal.TheVariants.{Absent, BadSize}
use Rattle.private_store.specs.rules.Tables.{at}
use Rattle.private_store.specs.rules.Shape.{Copy, Fetch, Shape, sized, pulling}
use Rattle.private_store.specs.rules.Replay.{ReplayState}
use Rattle.private_store.specs.laws.Listed.{IsReplayStateKept}
use Rattle.private_store.specs.rules.Marks.{counted, marked}
use Rattle.private_store.specs.rules.Marks as mark
use Rattle.private_store.specs.rules.Copies.{is_sealed}
use Rattle.private_store.specs.rules.Events.{is_live}
use Rattle.private_store.specs.rules.Room.{make_room, set_copy}
use Rattle.private_store.specs.rules.Change.{needing, in_room, sending}
use Rattle.private_store.specs.rules.Commands.{is_length, begin_pull, get_fetching}
use Rattle.store_facts.proofs.Checks.{needing-some}
use Rattle.store_facts.proofs.Tests.{false_true}
use Rattle.plain_store.specs.Fetches.{get_sized, pulled, pulled_copy}
use Rattle.plain_store.proofs.Changes.{checked-passed, in_room-ok}
use Rattle.plain_store.proofs.RoomLeaves.{room_leaves}

counted-first : (i count : ℕ) → i < count → counted i (count - i) ≡ i ∷ counted (i + 1) (count - (i + 1))
counted-first i count lt = let left : count - i ≡ suc (count - (i + 1)) = omega (arith, lt) in ap (counted i) left

pub counted-more : (chunks more : List ℕ) (i count : ℕ) (all : List ℕ) → i < count → more ≡ chunks ++ i ∷ [] → chunks ++ counted i (count - i) ≡ all → more ++ counted (i + 1) (count - (i + 1)) ≡ all
counted-more chunks more i count all lt is so =
    ap (λ xs. xs ++ counted (i + 1) (count - (i + 1))) is
    ∙ append_assoc chunks (i ∷ []) (counted (i + 1) (count - (i + 1)))
    ∙ ap (λ xs. chunks ++ xs) (sym (counted-first i count lt))
    ∙ so

begin_pull-shape : (id : ObjectId) (copy : Copy) (fetch : Fetch) (source : ℕ) (store : Shape) (offset : ℕ)
    → (begin_pull id copy fetch source store offset).shape ≡ set_copy store id (marked (mark.pulled fetch offset source) copy)
unfolding sending
begin_pull-shape id copy fetch source store offset = refl

module _ (replay_state : ReplayState) (kept : IsReplayStateKept replay_state) (live : is_live replay_state.shape ≡ true) (id : ObjectId) (copy : Copy) (source offset : ℕ)
    (there : at replay_state.shape.copies id ≡ Some copy) (unsealed : is_sealed copy.state ≡ false) (fits : is_length replay_state.shape copy.length ≡ true)
    (room : (make_room replay_state.order replay_state.shape copy.length).offset ≡ Ok offset) where
  by_fetch : (fetch : Fetch) → copy.fetch ≡ Some fetch
      → pulled (make_room replay_state.order replay_state.shape copy.length).shape id source offset ≡ (get_sized replay_state.order replay_state.shape id source copy).shape
  by_fetch fetch e =
      let left = (make_room replay_state.order replay_state.shape copy.length).shape in
      ap (λ o. option_map_or (λ c. set_copy left id (pulled_copy c source offset)) o left) (room_leaves replay_state kept live copy.length offset id copy room there unsealed)
      ∙ ap (λ o. set_copy left id (option_map_or (λ f. marked (mark.pulled f offset source) copy) o copy)) e
      ∙ sym (begin_pull-shape id copy fetch source left offset)
      ∙ sym (in_room-ok (make_room replay_state.order replay_state.shape copy.length) (begin_pull id copy fetch source) offset room).shape
      ∙ sym (ap (λ c. c.shape) (checked-passed replay_state.shape ((not (is_length replay_state.shape copy.length), BadSize) ∷ []) (in_room (make_room replay_state.order replay_state.shape copy.length) (begin_pull id copy fetch source))
      (ap (λ b. cond (not b) (Some BadSize) None) fits)))
      ∙ sym (ap (λ c. c.shape) (needing-some replay_state.shape copy.fetch fetch Absent (λ f. get_fetching replay_state.order replay_state.shape id copy f (sized source)) e))

  pub sized-begun : is_none copy.fetch ≡ false
      → pulled (make_room replay_state.order replay_state.shape copy.length).shape id source offset ≡ (needing replay_state.shape (at replay_state.shape.copies id) Absent (get_sized replay_state.order replay_state.shape id source)).shape
  sized-begun some = by_cases copy.fetch refl some ∙ sym (ap (λ c. c.shape) (needing-some replay_state.shape (at replay_state.shape.copies id) copy Absent (get_sized replay_state.order replay_state.shape id source) there))
    where
      by_cases : (o : Option Fetch) → copy.fetch ≡ o → is_none o ≡ false → pulled (make_room replay_state.order replay_state.shape copy.length).shape id source offset ≡ (get_sized replay_state.order replay_state.shape id source copy).shape
      by_cases None e s = false_true s
      by_cases (Some fetch) e s = by_fetch fetch e
