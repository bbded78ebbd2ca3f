-- What every store without contents keeps, whatever it was judged: the invariants of its shape, and
-- those of its lists: the order of use, the numbers of fetches and works, and what others granted.
use Rattle.std.specs.Prelude.{◌≡◌, ℕ, ◌≤◌, ◌<◌, nat_le, nat_lt, Bool, true, ◌&&◌, if◌then◌else◌, List, [], ◌∷◌, length, count_by, Option, Some, is_some, option_map, IsTrue}
use Rattle.std.specs.Option.{option_and_then}
use Rattle.std.specs.List.{list_all}
use Rattle.std.specs.FinMap.{is_sorted}
use Rattle.obj_id.specs.declared.ids.ObjectId.{ObjectId}
use Rattle.obj_id.specs.Ids.{id_cmp, same_id}
use Rattle.private_store.specs.rules.Tables.{ById, at}
use Rattle.private_store.specs.rules.Shape.{Copy, Shape, WorkInFlight, Seen}
use Rattle.private_store.specs.laws.Invariants.{IsShapeKept, AreExtentsKept, IsDeviceKept}
use Rattle.private_store.specs.rules.Replay.{ReplayState}

-- the order of use has each copy once, and nothing else
abbrev pub IsOrderOf : List ObjectId → ById Copy → Type 0
IsOrderOf order copies = (id : ObjectId) → count_by (same_id id) order ≡ (if is_some (at copies id) then 1 else 0)

-- the number of the fetch that a copy is in, if it is in one
abbrev pub fetch_number : Option Copy → Option ℕ
fetch_number o = option_and_then (λ copy. option_map (λ fetch. fetch.number) copy.fetch) o

-- a fetch has one of the numbers that were begun, and no other fetch has it
pub record AreFetchesKept (copies : ById Copy) (begun : ℕ) : Type 0 where
  pub numbered : (id : ObjectId) (n : ℕ) → fetch_number (at copies id) ≡ Some n → (0 < n) × (n ≤ begun)
  pub apart : (a b : ObjectId) (n : ℕ) → fetch_number (at copies a) ≡ Some n → fetch_number (at copies b) ≡ Some n → same_id a b ≡ true

abbrev pub are_rising : List WorkInFlight → Bool
are_rising [] = true
are_rising (w ∷ works) = list_all (λ v. nat_lt w.number v.number) works && are_rising works

-- works by rising number, of those that were asked for
pub record AreWorksRising (works : List WorkInFlight) (asked : ℕ) : Type 0 where
  pub rising : are_rising works ≡ true
  pub numbered : list_all (λ w. nat_le w.number asked) works ≡ true

-- what others granted, by rising id, each by a grant at least
pub record AreSeenKept (received : ById Seen) : Type 0 where
  pub by_id : IsTrue (is_sorted id_cmp received)
  pub by_grants : (id : ObjectId) (seen : Seen) → at received id ≡ Some seen → 0 < length seen.grants

pub record AreListsKept (store : Shape) : Type 0 where
  pub fetches : AreFetchesKept store.copies store.fetches_begun
  pub works : AreWorksRising store.works store.works_asked
  pub seen : AreSeenKept store.received

pub record IsReplayStateKept (replay_state : ReplayState) : Type 0 where
  pub order : IsOrderOf replay_state.order replay_state.shape.copies
  pub shape : IsShapeKept replay_state.shape
  pub extents : AreExtentsKept replay_state.shape
  pub device : IsDeviceKept replay_state.shape
  pub lists : AreListsKept replay_state.shape
