-- Room for n bytes in a job's window, over that job's copies alone: which copies go, and what is
-- asked of the device where none that may go would be enough.
use Rattle.std.specs.Prelude.{ℕ, ◌+◌, ◌-◌, ◌==◌, nat_lt, Bool, true, false, not, if◌then◌else◌, List, [], ◌∷◌, ◌++◌, length, take, map, filter, filter_map, fold, sum, Option, Some, None, is_some, Result, Ok, Err}
use Rattle.std.specs.Option.{option_map_or}
use Rattle.obj_id.specs.declared.ids.ObjectId.{ObjectId}
use Rattle.obj_id.specs.declared.refusals.Refusal.{Refusal}
use Rattle.obj_id.specs.declared.refusals.Refusal.TheVariants.{Pending, Full, Busy, DeviceFailed, TooMany}
use Rattle.private_store.specs.rules.Limits.{most_works, has_numbers}
use Rattle.private_store.specs.rules.Tables.{at, with_entry, without_entry, is_among}
use Rattle.private_store.specs.rules.Extents.{rounded, first}
use Rattle.private_store.specs.rules.Shape.{Copy, Shape, Sending, remove_location}
use Rattle.private_store.specs.rules.Marks.{marked}
use Rattle.private_store.specs.rules.Marks as mark
use Rattle.obj_id.specs.Kinds.{is_primary}
use Rattle.private_store.specs.rules.Copies.{extent_of, is_evictable, is_draining, is_spillable, device_used}

-- ---- the plan

-- the shortest beginning of the list that passes the test
abbrev pub shortest_from : {X : Type 0} → (List X → Bool) → List X → List X → Option (List X)
shortest_from test taken [] = if test taken then Some taken else None
shortest_from test taken (x ∷ rest) =
    elim (test taken) [ true ↦ Some taken | false ↦ shortest_from test (taken ++ x ∷ []) rest ]

abbrev pub shortest : {X : Type 0} → (List X → Bool) → List X → Option (List X)
shortest test xs = shortest_from test [] xs

-- the copies that pass the test, least recently used first
abbrev pub in_order : Shape → List ObjectId → (ObjectId → Copy → Bool) → List ObjectId
in_order store order test = filter (λ id. option_map_or (test id) (at store.copies id) false) order

-- the least offset for n bytes if these copies were not there
abbrev pub offset_without : Shape → ℕ → List ObjectId → Option ℕ
offset_without store n out =
    first (filter_map (λ e. extent_of e.1) (filter (λ e. not (is_among out e.0)) store.copies)) store.quota.window n

-- the copies to be evicted for n bytes: none where they fit as it is
abbrev pub victims : List ObjectId → Shape → ℕ → Option (List ObjectId)
victims order store n = shortest (λ out. is_some (offset_without store n out)) (in_order store order (is_evictable store))

-- the copies to be spilled for n bytes, beside all that may be evicted and all whose works will end:
-- none where those are enough
abbrev pub spilled : List ObjectId → Shape → ℕ → Option (List ObjectId)
spilled order store n =
    let draining = in_order store order (is_evictable store) ++ in_order store order (is_draining store) in
    shortest (λ out. is_some (offset_without store n (draining ++ out))) (in_order store order (is_spillable store))

pub data Plan : Type 0 where
  fits wait full busy : Plan
  evict spill : List ObjectId → Plan

-- the device bytes that spilling these copies takes
abbrev pub bytes_of_copies : Shape → List ObjectId → ℕ
bytes_of_copies store ids = sum (map (λ id. option_map_or (λ copy. rounded copy.length) (at store.copies id) 0) ids)

-- how many works may still be asked for
abbrev pub works_left : Shape → ℕ
works_left store = most_works - length store.works

-- what is done with copies whose spilling would make room: all of them must fit the device quota, and
-- as many as there are works left are asked for
abbrev pub spill_plan : Shape → List ObjectId → Plan
spill_plan store ids =
    if nat_lt store.quota.device (device_used store + bytes_of_copies store ids) then full else
    (if works_left store == 0 then busy else spill (take (works_left store) ids))

-- the plan for n bytes
abbrev pub plan : List ObjectId → Shape → ℕ → Plan
plan order store n =
    elim (victims order store n) [
      | Some [] ↦ fits
      | Some (id ∷ ids) ↦ evict (id ∷ ids)
      | None ↦ elim (spilled order store n) [
        | Some [] ↦ wait
        | Some (id ∷ ids) ↦ spill_plan store (id ∷ ids)
        | None ↦ full
      ]
    ]

-- ---- the plan carried out

-- what making room did: the offset, or the refusal
pub record Room : Type 0 where
  pub shape : Shape
  pub offset : Result ℕ Refusal
  pub sent : List Sending

abbrev pub set_copy : Shape → ObjectId → Copy → Shape
set_copy store id copy = record store { copies = with_entry store.copies id copy }

abbrev pub drop_copy : Shape → ObjectId → Shape
drop_copy store id = record store { copies = without_entry store.copies id }

-- a secondary goes, and a backed primary is then away
abbrev pub evicted : Shape → ObjectId → Shape
evicted store id =
    option_map_or (λ copy. if is_primary copy.kind then set_copy store id (marked mark.evicted copy) else drop_copy store id) (at store.copies id) store

-- a secondary that goes is told of; a primary that is away can be pulled still
abbrev pub eviction_notice : Shape → ObjectId → Option Sending
eviction_notice store id =
    option_map_or (λ copy. if is_primary copy.kind then None else Some (remove_location id)) (at store.copies id) None

-- the work is asked for, under the next number
abbrev pub asked : Bool → Shape → ObjectId → Shape
asked writes store id =
    record store {
      works = store.works ++ record { number = store.works_asked + 1; id = id; writes = writes } ∷ [];
      works_asked = store.works_asked + 1;
    }

abbrev pub no_room : Shape → Refusal → Room
no_room store refusal = record { shape = store; offset = Err refusal; sent = [] }

-- a spill that failed is answered, once, before another is asked for
abbrev pub spill_room : Shape → List ObjectId → Room
spill_room store ids =
    if store.spill_failed then no_room (record store { spill_failed = false }) DeviceFailed else
    (if has_numbers store.works_asked (length ids) then no_room (fold (asked true) store ids) Pending else no_room store TooMany)

abbrev pub evict_room : Shape → ℕ → List ObjectId → Room
evict_room store n ids =
    record {
      shape = fold evicted store ids;
      offset = option_map_or Ok (offset_without store n ids) (Err Full);
      sent = filter_map (eviction_notice store) ids;
    }

abbrev pub room_by : Shape → ℕ → Plan → Room
room_by store n fits = evict_room store n []
room_by store n (evict ids) = evict_room store n ids
room_by store n wait = no_room store Pending
room_by store n full = no_room store Full
room_by store n busy = no_room store Busy
room_by store n (spill ids) = spill_room store ids

-- room for n bytes
abbrev pub make_room : List ObjectId → Shape → ℕ → Room
make_room order store n = room_by store n (plan order store n)
