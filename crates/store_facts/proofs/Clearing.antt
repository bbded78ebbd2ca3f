-- What making room does to a job's store: what it evicts keeps no extent, what stays is apart from the
-- place that was found, and where it only asks for writes their bytes are within the device quota.
use Rattle.std.proofs.Common.{◌≡◌, ℕ, ◌+◌, ◌%◌, ◌≤◌, nat_le, nat_lt, Bool, true, false, not, cond, ◌==◌, ◌⊎◌, inl, inr, List, [], ◌∷◌, take, fold, filter, filter_map, length, Option, Some, None, Ok, Err, Result, is_some, is_ok, option_map, refl, sym, ap, ◌∙◌}
use Rattle.std.specs.Option.{option_map_or}
use Rattle.std.specs.List.{list_all, cons_option}
use Rattle.std.specs.Ordering.{eq_by_cmp}
use Rattle.std.specs.FinMap.Entries.{find-where_key}
use Rattle.std.proofs.lemmas.Bool.{ltb-false}
use Rattle.obj_id.specs.declared.ids.ObjectId.{ObjectId}
use Rattle.obj_id.specs.declared.works.Extent.{Extent}
use Rattle.obj_id.specs.declared.works.Quota.{Quota}
use Rattle.obj_id.specs.declared.commands.CopyState.TheVariants.{Away}
use Rattle.obj_id.specs.declared.refusals.Refusal.{Refusal}
use Rattle.obj_id.specs.declared.refusals.Refusal.TheVariants.{DeviceFailed, Pending, TooMany, Full, Busy}
use Rattle.obj_id.specs.Ids.{id_cmp, same_id}
use Rattle.private_store.specs.rules.Tables.{ById, at, with_entry, without_entry, is_among}
use Rattle.private_store.specs.rules.Limits.{has_numbers}
use Rattle.private_store.specs.rules.Extents.{rounded, is_free, is_apart}
use Rattle.private_store.specs.rules.Shape.{Copy, Shape, WorkInFlight, Seen}
use Rattle.obj_id.specs.Kinds.{is_primary}
use Rattle.private_store.specs.rules.Copies.{extent_of, device_used}
use Rattle.private_store.specs.rules.Room.{Room, fits, wait, full, busy, evict, spill, set_copy, drop_copy, evicted, asked, no_room, room_by, spill_room, spill_plan, evict_room, make_room, victims, spilled, offset_without, bytes_of_copies, works_left}
use Rattle.private_store.specs.laws.Invariants.{is_placed, are_apart}
use Rattle.store_facts.proofs.Tests.{true_false, some_value, none_some, both_left, both_right, both, neither}
use Rattle.store_facts.proofs.FirstFit.{first-free, first-units}
use Rattle.store_facts.proofs.Ids.{id_cmp-IsAntisymmetric, same_id-equal, same_id-not_back}
use Rattle.store_facts.proofs.Rows.{at-put, at-drop, Quiet, quiet_stays, quiet_fold, quiet_evicted}

-- ---- what is left after evictions

not_same : {X : Type 0} (table : ById X) (id q : ObjectId) (x : X) → at table id ≡ None → at table q ≡ Some x → same_id q id ≡ false
not_same table id q x none e =
    elim (same_id q id) as (λ b. same_id q id ≡ b → b ≡ false) [
      | true ↦ λ t. none_some x (sym none ∙ ap (at table) (sym (same_id-equal q id t)) ∙ e)
      | false ↦ λ _. refl
    ] refl

abbrev Stood : ById Copy → ObjectId → ObjectId → Copy → Type 0
Stood table id q c = (same_id q id ≡ false) × (at table q ≡ Some c)

put_stood : (table : ById Copy) (id : ObjectId) (d : Copy) (q : ObjectId) (c : Copy) → is_some d.offset ≡ false → at (with_entry table id d) q ≡ Some c → is_some c.offset ≡ true → Stood table id q c
put_stood table id d q c none e s =
    elim (same_id q id) as (λ b. same_id q id ≡ b → cond b (Some d) (at table q) ≡ Some c → Stood table id q c) [
      | true ↦ λ t e. true_false (sym none ∙ ap (λ x. is_some x.offset) (some_value d c e) ∙ s)
      | false ↦ λ t e. (t, e)
    ] refl (sym (at-put table id d q) ∙ e)

drop_stood : (table : ById Copy) (id q : ObjectId) (c : Copy) → at (without_entry table id) q ≡ Some c → Stood table id q c
drop_stood table id q c e =
    elim (same_id id q) as (λ b. same_id id q ≡ b → cond (not b) (at table q) None ≡ Some c → Stood table id q c) [
      | true ↦ λ t e. none_some c e
      | false ↦ λ t e. (same_id-not_back id q t, e)
    ] refl (sym (at-drop table id q) ∙ e)

evicted_stood : (store : Shape) (id q : ObjectId) (c : Copy) → at (evicted store id).copies q ≡ Some c → is_some c.offset ≡ true → Stood store.copies id q c
evicted_stood store id q c e s =
    elim (at store.copies id) as (λ o. at store.copies id ≡ o → at (option_map_or (λ copy. cond (is_primary copy.kind) (set_copy store id (record copy { state = Away; offset = None })) (drop_copy store id)) o store).copies q ≡ Some c → Stood store.copies id q c) [
      | None ↦ λ none e. (not_same store.copies id q c none e, e)
      | Some copy ↦ λ _ e. elim (is_primary copy.kind) as (λ b. at (cond b (set_copy store id (record copy { state = Away; offset = None })) (drop_copy store id)).copies q ≡ Some c → Stood store.copies id q c) [
        | true ↦ λ e. put_stood store.copies id (record copy { state = Away; offset = None }) q c refl e s
        | false ↦ λ e. drop_stood store.copies id q c e
      ] e
    ] refl e

-- what has an extent still was not among what was evicted, and is as it was
folded_stood : (store : Shape) (ids : List ObjectId) (q : ObjectId) (c : Copy) → at (fold evicted store ids).copies q ≡ Some c → is_some c.offset ≡ true → (is_among ids q ≡ false) × (at store.copies q ≡ Some c)
folded_stood store [] q c e s = (refl, e)
folded_stood store (id ∷ ids) q c e s =
    let k = folded_stood (evicted store id) ids q c e s in
    let h = evicted_stood store id q c k.1 s in
    (neither (same_id q id) (is_among ids q) h.0 k.0, h.1)

-- ---- what holds of all extents

all_first : (P : Extent → Bool) (o : Option Extent) (rest : List Extent) (x : Extent) → list_all P (cons_option o rest) ≡ true → o ≡ Some x → P x ≡ true
all_first P None rest x h e = none_some x e
all_first P (Some y) rest x h e = ap P (sym (some_value y x e)) ∙ both_left (P y) (list_all P rest) h

all_rest : (P : Extent → Bool) (o : Option Extent) (rest : List Extent) → list_all P (cons_option o rest) ≡ true → list_all P rest ≡ true
all_rest P None rest h = h
all_rest P (Some y) rest h = both_right (P y) (list_all P rest) h

-- a test that all extents of a table pass
pub all_extents : (P : Extent → Bool) (es : ById Copy) (q : ObjectId) (c : Copy) (x : Extent) → at es q ≡ Some c → extent_of c ≡ Some x → list_all P (filter_map (λ e. extent_of e.1) es) ≡ true → P x ≡ true
all_extents P [] q c x e ext h = none_some c e
all_extents P (f ∷ fs) q c x e ext h =
    elim (eq_by_cmp id_cmp q f.0) as (λ b. cond b (Some f.1) (at fs q) ≡ Some c → P x ≡ true) [
      | true ↦ λ e. all_first P (extent_of f.1) (filter_map (λ e. extent_of e.1) fs) x h (ap extent_of (some_value f.1 c e) ∙ ext)
      | false ↦ λ e. all_extents P fs q c x e ext (all_rest P (extent_of f.1) (filter_map (λ e. extent_of e.1) fs) h)
    ] e

has_offset : (c : Copy) (x : Extent) → extent_of c ≡ Some x → is_some c.offset ≡ true
has_offset c x e =
    elim c.offset as (λ o. option_map (λ p. record { offset = p; length = rounded c.length }) o ≡ Some x → is_some o ≡ true) [ None ↦ λ e. none_some x e | Some p ↦ λ e. refl ] e

-- ---- room

abbrev pub extent_at : ℕ → ℕ → Extent
extent_at offset n = record { offset = offset; length = rounded n }

-- n bytes may be placed at the offset
pub record Cleared (store mid : Shape) (n offset : ℕ) : Type 0 where
  pub quiet : Quiet store mid
  pub placed : is_placed store.quota.window (extent_at offset n) ≡ true
  pub apart : (q : ObjectId) (c : Copy) → at mid.copies q ≡ Some c → are_apart (Some (extent_at offset n)) (extent_of c) ≡ true

cleared : (store : Shape) (n : ℕ) (ids : List ObjectId) (offset : ℕ) → offset_without store n ids ≡ Some offset → Cleared store (fold evicted store ids) n offset
cleared store n ids offset e =
    let left : ById Copy = filter (λ e. not (is_among ids e.0)) store.copies in
    let extents : List Extent = filter_map (λ e. extent_of e.1) left in
    let free : is_free extents store.quota.window n offset ≡ true = first-free extents store.quota.window n offset e in
    let units : offset % 16 ≡ 0 = first-units extents store.quota.window n offset e in
    let within : nat_le (offset + rounded n) store.quota.window ≡ true = both_left _ _ free in
    let all : list_all (is_apart (extent_at offset n)) extents ≡ true = both_right (nat_le (offset + rounded n) store.quota.window) _ free in
    record {
      quiet = quiet_fold evicted quiet_evicted store ids;
      placed = both (offset % 16 == 0) _ (ap (λ x. x == 0) units) within;
      apart = λ q c is. elim (extent_of c) as (λ o. extent_of c ≡ o → are_apart (Some (extent_at offset n)) o ≡ true) [
        | None ↦ λ _. refl
        | Some x ↦ λ ext.
            let stood = folded_stood store ids q c is (has_offset c x ext) in
            let there : at left q ≡ Some c = find-where_key id_cmp (λ x. not (is_among ids x)) q (λ x t. ap (λ y. not (is_among ids y)) (sym (id_cmp-IsAntisymmetric q x t))) store.copies ∙ ap (λ b. cond (not b) (at store.copies q) None) stood.0 ∙ stood.1 in
            all_extents (is_apart (extent_at offset n)) left q c x there ext all
      ] refl;
    }

-- no room, and writes are asked for whose bytes are within the device quota
pub record Spills (store : Shape) (copies' : ById Copy) (works' : List WorkInFlight) (quota' : Quota) (received' : ById Seen) : Type 0 where
  pub ids : List ObjectId
  pub taken : ℕ
  pub copies : copies' ≡ store.copies
  pub works : works' ≡ (fold (asked true) store (take taken ids)).works
  pub quota : quota' ≡ store.quota
  pub received : received' ≡ store.received
  pub device : device_used store + bytes_of_copies store ids ≤ store.quota.device

abbrev pub SpillsIn : Shape → Shape → Type 0
SpillsIn store after = Spills store after.copies after.works after.quota after.received

pub record RoomDone (store : Shape) (n : ℕ) (room : Room) : Type 0 where
  pub found : (offset : ℕ) → room.offset ≡ Ok offset → Cleared store room.shape n offset
  pub refused : (r : Refusal) → room.offset ≡ Err r → Quiet store room.shape ⊎ SpillsIn store room.shape

err_ok : {A : Type 0} {E : Type 0} {B : Type 0} (r : E) (x : A) → ◌≡◌ {A = Result A E} (Err r) (Ok x) → B
err_ok r x e = true_false (ap is_ok e)

refusing : (store mid : Shape) (n : ℕ) (r : Refusal) → Quiet store mid ⊎ SpillsIn store mid → RoomDone store n (no_room mid r)
refusing store mid n r h = record { found = λ offset e. err_ok r offset e; refused = λ _ _. h }

evicting : (store : Shape) (n : ℕ) (ids : List ObjectId) → RoomDone store n (evict_room store n ids)
evicting store n ids =
    record {
      found = λ offset. elim (offset_without store n ids) as (λ o. offset_without store n ids ≡ o → ◌≡◌ {A = Result ℕ Refusal} (option_map_or Ok o (Err Full)) (Ok offset) → Cleared store (fold evicted store ids) n offset) [
        | None ↦ λ _ e. err_ok Full offset e
        | Some p ↦ λ is e. let same : p ≡ offset = ap (λ o. unwrap_or_ok o p) e in cleared store n ids offset (is ∙ ap Some same)
      ] refl;
      refused = λ r e. inl (quiet_fold evicted quiet_evicted store ids);
    }
  where
    unwrap_or_ok : Result ℕ Refusal → ℕ → ℕ
    unwrap_or_ok (Ok x) d = x
    unwrap_or_ok (Err _) d = d

fold_asked : (store : Shape) (ids : List ObjectId) → ((fold (asked true) store ids).copies ≡ store.copies) × ((fold (asked true) store ids).quota ≡ store.quota) × ((fold (asked true) store ids).received ≡ store.received)
fold_asked store [] = (refl, refl, refl)
fold_asked store (id ∷ ids) = fold_asked (asked true store id) ids

spilling : (store : Shape) (n : ℕ) (ids : List ObjectId) (taken : ℕ) → device_used store + bytes_of_copies store ids ≤ store.quota.device → RoomDone store n (spill_room store (take taken ids))
spilling store n ids taken fit =
    elim store.spill_failed as (λ b. RoomDone store n (cond b (no_room (record store { spill_failed = false }) DeviceFailed) (cond (has_numbers store.works_asked (length (take taken ids))) (no_room (fold (asked true) store (take taken ids)) Pending) (no_room store TooMany)))) [
      | true ↦ refusing store (record store { spill_failed = false }) n DeviceFailed (inl (quiet_stays store))
      | false ↦ elim (has_numbers store.works_asked (length (take taken ids))) as (λ b. RoomDone store n (cond b (no_room (fold (asked true) store (take taken ids)) Pending) (no_room store TooMany))) [
        | true ↦ let same = fold_asked store (take taken ids) in
            refusing store (fold (asked true) store (take taken ids)) n Pending (inr (record { ids = ids; taken = taken; copies = same.0; works = refl; quota = same.1; received = same.2; device = fit }))
        | false ↦ refusing store store n TooMany (inl (quiet_stays store))
      ]
    ]

by_spill_plan : (store : Shape) (n : ℕ) (ids : List ObjectId) → RoomDone store n (room_by store n (spill_plan store ids))
by_spill_plan store n ids =
    elim (nat_lt store.quota.device (device_used store + bytes_of_copies store ids)) as (λ b. nat_lt store.quota.device (device_used store + bytes_of_copies store ids) ≡ b → RoomDone store n (room_by store n (cond b full (cond (works_left store == 0) busy (spill (take (works_left store) ids)))))) [
      | true ↦ λ _. refusing store store n Full (inl (quiet_stays store))
      | false ↦ λ fit. elim (works_left store == 0) as (λ b. RoomDone store n (room_by store n (cond b busy (spill (take (works_left store) ids))))) [
        | true ↦ refusing store store n Busy (inl (quiet_stays store))
        | false ↦ spilling store n ids (works_left store) (ltb-false store.quota.device (device_used store + bytes_of_copies store ids) fit)
      ]
    ] refl

-- all that making room may do
pub room_done : (order : List ObjectId) (store : Shape) (n : ℕ) → RoomDone store n (make_room order store n)
room_done order store n =
    elim (victims order store n) as (λ v. RoomDone store n (room_by store n (elim v [
      | Some [] ↦ fits
      | Some (id ∷ ids) ↦ evict (id ∷ ids)
      | None ↦ elim (spilled order store n) [ Some [] ↦ wait | Some (id ∷ ids) ↦ spill_plan store (id ∷ ids) | None ↦ full ]
    ]))) [
      | Some [] ↦ evicting store n []
      | Some (id ∷ ids) ↦ evicting store n (id ∷ ids)
      | None ↦ elim (spilled order store n) as (λ s. RoomDone store n (room_by store n (elim s [ Some [] ↦ wait | Some (id ∷ ids) ↦ spill_plan store (id ∷ ids) | None ↦ full ]))) [
        | Some [] ↦ refusing store store n Pending (inl (quiet_stays store))
        | Some (id ∷ ids) ↦ by_spill_plan store n (id ∷ ids)
        | None ↦ refusing store store n Full (inl (quiet_stays store))
      ]
    ]
