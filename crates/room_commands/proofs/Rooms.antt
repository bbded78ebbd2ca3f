-- A row takes a step that makes room: what is so of each input whose change is made once room was made.
use Rattle.std.proofs.Common.{◌≡◌, ℕ, ◌+◌, ◌<◌, ◌≤◌, nat_le, nat_lt, Bool, true, false, not, ◌&&◌, ◌||◌, cond, nat_eq, inl, inr, List, [], ◌∷◌, ◌++◌, filter, map, flat_map, fold, length, take, replicate, Option, Some, None, is_some, is_none, option_map, unwrap_or, Ok, Err, refl, sym, ap, subst, ◌∙◌, T, arith}
use Rattle.std.specs.Prelude.{option_to_list, is_ok}
use Rattle.std.specs.List.{list_all}
use Rattle.std.specs.Option.{option_map_or, option_and_then}
use Rattle.std.specs.Map.{lookup}
use Rattle.std.specs.FinMap.Entries.{is_sorted, same_entries, is_sorted-put, is_sorted-where_key}
use Rattle.std.proofs.lemmas.Bool.Decides.{nat_tests}
use Rattle.std.proofs.lemmas.List.{take-replicate}
use Rattle.std.proofs.lemmas.List.Folds.{list_all-append, list_any-append}
use Rattle.std.proofs.lemmas.List.Elements.{filter-append}
use Rattle.obj_id.specs.declared.ids.ObjectId.{ObjectId}
use Rattle.obj_id.specs.declared.works.Extent.{Extent}
use Rattle.obj_id.specs.declared.commands.CopyState.{CopyState}
use Rattle.obj_id.specs.declared.commands.CopyState.TheVariants.{Created, Sealed, Restoring, Fetching, Away}
use Rattle.obj_id.specs.declared.commands.Reply.TheVariants as reply
use Rattle.obj_id.specs.declared.messages.DirectoryMessage.TheVariants.{RemoveLocation}
use Rattle.obj_id.specs.declared.refusals.Refusal.{Refusal}
use Rattle.obj_id.specs.declared.refusals.Refusal.TheVariants.{DeviceFailed, Full}
use Rattle.obj_id.specs.Ids.{id_cmp, same_id}
use Rattle.obj_id.specs.Kinds.{is_primary}
use Rattle.store_facts.proofs.Ids.{id_cmp-IsTotalOrder, id_cmp-IsAntisymmetric, same_id-equal, same_id-itself, same_id-flip}
use Rattle.private_store.specs.declared.inputs.Input.{Input}
use Rattle.private_store.specs.rules.Tables.{ById, at, with_entry, without_entry, is_among}
use Rattle.private_store.specs.rules.Extents.{rounded, first, is_size}
use Rattle.private_store.specs.rules.Limits.{longest_object}
use Rattle.store_facts.proofs.FirstFit.{first-free}
use Rattle.private_store.specs.rules.Shape.{Copy, Shape, Change, Sending, WorkInFlight, remove_location}
use Rattle.private_store.specs.rules.Copies.{extent_of, is_sealed, was_sealed, is_evictable, is_idle, device_used}
use Rattle.private_store.specs.rules.Room.{Room, make_room, offset_without, no_room, evict_room, evicted}
use Rattle.private_store.specs.rules.Change.{refused, sending, erasing, in_room}
use Rattle.private_store.specs.laws.Invariants.{IsOrderOfUse, has_grant}
use Rattle.private_store.specs.rules.Contents.{Contents, View, judge, keeps_digest, no_digest, whole_reply, brought, is_sized}
use Rattle.private_store.specs.rules.Private.{Post, key_of, posts_of, to_directory, view_after}
use Rattle.private_store.specs.rules.Step.{step, reordered, is_used}
use Rattle.store_facts.proofs.Filling.{filled}
use Rattle.store_facts.proofs.KeptLists.{any-filter, all_weaker}
use Rattle.store_facts.proofs.ErasedKeys.{keys_none, all_found}
use Rattle.store_facts.proofs.Rows.{at-put}
use Rattle.store_facts.proofs.Tests.{T_true, both, both_left, both_right, or_left, or_right, some_value, none_some, true_false}
use Rattle.job_region.specs.Region.{region_bytes_at as placed_bytes, extents_of}
use Rattle.job_region.proofs.ForCallers.{lookup-put_in}
use Rattle.lru_evictor.specs.declared.facts.CopyFacts.{CopyFacts}
use Rattle.lru_evictor.specs.Orders.{AreThere}
use Rattle.lru_evictor.specs.declared.facts.DeviceRoom.{DeviceRoom}
use Rattle.lru_evictor.proofs.ForCallers.{offset-described, reordered-unused}
use Rattle.job_row.specs.Entries.{changed}
use Rattle.job_row.specs.Evicting.{has_secondary, evicted_one, all_evicted, removals, placed_without, MayGo, replaced, is_sealed_at}
use Rattle.row_copy.specs.CopyViews.{CopyView, after_eviction}
use Rattle.room_commands.specs.MadeRooms.{BringsNothing, TellsRoom}
use Rattle.room_commands.specs.RoomPlans.{MakesPlace}
use Rattle.job_row.specs.RowFacts.{row_facts_of}
use Rattle.row_copy.specs.Keeping.{is_idle_view}
use Rattle.job_row.specs.Row.{Row, copies_of, place_of, ArePlaced}
use Rattle.row_steps.specs.Shown.{seen, work_on, IsShown, RowGiven, only, RowStep}
use Rattle.row_steps.proofs.ForCallers.{sending-is, described, facts_at, TakesChange, moved, stays, same_bytes, received_stays}
use Rattle.job_row.proofs.ForCallers.{changed-found, changed-absent, sorted-copies, at-copies, at-copies_found, copies-with, CanGo, evicted_of, at-evicted, store_evicted, evictions_told, none_erased, Stands, stands, at_now, id_now, found_still}
use Rattle.room_commands.proofs.Counting.{length-once}
use Rattle.row_steps.specs.Beside.{SharedTables, shape_of}

-- ---- tables of which some are evicted

sorted-one : (es : ById CopyView) (id : ObjectId) → T (is_sorted id_cmp es) → T (is_sorted id_cmp (evicted_one es id))
sorted-one es id sorted = by (has_secondary es id) (at es id) refl
  where
    by : (b : Bool) (o : Option CopyView) → at es id ≡ o → T (is_sorted id_cmp (cond b (without_entry es id) (changed after_eviction es id)))
    by true o found = is_sorted-where_key id_cmp (λ x. not (same_id id x)) es sorted
    by false None none = subst (λ t. T (is_sorted id_cmp t)) (sym (changed-absent after_eviction id es none)) sorted
    by false (Some k) found = subst (λ t. T (is_sorted id_cmp t)) (sym (changed-found after_eviction id es k found)) (is_sorted-put id_cmp id_cmp-IsTotalOrder id (after_eviction k) es sorted)

sorted-evicted : (ids : List ObjectId) (es : ById CopyView) → T (is_sorted id_cmp es) → T (is_sorted id_cmp (all_evicted ids es))
sorted-evicted [] es sorted = sorted
sorted-evicted (id ∷ ids) es sorted = sorted-evicted ids (evicted_one es id) (sorted-one es id sorted)

-- what is put stays, whichever others are evicted
with-evicted : (ids : List ObjectId) (es : ById CopyView) (id : ObjectId) (k : CopyView) → T (is_sorted id_cmp es) → is_among ids id ≡ false → all_evicted ids (with_entry es id k) ≡ with_entry (all_evicted ids es) id k
with-evicted ids es id k sorted stays =
    same_entries id_cmp id_cmp-IsTotalOrder id_cmp-IsAntisymmetric (all_evicted ids (with_entry es id k)) (with_entry (all_evicted ids es) id k)
    (sorted-evicted ids (with_entry es id k) (is_sorted-put id_cmp id_cmp-IsTotalOrder id k es sorted))
    (is_sorted-put id_cmp id_cmp-IsTotalOrder id k (all_evicted ids es) (sorted-evicted ids es sorted))
    (λ q. at-evicted ids (with_entry es id k) q ∙ ap (λ o. cond (is_among ids q) (option_and_then evicted_of o) o) (at-put es id k q)
    ∙ by q (same_id q id) refl (is_among ids q) refl
    ∙ ap (λ o. cond (same_id q id) (Some k) o) (sym (at-evicted ids es q)) ∙ sym (at-put (all_evicted ids es) id k q))
  where
    by : (q : ObjectId) (s : Bool) → same_id q id ≡ s → (a : Bool) → is_among ids q ≡ a
        → cond a (option_and_then evicted_of (cond s (Some k) (at es q))) (cond s (Some k) (at es q)) ≡ cond s (Some k) (cond a (option_and_then evicted_of (at es q)) (at es q))
    by q true s false a = refl
    by q false s a e = refl
    by q true s true a = true_false (sym (sym a ∙ ap (is_among ids) (same_id-equal q id s) ∙ stays))

-- what is so of all ids is so of each among them
pub each_among : (p : ObjectId → Bool) (ids : List ObjectId) → list_all p ids ≡ true → (q : ObjectId) → is_among ids q ≡ true → p q ≡ true
each_among p [] h q among = true_false among
each_among p (x ∷ ids) h q among = by (same_id q x) refl (each_among p ids (both_right (p x) _ h) q) among
  where
    by : (b : Bool) → same_id q x ≡ b → (is_among ids q ≡ true → p q ≡ true) → b || is_among ids q ≡ true → p q ≡ true
    by true t rest among = ap p (same_id-equal q x t) ∙ both_left (p x) _ h
    by false t rest among = rest among

-- ---- the order of use

-- what is kept of an order, by whether there is a copy still
kept_order : (order : List ObjectId) (old now : ById Copy) (used : Option ObjectId) (stays : ObjectId → Bool) → AreThere old order → ((q : ObjectId) → is_some (at old q) ≡ true → is_some (at now q) ≡ stays q)
    → filter stays (filter (λ x. not (is_used used x)) order) ≡ filter (λ x. is_some (at now x) && not (is_used used x)) order
kept_order [] old now used stays there same = refl
kept_order (x ∷ xs) old now used stays there same =
    let rest = kept_order xs old now used stays (both_right (is_some (at old x)) _ there) same in
    let later : List ObjectId = filter (λ y. is_some (at now y) && not (is_used used y)) xs in
    elim (is_used used x) as (λ b. filter stays (cond (not b) (x ∷ filter (λ x. not (is_used used x)) xs) (filter (λ x. not (is_used used x)) xs)) ≡ cond (is_some (at now x) && not b) (x ∷ later) later) [
      | true ↦ rest ∙ sym (ap (λ b. cond b (x ∷ later) later) (and_false (is_some (at now x))))
      | false ↦ (λ i. cond (stays x) (x ∷ rest i) (rest i)) ∙ ap (λ b. cond b (x ∷ later) later) (sym (and_true (is_some (at now x)) ∙ same x (both_left (is_some (at old x)) _ there)))
    ]
  where
    and_false : (b : Bool) → b && false ≡ false
    and_false true = refl
    and_false false = refl

    and_true : (b : Bool) → b && true ≡ b
    and_true true = refl
    and_true false = refl

-- what is kept of the ids that have copies has them
still_there : (ids : List ObjectId) (now : ById Copy) (used : ObjectId → Bool) → list_all (λ x. is_some (at now x)) (filter (λ x. is_some (at now x) && used x) ids) ≡ true
still_there [] now used = refl
still_there (x ∷ ids) now used = by (is_some (at now x)) refl (used x) (still_there ids now used)
  where
    by : (b : Bool) → is_some (at now x) ≡ b → (u : Bool) → list_all (λ x. is_some (at now x)) (filter (λ x. is_some (at now x) && used x) ids) ≡ true
        → list_all (λ x. is_some (at now x)) (cond (b && u) (x ∷ filter (λ x. is_some (at now x) && used x) ids) (filter (λ x. is_some (at now x) && used x) ids)) ≡ true
    by true t true rest = both (is_some (at now x)) _ t rest
    by true t false rest = rest
    by false t u rest = rest

-- a copy that was used, or was in the order, is in it
still_listed : (order : List ObjectId) (now : ById Copy) (used : Option ObjectId) (q : ObjectId) → is_some (at now q) ≡ true → (is_used used q ≡ false → is_among order q ≡ true) → is_among (reordered order now used) q ≡ true
still_listed order now used q there listed = list_any-append (same_id q) (filter test order) (option_to_list used) ∙ by (is_used used q) refl listed
  where
    test : ObjectId → Bool
    test x = is_some (at now x) && not (is_used used x)

    last : (u : Option ObjectId) → is_used u q ≡ true → is_among (option_to_list u) q ≡ true
    last None t = true_false t
    last (Some u) t = or_left (same_id q u) false (same_id-flip q u ∙ t)

    by : (b : Bool) → is_used used q ≡ b → (b ≡ false → is_among order q ≡ true) → is_among (filter test order) q || is_among (option_to_list used) q ≡ true
    by true t h = or_right (is_among (filter test order) q) _ (last used t)
    by false t h = or_left _ (is_among (option_to_list used) q) (any-filter (same_id q) test order (λ x same. ap test (sym (same_id-equal q x same)) ∙ both (is_some (at now q)) _ there (ap not t)) ∙ h refl)

-- ---- the step

pub in_room-is : (room : Room) (f : Shape → ℕ → Change) → in_room room f ≡ sending room.sent (elim room.offset [ Ok offset ↦ f room.shape offset | Err refusal ↦ refused room.shape refusal ])
unfolding in_room
in_room-is room f = refl

-- what fits is within the window
first_within : (es : List Extent) (window n p : ℕ) → first es window n ≡ Some p → rounded n ≤ window
first_within es window n p e =
    let inside : nat_le (p + rounded n) window ≡ true = both_left (nat_le (p + rounded n) window) _ (first-free es window n p e) in
    grind (arith, nat_tests, inside)

-- what may be evicted is sealed, and each copy is named once
module _ (copies : ById CopyView) where
  is_sealed_there : (q : ObjectId) → option_map_or (λ (f : CopyFacts). f.evictable) (option_map row_facts_of (at copies q)) false ≡ true → is_sealed_at copies q ≡ true
  is_sealed_there q = by (at copies q)
    where
      by : (o : Option CopyView) → option_map_or (λ (f : CopyFacts). f.evictable) (option_map row_facts_of o) false ≡ true → option_map_or (λ (k : CopyView). is_sealed k.copy.state) o false ≡ true
      by None t = t
      by (Some k) t = both_left (is_sealed k.copy.state) (is_idle_view k) (both_left (is_sealed k.copy.state && is_idle_view k) _ t)

  is_there : (q : ObjectId) → option_map_or (λ (f : CopyFacts). f.evictable) (option_map row_facts_of (at copies q)) false ≡ true → is_some (at copies q) ≡ true
  is_there q = by (at copies q)
    where
      by : (o : Option CopyView) → option_map_or (λ (f : CopyFacts). f.evictable) (option_map row_facts_of o) false ≡ true → is_some o ≡ true
      by None t = true_false t
      by (Some k) t = refl

  pub may_go : (victims : List ObjectId) → list_all (λ q. option_map_or (λ (f : CopyFacts). f.evictable) (option_map row_facts_of (at copies q)) false) victims ≡ true → IsOrderOfUse victims → MayGo copies victims
  may_go victims evictable once =
      record {
        sealed = all_weaker (λ q. option_map_or (λ (f : CopyFacts). f.evictable) (option_map row_facts_of (at copies q)) false) (is_sealed_at copies) victims is_sealed_there evictable;
        few = length-once victims copies once (all_weaker (λ q. option_map_or (λ (f : CopyFacts). f.evictable) (option_map row_facts_of (at copies q)) false) (λ q. is_some (at copies q)) victims is_there evictable);
      }

-- what isn't sealed isn't among them
pub stays_of : (copies : ById CopyView) (victims : List ObjectId) (id : ObjectId) → MayGo copies victims → is_sealed_at copies id ≡ false → is_among victims id ≡ false
stays_of copies victims id go unsealed = by (is_among victims id) refl
  where
    by : (b : Bool) → is_among victims id ≡ b → b ≡ false
    by false among = refl
    by true among = sym (each_among (is_sealed_at copies) victims go.sealed id among) ∙ unsealed

-- where a plan makes a place for n bytes
module _ (row : Row) (beside : SharedTables) (contents : Contents) (h : IsShown row beside contents) (n : ℕ) (victims : List ObjectId)
    (makes : MakesPlace (make_room row.order (shape_of row beside) n) (shape_of row beside) n victims) where
  abbrev st : Shape
  st = shape_of row beside

  -- a victim is sealed, and a secondary or backed
  pub record Goes (k : CopyView) : Type 0 where
    pub sealed : is_sealed k.copy.state ≡ true
    pub backed : is_primary k.copy.kind ≡ true → is_some k.copy.backed ≡ true

  pub goes : (q : ObjectId) (k : CopyView) → is_among victims q ≡ true → at row.copies q ≡ Some k → Goes k
  goes q k among found =
      let evictable : is_evictable st q k.copy ≡ true =
      sym (ap (λ c. option_map_or (is_evictable st q) c false) (at-copies_found row.copies q k found))
      ∙ each_among (λ q. option_map_or (is_evictable st q) (at st.copies q) false) victims makes.evictable q among in
      record {
        sealed = both_left (is_sealed k.copy.state) (is_idle st q k.copy) (both_left (is_sealed k.copy.state && is_idle st q k.copy) _ evictable);
        backed = λ p. ap (λ b. not b || is_some k.copy.backed) (sym p) ∙ both_right (is_sealed k.copy.state && is_idle st q k.copy) _ evictable;
      }

  can : CanGo victims row.copies
  can q k among found primary =
      let g = goes q k among found in
      ap (λ b. cond b Away k.copy.state) (both (is_sealed k.copy.state) (is_some k.copy.backed) g.sealed (g.backed primary))

  pub evicted_is : fold evicted st victims ≡ record st { copies = copies_of (all_evicted victims row.copies) }
  evicted_is = store_evicted st victims row.copies can

  module _ (placed : ArePlaced row.window.placed (place_of row.copies)) where
    abbrev device : DeviceRoom
    device = record { quota = row.device; used = device_used st; works = length st.works }

    -- the window's place is the store's
    pub same_place : first (extents_of (placed_without row victims)) row.window.quota n ≡ offset_without st n victims
    same_place = offset-described st row.window device (facts_at row.copies) (described row beside contents h placed device refl refl refl) n victims

    -- what has a place there isn't wider than the window
    pub size_there : 0 < n → n ≤ longest_object → is_size row.window.quota n ≡ true
    size_there some small = size_is (first (extents_of (placed_without row victims)) row.window.quota n) refl there
      where
        there : is_some (first (extents_of (placed_without row victims)) row.window.quota n) ≡ true
        there = ap is_some same_place ∙ makes.place

        size_is : (o : Option ℕ) → first (extents_of (placed_without row victims)) row.window.quota n ≡ o → is_some o ≡ true → is_size row.window.quota n ≡ true
        size_is None e t = true_false t
        size_is (Some p) e t =
            let within = first_within (extents_of (placed_without row victims)) row.window.quota n p e in
            both (nat_lt 0 n && nat_le n longest_object) _ (both (nat_lt 0 n) _ (grind (arith, nat_tests, some)) (grind (arith, nat_tests, small))) (grind (arith, nat_tests, within))

module _ (node : ℕ) (row : Row) (beside : SharedTables) (contents : Contents) (h : IsShown row beside contents) (x : Input) (quiet : BringsNothing node (seen row beside contents) x)
    (n : ℕ) (f : Shape → ℕ → Change) (by_room : step row.order (shape_of row beside) (judge node (seen row beside contents) x) ≡ erasing (shape_of row beside) (in_room (make_room row.order (shape_of row beside) n) f)) where
  abbrev s : Shape
  s = shape_of row beside

  abbrev bf : View
  bf = seen row beside contents

  pub room_is : (room : Room) → make_room row.order s n ≡ room → step row.order s (judge node bf x) ≡ erasing s (sending room.sent (elim room.offset [ Ok offset ↦ f room.shape offset | Err refusal ↦ refused room.shape refusal ]))
  room_is room is = by_room ∙ ap (erasing s) (ap (λ r. in_room r f) is ∙ in_room-is room f)

  pub room_refused : (r : Refusal) → make_room row.order s n ≡ no_room s r → RowStep node row beside contents x (only (reply.Refused r)) row beside
  room_refused r is =
      stays node row beside contents h x (reply.Refused r) (room_is (no_room s r) is ∙ ap (erasing s) (sending-is [] (refused s r)))
      (quiet.bytes (reply.Refused r)) (quiet.digests (reply.Refused r)) quiet.received

  -- that a spill failed is answered, and then forgotten
  pub failed_told : make_room row.order s n ≡ no_room (record s { spill_failed = false }) DeviceFailed → RowStep node row beside contents x (only (reply.Refused DeviceFailed)) (record row { spill_failed = false }) beside
  failed_told is =
      let response : Shape = record s { spill_failed = false } in
      moved node row beside contents h x (erasing s (refused response DeviceFailed)) (room_is (no_room response DeviceFailed) is ∙ ap (erasing s) (sending-is [] (refused response DeviceFailed)))
      (only (reply.Refused DeviceFailed)) (record row { spill_failed = false }) beside (record {
        shape = refl;
        order = sym (reordered-unused row.order (copies_of row.copies) h.there);
        there = h.there;
        listed = h.listed;
        bytes = λ q k e found lies. ap (λ b. filled (at (brought contents.bytes b) q) k.copy) (quiet.bytes (reply.Refused DeviceFailed)) ∙ same_bytes node row beside contents h x q k e found lies;
        digests = λ q k found keeps. ap (λ d. unwrap_or (at (brought contents.digests d) q) no_digest) (quiet.digests (reply.Refused DeviceFailed)) ∙ h.digests q k found keeps;
        working = h.working;
        granted = h.granted;
        received = received_stays node row beside contents h x quiet.received;
        reply = refl;
        erased = sym (ap (map (key_of row.job)) (keys_none (copies_of row.copies) (copies_of row.copies) (all_found (copies_of row.copies))));
      }) refl

  -- ---- where a place is made

  module _ (victims : List ObjectId) (makes : MakesPlace (make_room row.order s n) s n victims) where
    module _ (placed : ArePlaced row.window.placed (place_of row.copies)) where
      module _ (id : ObjectId) (k : CopyView) (nowhere : place_of row.copies id ≡ None) (kept_here : is_among victims id ≡ false)
          (offset : ℕ) (lies_there : extent_of k.copy ≡ Some (record { offset = offset; length = rounded n })) (long : k.copy.length ≡ n)
          (least : first (extents_of (placed_without row victims)) row.window.quota n ≡ Some offset) (free : lookup (nat_eq offset) (placed_without row victims) ≡ None)
          (works : List WorkInFlight) (numbers : ℕ) (used : Option ObjectId)
          (d_shape : (f (record s { copies = copies_of (all_evicted victims row.copies) }) offset).shape ≡ record s { copies = with_entry (copies_of (all_evicted victims row.copies)) id k.copy; works = works; works_asked = numbers })
          (d_used : (f (record s { copies = copies_of (all_evicted victims row.copies) }) offset).used ≡ used)
          (used_is : (u : ObjectId) → used ≡ Some u → u ≡ id) (in_order : used ≡ None → is_among row.order id ≡ true)
          (of_digest : keeps_digest k.copy ≡ true → unwrap_or (at contents.digests id) no_digest ≡ unwrap_or k.digest no_digest)
          (of_work : k.working ≡ work_on works id) (same_works : (q : ObjectId) → same_id q id ≡ false → work_on works q ≡ work_on beside.works q)
          (of_grant : k.granted ≡ has_grant beside.given id) where
        abbrev d : Change
        d = f (record s { copies = copies_of (all_evicted victims row.copies) }) offset

        abbrev sent : List Sending
        sent = map remove_location (filter (has_secondary row.copies) victims)

        abbrev pub c : Change
        c = erasing s (record d { sent = sent ++ d.sent })

        abbrev pub after : SharedTables
        after = record beside { works = works; used = numbers }

        abbrev pub new : Row
        new = replaced row used id k n offset victims

        pub change_is : step row.order s (judge node bf x) ≡ c
        change_is =
            room_is (evict_room s n victims) makes.room_is
            ∙ (λ i. erasing s (sending (evictions_told s row.copies victims i) (elim (option_map_or Ok ((sym (same_place row beside contents h n victims makes placed) ∙ least) i) (Err Full)) as (λ _. Change) [ Ok offset ↦ f (evicted_is row beside contents h n victims makes i) offset | Err refusal ↦ refused (evicted_is row beside contents h n victims makes i) refusal ])))
            ∙ ap (erasing s) (sending-is sent d)

        sorted : T (is_sorted id_cmp row.copies)
        sorted = subst T (sorted-copies row.copies) (T_true _ h.kept.kept.shape.by_id)

        copies_is : with_entry (copies_of (all_evicted victims row.copies)) id k.copy ≡ copies_of new.copies
        copies_is = sym (copies-with (all_evicted victims row.copies) id k) ∙ ap copies_of (sym (with-evicted victims row.copies id k sorted kept_here))

        now_at : (q : ObjectId) → at new.copies q ≡ cond (is_among victims q) (option_and_then evicted_of (cond (same_id q id) (Some k) (at row.copies q))) (cond (same_id q id) (Some k) (at row.copies q))
        now_at = at_now row.copies row.window.placed placed victims id k n offset nowhere kept_here lies_there free

        pub here : at new.copies id ≡ Some k
        here = id_now row.copies row.window.placed placed victims id k n offset nowhere kept_here lies_there free

        -- a copy is there still unless it was evicted
        still : (q : ObjectId) → is_some (at (copies_of row.copies) q) ≡ true → is_some (at (copies_of new.copies) q) ≡ not (is_among victims q && is_none (at new.copies q))
        still q was = ap is_some (at-copies new.copies q) ∙ mapped (at new.copies q) ∙ by (is_among victims q) refl
          where
            mapped : (o : Option CopyView) → is_some (option_map (λ (k : CopyView). k.copy) o) ≡ is_some o
            mapped None = refl
            mapped (Some k) = refl

            none_is : (o : Option CopyView) → is_some o ≡ not (is_none o)
            none_is None = refl
            none_is (Some k) = refl

            entered : (b : Bool) (o : Option CopyView) → is_some o ≡ true → is_some (cond b (Some k) o) ≡ true
            entered true o e = refl
            entered false o e = e

            by : (b : Bool) → is_among victims q ≡ b → is_some (at new.copies q) ≡ not (b && is_none (at new.copies q))
            by true t = none_is (at new.copies q)
            by false t =
                ap is_some (now_at q ∙ ap (λ b. cond b (option_and_then evicted_of (cond (same_id q id) (Some k) (at row.copies q))) (cond (same_id q id) (Some k) (at row.copies q))) t)
                ∙ entered (same_id q id) (at row.copies q) (sym (ap is_some (at-copies row.copies q) ∙ mapped (at row.copies q)) ∙ was)

        order_is : reordered row.order (copies_of new.copies) used ≡ new.order
        order_is =
            ap (λ ids. ids ++ option_to_list used) (sym (kept_order row.order (copies_of row.copies) (copies_of new.copies) used (λ q. not (is_among victims q && is_none (at new.copies q))) h.there still))
            ∙ ap (λ ids. filter (λ q. not (is_among victims q && is_none (at new.copies q))) (filter (λ q. not (is_used used q)) row.order) ++ ids) (sym (last used used_is))
            ∙ sym (filter-append (λ q. not (is_among victims q && is_none (at new.copies q))) (filter (λ q. not (is_used used q)) row.order) (option_to_list used))
          where
            last : (u : Option ObjectId) → ((w : ObjectId) → u ≡ Some w → w ≡ id) → filter (λ q. not (is_among victims q && is_none (at new.copies q))) (option_to_list u) ≡ option_to_list u
            last None is = refl
            last (Some w) is = ap (λ b. cond (not (b && is_none (at new.copies w))) (w ∷ []) []) (ap (is_among victims) (is w refl) ∙ kept_here)

        now_there : is_some (at (copies_of new.copies) id) ≡ true
        now_there = ap is_some (at-copies_found new.copies id k here)

        there_now : AreThere (copies_of new.copies) new.order
        there_now =
            subst (AreThere (copies_of new.copies)) order_is
            (list_all-append (λ q. is_some (at (copies_of new.copies) q)) _ (option_to_list used)
            ∙ both _ _ (still_there row.order (copies_of new.copies) (λ q. not (is_used used q))) (last used used_is))
          where
            last : (u : Option ObjectId) → ((w : ObjectId) → u ≡ Some w → w ≡ id) → list_all (λ q. is_some (at (copies_of new.copies) q)) (option_to_list u) ≡ true
            last None is = refl
            last (Some w) is = both _ true (ap (λ q. is_some (at (copies_of new.copies) q)) (is w refl) ∙ now_there) refl

        stands_at : (q : ObjectId) (y : CopyView) → at new.copies q ≡ Some y → Stands row.copies row.window.placed placed victims id k n offset nowhere kept_here lies_there free q y
        stands_at = stands row.copies row.window.placed placed victims id k n offset nowhere kept_here lies_there free

        listed_now : (q : ObjectId) (y : CopyView) → at new.copies q ≡ Some y → is_among new.order q ≡ true
        listed_now q y found =
            subst (λ ids. is_among ids q ≡ true) order_is
            (still_listed row.order (copies_of new.copies) used q (ap is_some (at-copies_found new.copies q y found)) (elim (stands_at q y found) [
              | inl t ↦ λ unused. of used unused (same_id-equal q id t.0) refl
              | inr w ↦ λ unused. h.listed q w.was w.found
            ]))
          where
            of : (u : Option ObjectId) → is_used u q ≡ false → q ≡ id → u ≡ used → is_among row.order q ≡ true
            of None unused same is = ap (is_among row.order) same ∙ in_order (sym is)
            of (Some w) unused same is = true_false (sym unused ∙ ap (λ v. same_id v q) (used_is w (sym is) ∙ sym same) ∙ same_id-itself q)

        no_bytes : at contents.bytes id ≡ None
        no_bytes = by (at contents.bytes id) refl
          where
            unplaced_here : (o : Option CopyView) → option_and_then (λ kept. extent_of kept.copy) o ≡ None → option_map_or (λ copy. is_some copy.offset) (option_map (λ (k : CopyView). k.copy) o) false ≡ false
            unplaced_here None e = refl
            unplaced_here (Some z) e = of z.copy.offset e
              where
                of : (p : Option ℕ) → option_map {U = Extent} (λ o. record { offset = o; length = rounded z.copy.length }) p ≡ None → is_some p ≡ false
                of None e = refl
                of (Some o) e = none_some {A = Extent} (record { offset = o; length = rounded z.copy.length }) (sym e)

            by : (o : Option (List ℕ)) → at contents.bytes id ≡ o → o ≡ None
            by None e = refl
            by (Some b) e = true_false (sym (ap (λ c. option_map_or (λ copy. is_some copy.offset) c false) (at-copies row.copies id) ∙ unplaced_here (at row.copies id) nowhere) ∙ h.kept.kept.filled.resident id (ap is_some e))

        fits : n ≤ rounded n
        fits = omega arith

        new_bytes : (e : Extent) → extent_of k.copy ≡ Some e → filled (at contents.bytes id) k.copy ≡ take k.copy.length (placed_bytes e new.window.placed)
        new_bytes e lies =
            ap (λ o. unwrap_or o (replicate k.copy.length 0)) no_bytes ∙ ap (λ m. replicate m 0) long ∙ sym (take-replicate n (rounded n) 0 fits)
            ∙ ap (λ o. take n (unwrap_or o [])) (sym (lookup-put_in (offset, replicate (rounded n) 0) (placed_without row victims)))
            ∙ ap (λ (e : Extent). take n (placed_bytes e new.window.placed)) (some_value (record { offset = offset; length = rounded n }) e (sym lies_there ∙ lies))
            ∙ ap (λ m. take m (placed_bytes e new.window.placed)) (sym long)

        bytes_at_now : (q : ObjectId) (y : CopyView) (e : Extent) → at new.copies q ≡ Some y → extent_of y.copy ≡ Some e → filled (at contents.bytes q) y.copy ≡ take y.copy.length (placed_bytes e new.window.placed)
        bytes_at_now q y e found lies = elim (stands_at q y found) [
          | inl t ↦ ap (λ i. filled (at contents.bytes i) y.copy) (same_id-equal q id t.0) ∙ subst (λ (z : CopyView). filled (at contents.bytes id) z.copy ≡ take z.copy.length (placed_bytes e new.window.placed)) t.1 (new_bytes e (ap (λ (z : CopyView). extent_of z.copy) t.1 ∙ lies))
          | inr w ↦ elim w.is [
            | inl t ↦
                same_bytes node row beside contents h x q y e (w.found ∙ ap Some t.1) lies
                ∙ ap (λ o. take y.copy.length (unwrap_or o [])) (sym (found_still row.copies row.window.placed placed victims id k n offset nowhere kept_here lies_there free q e t.0 (ap (option_and_then (λ (z : CopyView). extent_of z.copy)) (w.found ∙ ap Some t.1) ∙ lies)).1)
            | inr t ↦ none_some e (ap (λ (z : CopyView). extent_of z.copy) t.2 ∙ lies)
          ]
        ]

        -- what was sealed keeps its digest
        sealed_keeps : (copy : Copy) → is_sealed copy.state ≡ true → keeps_digest copy ≡ true
        sealed_keeps copy sealed = ap (λ b. cond b true (option_map_or (λ fetch. is_sized fetch.phase) copy.fetch false)) (by copy.state sealed)
          where
            by : (state : CopyState) → is_sealed state ≡ true → was_sealed state ≡ true
            by Created e = true_false e
            by Sealed e = refl
            by Restoring e = refl
            by Fetching e = true_false e
            by Away e = refl

        digests_now : (q : ObjectId) (y : CopyView) → at new.copies q ≡ Some y → keeps_digest y.copy ≡ true → unwrap_or (at contents.digests q) no_digest ≡ unwrap_or y.digest no_digest
        digests_now q y found keeps = elim (stands_at q y found) [
          | inl t ↦ ap (λ i. unwrap_or (at contents.digests i) no_digest) (same_id-equal q id t.0) ∙ of_digest (ap (λ (z : CopyView). keeps_digest z.copy) t.1 ∙ keeps) ∙ ap (λ (z : CopyView). unwrap_or z.digest no_digest) t.1
          | inr w ↦ elim w.is [
            | inl t ↦ h.digests q y (w.found ∙ ap Some t.1) keeps
            | inr t ↦ h.digests q w.was w.found (sealed_keeps w.was.copy (goes row beside contents h n victims makes q w.was t.0 w.found).sealed) ∙ ap (λ (z : CopyView). unwrap_or z.digest no_digest) t.2
          ]
        ]

        working_now : (q : ObjectId) (y : CopyView) → at new.copies q ≡ Some y → y.working ≡ work_on works q
        working_now q y found = elim (stands_at q y found) [
          | inl t ↦ ap (λ (z : CopyView). z.working) (sym t.1) ∙ of_work ∙ ap (work_on works) (sym (same_id-equal q id t.0))
          | inr w ↦ elim w.is [
            | inl t ↦ ap (λ (z : CopyView). z.working) (sym t.1) ∙ h.working q w.was w.found ∙ sym (same_works q w.other)
            | inr t ↦ ap (λ (z : CopyView). z.working) (sym t.2) ∙ h.working q w.was w.found ∙ sym (same_works q w.other)
          ]
        ]

        granted_now : (q : ObjectId) (y : CopyView) → at new.copies q ≡ Some y → y.granted ≡ has_grant beside.given q
        granted_now q y found = elim (stands_at q y found) [
          | inl t ↦ ap (λ (z : CopyView). z.granted) (sym t.1) ∙ of_grant ∙ ap (has_grant beside.given) (sym (same_id-equal q id t.0))
          | inr w ↦ elim w.is [
            | inl t ↦ ap (λ (z : CopyView). z.granted) (sym t.1) ∙ h.granted q w.was w.found
            | inr t ↦ ap (λ (z : CopyView). z.granted) (sym t.2) ∙ h.granted q w.was w.found
          ]
        ]

        -- what is gone is a secondary, and no secondary is on the device
        gone_unbacked : (q : ObjectId) (z : CopyView) → at row.copies q ≡ Some z → at (copies_of new.copies) q ≡ None → z.copy.backed ≡ None
        gone_unbacked q z found gone = by (same_id q id) refl (is_among victims q) (is_primary z.copy.kind) refl (sym (ap (λ o. cond (is_among victims q) (option_and_then evicted_of (cond (same_id q id) (Some k) o)) (cond (same_id q id) (Some k) o)) found) ∙ sym (now_at q) ∙ none)
          where
            none : at new.copies q ≡ None
            none = of (at new.copies q) (sym (at-copies new.copies q) ∙ gone)
              where
                of : (o : Option CopyView) → option_map (λ (k : CopyView). k.copy) o ≡ None → o ≡ None
                of None e = refl
                of (Some y) e = none_some y.copy (sym e)

            by : (b : Bool) → same_id q id ≡ b → (a p : Bool) → is_primary z.copy.kind ≡ p → cond a (option_and_then evicted_of (cond b (Some k) (Some z))) (cond b (Some k) (Some z)) ≡ None → z.copy.backed ≡ None
            by true same a p kind e = none_some k (sym (sym (here_too same) ∙ none))
              where
                here_too : same_id q id ≡ true → at new.copies q ≡ Some k
                here_too same = ap (at new.copies) (same_id-equal q id same) ∙ here
            by false same false p kind e = none_some z (sym e)
            by false same true true kind e = none_some (after_eviction z) (sym (sym (ap (λ p. cond p (Some (after_eviction z)) None) kind) ∙ e))
            by false same true false kind e = let m = h.kept.kept.shape.each q z.copy (at-copies_found row.copies q z found) in (m.secondary kind).2

        now_is : c.shape.copies ≡ copies_of new.copies
        now_is = ap (λ (t : Shape). t.copies) d_shape ∙ copies_is

        module _ (posts : List Post) where
          abbrev pub response : RowGiven
          response = record { reply = whole_reply bf x d.reply; posts = removals node row.copies victims ++ posts; erased = [] }

          pub m : TakesChange node row beside contents h x c response new after
          m = record {
            shape = d_shape ∙ ap (λ t. record s { copies = t; works = works; works_asked = numbers }) copies_is;
            order = ap (reordered row.order (copies_of new.copies)) d_used ∙ order_is;
            there = there_now;
            listed = listed_now;
            bytes = λ q y e found lies. ap (λ b. filled (at (brought contents.bytes b) q) y.copy) (quiet.bytes d.reply) ∙ bytes_at_now q y e found lies;
            digests = λ q y found keeps. ap (λ b. unwrap_or (at (brought contents.digests b) q) no_digest) (quiet.digests d.reply) ∙ digests_now q y found keeps;
            working = working_now;
            granted = granted_now;
            received = received_stays node row beside contents h x quiet.received;
            reply = refl;
            erased = sym (ap (map (key_of row.job)) (none_erased row.copies c.shape.copies sorted (λ q z found gone. gone_unbacked q z found (ap (λ t. at t q) (sym now_is) ∙ gone))));
          }

          posts_are : (ids : List ObjectId) (o : View) (more : List Sending) → flat_map (λ id. to_directory (RemoveLocation id node)) ids ++ flat_map (posts_of node o x) more ≡ flat_map (posts_of node o x) (map remove_location ids ++ more)
          posts_are [] o more = refl
          posts_are (q ∷ ids) o more = ap (λ ps. to_directory (RemoveLocation q node) ++ ps) (posts_are ids o more)

          pub placed_done : posts ≡ flat_map (posts_of node (view_after node bf x (judge node bf x) c) x) d.sent → RowStep node row beside contents x response new after
          placed_done posts_is =
              moved node row beside contents h x c change_is response new after m
              (ap (λ ps. removals node row.copies victims ++ ps) posts_is ∙ posts_are (filter (has_secondary row.copies) victims) (view_after node bf x (judge node bf x) c) d.sent)

-- whatever waited for the room
module _ (row : Row) (beside : SharedTables) (contents : Contents) (h : IsShown row beside contents) (n : ℕ) where
  pub refusal_told : (r : Refusal) → make_room row.order (shape_of row beside) n ≡ no_room (shape_of row beside) r → TellsRoom row beside contents n r row beside
  refusal_told r is = record { tells = λ node x f quiet by_room. room_refused node row beside contents h x quiet n f (by_room (ap (λ (room : Room). is_ok room.offset) is)) r is }

  pub failure_told : make_room row.order (shape_of row beside) n ≡ no_room (record (shape_of row beside) { spill_failed = false }) DeviceFailed → (now : Row) → now ≡ record row { spill_failed = false }
      → TellsRoom row beside contents n DeviceFailed now beside
  failure_told is now same = record {
    tells = λ node x f quiet by_room.
        subst (λ r. RowStep node row beside contents x (only (reply.Refused DeviceFailed)) r beside) (sym same)
        (failed_told node row beside contents h x quiet n f (by_room (ap (λ (room : Room). is_ok room.offset) is)) is);
  }
