-- What changes of copies leave, and an order of use that follows them.
use Rattle.std.proofs.Common.{◌≡◌, ℕ, nat_eq, nat_lt, Bool, true, false, not, ◌&&◌, ◌||◌, List, [], ◌∷◌, Option, Some, None, is_none, is_some, refl, sym, ap, ◌∙◌, cond, arith}
use Rattle.std.specs.Prelude.{if◌then◌else◌, reverse}
use Rattle.std.specs.Map.{keys_of}
use Rattle.std.specs.Option.{option_map, option_map_or, option_and_then}
use Rattle.std.proofs.lemmas.Bool.Decides.{nat_tests}
use Rattle.std.proofs.lemmas.List.Sorted.{list_any-IsPermutation, IsPermutation-reverse}
use Rattle.obj_id.specs.declared.ids.ObjectId.{ObjectId}
use Rattle.obj_id.specs.declared.works.Extent.{Extent}
use Rattle.obj_id.specs.Ids.{same_id}
use Rattle.obj_id.specs.Kinds.{is_primary}
use Rattle.store_facts.proofs.Ids.{same_id-equal, same_id-itself, same_id-not_back}
use Rattle.private_store.specs.rules.Tables.{ById, at, with_entry, without_entry, is_among}
use Rattle.private_store.specs.rules.Copies.{extent_of}
use Rattle.store_facts.proofs.Rows.{at-put, at-drop}
use Rattle.store_facts.proofs.Tests.{none_some, true_false}
use Rattle.lru_evictor.specs.declared.facts.EvictionInfo.{EvictionInfo}
use Rattle.lru_evictor.specs.Facts.{info_of, nowhere, info_at}
use Rattle.lru_evictor.specs.Orders.{order_ids, AllPass, OthersPass, same_bool, same_extent, same_info, info_in, may_lie, stood, begins_in, can_insert, info_with_resident}
use Rattle.lru_evictor.proofs.ForCallers.{same_standing-equal}
use Rattle.row_copy.specs.CopyViews.{CopyView, after_eviction}
use Rattle.job_row.specs.RowFacts.{row_facts_of}
use Rattle.job_row.specs.Entries.{by_rising_id, changed, each_changed}
use Rattle.job_row.specs.Evicting.{has_secondary, evicted_one, all_evicted}
use Rattle.job_row.specs.InSync.{facts_in, is_in_sync, InSync, is_in_sync_except, InSyncExcept, SameExcept, SameExceptThese, NoneIsGone, KeepPlaces, LiesAlone}
use Rattle.job_row.specs.Row.{place_of}
use Rattle.job_row.proofs.Changes.{changed-found, changed-absent}
use Rattle.job_row.proofs.Evicting.{evicted_of, at-evicted}
use Rattle.job_row.proofs.Places.{each_place}

-- ---- changes of one copy

pub put_but : (before after : ById CopyView) (id : ObjectId) (k : CopyView) → after ≡ with_entry before id k → SameExcept id before after
put_but before after id k is x apart = ap (λ t. at t x) is ∙ at-put before id k x ∙ ap (λ b. cond b (Some k) (at before x)) apart

changed_one : (f : CopyView → CopyView) (before : ById CopyView) (id : ObjectId) → SameExcept id before (changed f before id)
changed_one f before id x apart = by (at before id) refl
  where
    by : (o : Option CopyView) → at before id ≡ o → at (changed f before id) x ≡ at before x
    by None none = ap (λ t. at t x) (changed-absent f id before none)
    by (Some k) found = ap (λ t. at t x) (changed-found f id before k found) ∙ at-put before id (f k) x ∙ ap (λ b. cond b (Some (f k)) (at before x)) apart

pub changed_but : (f : CopyView → CopyView) (before after : ById CopyView) (id : ObjectId) → after ≡ changed f before id → SameExcept id before after
changed_but f before after id is x apart = ap (λ t. at t x) is ∙ changed_one f before id x apart

pub removed_but : (before after : ById CopyView) (id : ObjectId) → after ≡ without_entry before id → SameExcept id before after
removed_but before after id is x apart = ap (λ t. at t x) is ∙ at-drop before id x ∙ ap (λ b. cond (not b) (at before x) None) (same_id-not_back x id apart)

-- ---- changes of some

more : (a b : Bool) → a || b ≡ false → (a ≡ false) × (b ≡ false)
more true b h = cc
more false b h = (refl, h)

pub each_but : (f : CopyView → CopyView) (ids : List ObjectId) (before after : ById CopyView) → after ≡ each_changed f before ids → SameExceptThese ids before after
each_but f ids before after is x apart = ap (λ t. at t x) is ∙ by ids before apart
  where
    by : (ids : List ObjectId) (es : ById CopyView) → is_among ids x ≡ false → at (each_changed f es ids) x ≡ at es x
    by [] es h = refl
    by (id ∷ ids) es h =
        let both = more (same_id x id) (is_among ids x) h in
        by ids (changed f es id) both.1 ∙ changed_one f es id x both.0

pub evicted_but : (ids : List ObjectId) (before after : ById CopyView) → after ≡ all_evicted ids before → SameExceptThese ids before after
evicted_but ids before after is x apart = ap (λ t. at t x) is ∙ by ids before apart
  where
    one : (es : ById CopyView) (id : ObjectId) → same_id x id ≡ false → at (evicted_one es id) x ≡ at es x
    one es id h = elim (has_secondary es id) as (λ b. at (if b then without_entry es id else changed after_eviction es id) x ≡ at es x) [
      | true ↦ removed_but es (without_entry es id) id refl x h
      | false ↦ changed_one after_eviction es id x h
    ]

    by : (ids : List ObjectId) (es : ById CopyView) → is_among ids x ≡ false → at (all_evicted ids es) x ≡ at es x
    by [] es h = refl
    by (id ∷ ids) es h =
        let both = more (same_id x id) (is_among ids x) h in
        by ids (evicted_one es id) both.1 ∙ one es id both.0

-- what has no entry
absent : (es : List (ObjectId × CopyView)) (x : ObjectId) → is_among (keys_of es) x ≡ false → at (by_rising_id es) x ≡ None
absent [] x h = refl
absent (e ∷ es) x h =
    let both = more (same_id x e.0) (is_among (keys_of es) x) h in
    at-put (by_rising_id es) e.0 e.1 x ∙ ap (λ b. cond b (Some e.1) (at (by_rising_id es) x)) both.0 ∙ absent es x both.1

-- where each was changed
pub none_gone : (f : ObjectId → CopyView → CopyView) (before after : ById CopyView) → ((x : ObjectId) → at after x ≡ option_map (f x) (at before x)) → NoneIsGone before after
none_gone f before after is x gone = by (at before x) (sym (is x) ∙ gone)
  where
    by : (o : Option CopyView) → option_map (f x) o ≡ None → o ≡ None
    by None e = refl
    by (Some k) e = none_some (f x k) (sym e)

-- ---- infos that are the same

same_number : (n : ℕ) → nat_eq n n ≡ true
same_number n = grind (arith, nat_tests)

same_flag : (b : Bool) → same_bool b b ≡ true
same_flag true = refl
same_flag false = refl

same_place : (o : Option Extent) → same_extent o o ≡ true
same_place None = refl
same_place (Some e) = λ i. same_number e.offset i && same_number e.length i

same_itself : (s : EvictionInfo) → same_info s s ≡ true
same_itself s = λ i. same_place s.extent i && (same_flag s.classes.evictable i && (same_flag s.classes.draining i && same_flag s.classes.spillable i))

pub standing_found : (copies : ById CopyView) (id : ObjectId) (k : CopyView) → at copies id ≡ Some k → info_at (facts_in copies) id ≡ info_of (row_facts_of k)
standing_found copies id k found = ap (λ o. option_map_or info_of (option_map row_facts_of o) nowhere) found

pub is_followed-itself : (copies : ById CopyView) (id : ObjectId) (s : EvictionInfo) → s ≡ info_at (facts_in copies) id → is_in_sync copies id s ≡ true
is_followed-itself copies id s is = ap (λ t. same_info t (info_at (facts_in copies) id)) is ∙ same_itself (info_at (facts_in copies) id)

same_followed : (before after : ById CopyView) (x : ObjectId) (s : EvictionInfo) → at after x ≡ at before x → is_in_sync before x s ≡ true → is_in_sync after x s ≡ true
same_followed before after x s same h = ap (λ o. same_info s (option_map_or info_of (option_map row_facts_of o) nowhere)) same ∙ h

pub extent_there : (copies : ById CopyView) (id : ObjectId) → (info_at (facts_in copies) id).extent ≡ place_of copies id
extent_there copies id = by (at copies id)
  where
    by : (o : Option CopyView) → (option_map_or info_of (option_map row_facts_of o) nowhere).extent ≡ option_and_then (λ kept. extent_of kept.copy) o
    by None = refl
    by (Some k) = refl

-- where the order has it the copy lies
followed_lies : (copies : ById CopyView) (id : ObjectId) (s : EvictionInfo) → is_in_sync copies id s ≡ true → s.extent ≡ place_of copies id
followed_lies copies id s h = ap (λ t. t.extent) (same_standing-equal s (info_at (facts_in copies) id) h) ∙ extent_there copies id

-- ---- changes that leave copies where they lie, or take them away

stays_put : (o : Option Extent) → may_lie o o ≡ true
stays_put None = refl
stays_put (Some e) = same_place (Some e)

-- a change of one copy that does
abbrev pub KeepsPlace : (CopyView → CopyView) → Type 0
KeepsPlace f = (z : CopyView) → may_lie (extent_of z.copy) (extent_of (f z).copy) ≡ true

pub lies_keeps : (f : CopyView → CopyView) → ((z : CopyView) → extent_of (f z).copy ≡ extent_of z.copy) → KeepsPlace f
lies_keeps f lies z = ap (may_lie (extent_of z.copy)) (lies z) ∙ stays_put (extent_of z.copy)

abbrev lies : Option CopyView → Option Extent
lies o = option_and_then (λ kept. extent_of kept.copy) o

pub changed_keep : (f : CopyView → CopyView) → KeepsPlace f → (before after : ById CopyView) (id : ObjectId) → after ≡ changed f before id → KeepPlaces before after
changed_keep f keeps before after id is x = ap (λ t. may_lie (place_of before x) (place_of t x)) is ∙ by (at before id) refl
  where
    by : (o : Option CopyView) → at before id ≡ o → may_lie (place_of before x) (place_of (changed f before id) x) ≡ true
    by None none = ap (λ t. may_lie (place_of before x) (place_of t x)) (changed-absent f id before none) ∙ stays_put (place_of before x)
    by (Some k) found =
        ap (λ t. may_lie (place_of before x) (place_of t x)) (changed-found f id before k found)
        ∙ ap (λ o. may_lie (place_of before x) (lies o)) (at-put before id (f k) x) ∙ here (same_id x id) refl
      where
        here : (b : Bool) → same_id x id ≡ b → may_lie (place_of before x) (lies (cond b (Some (f k)) (at before x))) ≡ true
        here true t = ap (λ o. may_lie (lies o) (extent_of (f k).copy)) (ap (at before) (same_id-equal x id t) ∙ found) ∙ keeps k
        here false t = stays_put (place_of before x)

pub each_keep : (f : CopyView → CopyView) → ((z : CopyView) → extent_of (f z).copy ≡ extent_of z.copy) → (ids : List ObjectId) (before after : ById CopyView) → after ≡ each_changed f before ids → KeepPlaces before after
each_keep f same ids before after is x = ap (λ t. may_lie (place_of before x) (place_of t x)) is ∙ ap (may_lie (place_of before x)) (each_place f same ids before x) ∙ stays_put (place_of before x)

pub all_keep : (f : ObjectId → CopyView → CopyView) → ((x : ObjectId) → KeepsPlace (f x)) → (before after : ById CopyView) → ((x : ObjectId) → at after x ≡ option_map (f x) (at before x)) → KeepPlaces before after
all_keep f keeps before after is x = ap (λ o. may_lie (place_of before x) (lies o)) (is x) ∙ by (at before x)
  where
    by : (o : Option CopyView) → may_lie (lies o) (lies (option_map (f x) o)) ≡ true
    by None = refl
    by (Some k) = keeps x k

pub evicted_keep : (ids : List ObjectId) (before after : ById CopyView) → after ≡ all_evicted ids before → KeepPlaces before after
evicted_keep ids before after is x =
    ap (λ t. may_lie (place_of before x) (place_of t x)) is
    ∙ ap (λ o. may_lie (place_of before x) (lies o)) (at-evicted ids before x) ∙ by (is_among ids x) (at before x)
  where
    kind : (k : CopyView) (primary : Bool) → may_lie (extent_of k.copy) (lies (cond primary (Some (after_eviction k)) None)) ≡ true
    kind k true = refl
    kind k false = refl

    by : (b : Bool) (o : Option CopyView) → may_lie (lies o) (lies (cond b (option_and_then evicted_of o) o)) ≡ true
    by false o = stays_put (lies o)
    by true None = refl
    by true (Some k) = kind k (is_primary k.copy.kind)

-- ---- what the order has of one

known : (test : ObjectId → EvictionInfo → Bool) (id : ObjectId) (order : List (ObjectId × EvictionInfo)) → AllPass test order → is_among (order_ids order) id ≡ true → test id (info_in id order) ≡ true
known test id order all among = by order all (list_any-IsPermutation (same_id id) (keys_of order) (reverse (keys_of order)) (IsPermutation-reverse (keys_of order)) ∙ among)
  where
    by : (order : List (ObjectId × EvictionInfo)) → AllPass test order → is_among (keys_of order) id ≡ true → test id (info_in id order) ≡ true
    by [] h t = true_false t
    by (e ∷ es) h t = here (same_id id e.0) refl (by es h.1) t
      where
        here : (b : Bool) → same_id id e.0 ≡ b → (is_among (keys_of es) id ≡ true → test id (info_in id es) ≡ true) → b || is_among (keys_of es) id ≡ true → test id (if b then e.1 else info_in id es) ≡ true
        here true same later t = ap (λ x. test x e.1) (same_id-equal id e.0 same) ∙ h.0
        here false same later t = later t

-- ---- an order that is told of copies one after another

-- as `is_in_sync_except`, or the copy is one of those that are left, and may stand as it does
abbrev pub is_waiting : List ObjectId → List ObjectId → ById CopyView → ObjectId → EvictionInfo → Bool
is_waiting left spared copies id s =
    if is_among spared id then is_none s.extent else (is_among left id && may_lie s.extent (info_at (facts_in copies) id).extent || is_in_sync copies id s)

pub waits : (ids spared : List ObjectId) (before after : ById CopyView) → SameExceptThese ids before after → KeepPlaces before after → (order : List (ObjectId × EvictionInfo)) → InSyncExcept spared before order → AllPass (is_waiting ids spared after) order
waits ids spared before after same keep [] h = tt
waits ids spared before after same keep (e ∷ es) h =
    (either (is_among spared e.0) (is_among ids e.0) (may_lie e.1.extent (info_at (facts_in after) e.0).extent) (is_none e.1.extent) (is_in_sync before e.0 e.1) (is_in_sync after e.0 e.1) may (λ apart. same_followed before after e.0 e.1 (same e.0 apart)) h.0, waits ids spared before after same keep es h.1)
  where
    either : (spared among may none was is : Bool) → (was ≡ true → may ≡ true) → (among ≡ false → was ≡ true → is ≡ true) → cond spared none was ≡ true → cond spared none ((among && may) || is) ≡ true
    either true among may none was is f g h = h
    either false true true none was is f g h = refl
    either false true false none was is f g h = true_false (f h)
    either false false may none was is f g h = g refl h

    may : is_in_sync before e.0 e.1 ≡ true → may_lie e.1.extent (info_at (facts_in after) e.0).extent ≡ true
    may h = (λ i. may_lie (followed_lies before e.0 e.1 h i) (extent_there after e.0 i)) ∙ keep e.0

-- all that is left
pub waits_for_all : (es : List (ObjectId × CopyView)) (before now : ById CopyView) → by_rising_id es ≡ now → NoneIsGone before now → KeepPlaces before now → (order : List (ObjectId × EvictionInfo)) → InSync before order → AllPass (is_waiting (keys_of es) [] now) order
waits_for_all es before now seen none keep order h = waits (keys_of es) [] before now same keep order h
  where
    same : SameExceptThese (keys_of es) before now
    same x apart = let gone : at now x ≡ None = ap (λ t. at t x) (sym seen) ∙ absent es x apart in gone ∙ sym (none x gone)

-- what is told of one, and what it comes to
abbrev pub Tells : ObjectId → List (ObjectId × EvictionInfo) → EvictionInfo → List (ObjectId × EvictionInfo) → Type 0
Tells id order s new = (test : ObjectId → EvictionInfo → Bool) → OthersPass id test order → (is_among (order_ids order) id ≡ true → test id s ≡ true) → AllPass test new

-- what lies nowhere comes to lie nowhere
nowhere_still : (before after : Option Extent) → is_none before ≡ true → may_lie before after ≡ true → is_none after ≡ true
nowhere_still None None none may = refl
nowhere_still None (Some e) none may = true_false may
nowhere_still (Some e) after none may = true_false none

module _ (id : ObjectId) (left spared : List ObjectId) (copies : ById CopyView) (s : EvictionInfo) (is : s ≡ info_at (facts_in copies) id) where
  others : (order : List (ObjectId × EvictionInfo)) → AllPass (is_waiting (id ∷ left) spared copies) order → OthersPass id (is_waiting left spared copies) order
  others [] h = tt
  others (e ∷ es) h =
      (λ apart. ap (λ b. cond (is_among spared e.0) (is_none e.1.extent) (((b || is_among left e.0) && may_lie e.1.extent (info_at (facts_in copies) e.0).extent) || is_in_sync copies e.0 e.1)) (sym (same_id-not_back id e.0 apart)) ∙ h.0, others es h.1)

  here : (before : EvictionInfo) → is_waiting (id ∷ left) spared copies id before ≡ true → is_waiting left spared copies id (stood before s) ≡ true
  here before h = by (may_lie before.extent s.extent) refl
    where
      last : (a b : Bool) → b ≡ true → a || b ≡ true
      last true b h = refl
      last false b h = h

      told_so : may_lie before.extent s.extent ≡ true → (spares : Bool) → cond spares (is_none before.extent) (((same_id id id || is_among left id) && may_lie before.extent (info_at (facts_in copies) id).extent) || is_in_sync copies id before) ≡ true
          → cond spares (is_none s.extent) ((is_among left id && may_lie s.extent (info_at (facts_in copies) id).extent) || is_in_sync copies id s) ≡ true
      told_so may true h = nowhere_still before.extent s.extent h may
      told_so may false h = last (is_among left id && may_lie s.extent (info_at (facts_in copies) id).extent) (is_in_sync copies id s) (is_followed-itself copies id s is)

      no_more : (spares itself among may none is : Bool) → may ≡ false → cond spares none (((itself || among) && may) || is) ≡ true → cond spares none ((among && may) || is) ≡ true
      no_more true itself among may none is not h = h
      no_more false true true may none is not h = h
      no_more false false true may none is not h = h
      no_more false true false true none is not h = true_false (sym not)
      no_more false true false false none is not h = h
      no_more false false false may none is not h = h

      by : (b : Bool) → may_lie before.extent s.extent ≡ b → is_waiting left spared copies id (if b then s else before) ≡ true
      by true may = told_so may (is_among spared id) h
      by false may =
          no_more (is_among spared id) (same_id id id) (is_among left id) (may_lie before.extent (info_at (facts_in copies) id).extent) (is_none before.extent) (is_in_sync copies id before)
          (ap (λ t. may_lie before.extent t.extent) (sym is) ∙ may) h

  pub response : (order new : List (ObjectId × EvictionInfo)) → Tells id order (stood (info_in id order) s) new → AllPass (is_waiting (id ∷ left) spared copies) order → AllPass (is_waiting left spared copies) new
  response order new tells h = tells (is_waiting left spared copies) (others order h) (λ among. here (info_in id order) (known (is_waiting (id ∷ left) spared copies) id order h among))

-- one, and no other
pub told_alone : (id : ObjectId) (before after : ById CopyView) (s : EvictionInfo) (order new : List (ObjectId × EvictionInfo)) → s ≡ info_at (facts_in after) id → Tells id order (stood (info_in id order) s) new
    → SameExcept id before after → KeepPlaces before after → InSync before order → InSync after new
told_alone id before after s order new is tells same keep h =
    response id [] [] after s is order new tells (waits (id ∷ []) [] before after (λ x apart. same x (more (same_id x id) false apart).0) keep order h)

-- an order that is told what one copy is after a change
module _ (f : CopyView → CopyView) (id : ObjectId) (before after : ById CopyView) (is : after ≡ changed f before id) (s : EvictionInfo) (stands : s ≡ info_at (facts_in after) id) (order new : List (ObjectId × EvictionInfo))
    (tells : Tells id order (stood (info_in id order) s) new) where
  pub one_changed : KeepsPlace f → InSync before order → InSync after new
  one_changed keeps h = told_alone id before after s order new stands tells (changed_but f before after id is) (changed_keep f keeps before after id is) h

  pub one_stays : ((z : CopyView) → extent_of (f z).copy ≡ extent_of z.copy) → InSync before order → InSync after new
  one_stays same h = one_changed (lies_keeps f same) h

-- ---- the others

-- what holds whatever the id
pub all_others : (id : ObjectId) (test : ObjectId → EvictionInfo → Bool) (order : List (ObjectId × EvictionInfo)) → AllPass test order → OthersPass id test order
all_others id test [] h = tt
all_others id test (e ∷ es) h = (λ apart. h.0, all_others id test es h.1)

pub others_still : (id : ObjectId) (before after : ById CopyView) → SameExcept id before after → (order : List (ObjectId × EvictionInfo)) → OthersPass id (is_in_sync before) order → OthersPass id (is_in_sync after) order
others_still id before after same [] h = tt
others_still id before after same (e ∷ es) h = (λ apart. same_followed before after e.0 e.1 (same e.0 (same_id-not_back id e.0 apart)) (h.0 apart), others_still id before after same es h.1)

pub others_followed : (id : ObjectId) (before after : ById CopyView) → SameExcept id before after → (order : List (ObjectId × EvictionInfo)) → InSync before order → OthersPass id (is_in_sync after) order
others_followed id before after same order h = others_still id before after same order (all_others id (is_in_sync before) order h)

pub one_spared : (id : ObjectId) (copies : ById CopyView) (order : List (ObjectId × EvictionInfo)) → InSyncExcept (id ∷ []) copies order → OthersPass id (is_in_sync copies) order
one_spared id copies [] h = tt
one_spared id copies (e ∷ es) h = (λ apart. ap (λ b. cond (b || false) (is_none e.1.extent) (is_in_sync copies e.0 e.1)) (sym (same_id-not_back id e.0 apart)) ∙ h.0, one_spared id copies es h.1)

-- ---- one copy that the order isn't told of yet

-- it had no place
pub placed_unknown : (id : ObjectId) (before after : ById CopyView) → SameExcept id before after → place_of before id ≡ None → (order : List (ObjectId × EvictionInfo)) → InSync before order → InSyncExcept (id ∷ []) after order
placed_unknown id before after same none [] h = tt
placed_unknown id before after same none (e ∷ es) h = (by (same_id e.0 id) refl, placed_unknown id before after same none es h.1)
  where
    by : (b : Bool) → same_id e.0 id ≡ b → cond (b || false) (is_none e.1.extent) (is_in_sync after e.0 e.1) ≡ true
    by true t = ap is_none (followed_lies before e.0 e.1 h.0 ∙ ap (place_of before) (same_id-equal e.0 id t) ∙ none)
    by false t = same_followed before after e.0 e.1 (same e.0 t) h.0

-- it was used, and lies nowhere as far as the order knows
pub entered_unknown : (id : ObjectId) (before after : ById CopyView) → SameExcept id before after → at before id ≡ None → (order new : List (ObjectId × EvictionInfo))
    → ((test : ObjectId → EvictionInfo → Bool) → OthersPass id test order → test id nowhere ≡ true → AllPass test new) → InSync before order → InSyncExcept (id ∷ []) after new
entered_unknown id before after same none order new entered h =
    entered (is_in_sync_except (id ∷ []) after) (all_others id (is_in_sync_except (id ∷ []) after) order (placed_unknown id before after same (ap lies none) order h))
    (ap (λ b. cond (b || false) true (is_in_sync after id nowhere)) (same_id-itself id))

-- it is told now, where the copy lies alone
module _ (id : ObjectId) (copies : ById CopyView) (e : Extent) (h : LiesAlone copies id e) where
  clear : (order : List (ObjectId × EvictionInfo)) → InSyncExcept (id ∷ []) copies order → begins_in e.offset order ≡ false
  clear [] followed = refl
  clear (x ∷ xs) followed = λ i. by (same_id x.0 id) refl followed.0 i || clear xs followed.1 i
    where
      begins : Option Extent → Bool
      begins o = option_map_or (λ (f : Extent). nat_eq e.offset f.offset) o false

      unplaced_one : (o : Option Extent) → is_none o ≡ true → begins o ≡ false
      unplaced_one None none = refl
      unplaced_one (Some f) none = true_false none

      level : (m n : ℕ) → nat_eq m n ≡ true → n ≡ m
      level m n t = grind (arith, nat_tests, t)

      other : same_id x.0 id ≡ false → (o : Option Extent) → place_of copies x.0 ≡ o → begins o ≡ false
      other apart None there = refl
      other apart (Some f) there = elim (nat_eq e.offset f.offset) as (λ b. nat_eq e.offset f.offset ≡ b → b ≡ false) [
        | true ↦ λ t. true_false (sym apart ∙ ap (λ y. same_id y id) (h.apart x.0 f there (level e.offset f.offset t)) ∙ same_id-itself id)
        | false ↦ λ t. refl
      ] refl

      by : (b : Bool) → same_id x.0 id ≡ b → cond (b || false) (is_none x.1.extent) (is_in_sync copies x.0 x.1) ≡ true → begins x.1.extent ≡ false
      by true same none = unplaced_one x.1.extent none
      by false apart known = other apart x.1.extent (sym (followed_lies copies x.0 x.1 known))

  pub told_settled : (s : EvictionInfo) (order new : List (ObjectId × EvictionInfo)) → s ≡ info_at (facts_in copies) id
      → Tells id order (info_with_resident (info_in id order) (record { extent = e; classes = s.classes }) order) new → InSyncExcept (id ∷ []) copies order → InSync copies new
  told_settled s order new is tells followed =
      tells (is_in_sync copies) (one_spared id copies order followed) (λ among. ap (λ b. is_in_sync copies id (if b then after else info_in id order)) (can among) ∙ placed)
    where
      after : EvictionInfo
      after = record { extent = Some e; classes = s.classes }

      placed : is_in_sync copies id after ≡ true
      placed = is_followed-itself copies id after (λ i. record { extent = (sym h.lies ∙ sym (extent_there copies id)) i; classes = (is i).classes })

      unplaced_still : (o : Option Extent) → is_none o ≡ true → not (is_some o) ≡ true
      unplaced_still None none = refl
      unplaced_still (Some f) none = none

      can : is_among (order_ids order) id ≡ true → can_insert (info_in id order) (record { extent = e; classes = s.classes }) order ≡ true
      can among =
          let after_eviction = unplaced_still (info_in id order).extent
          (ap (λ b. cond (b || false) (is_none (info_in id order).extent) (is_in_sync copies id (info_in id order))) (sym (same_id-itself id)) ∙ known (is_in_sync_except (id ∷ []) copies) id order followed among) in
          let low : nat_lt e.offset 536870912 ≡ true = grind (arith, nat_tests, h.small) in
          let short : nat_lt e.length 4294967296 ≡ true = grind (arith, nat_tests, h.small) in
          λ i. after_eviction i && (low i && (short i && not (clear order followed i)))
