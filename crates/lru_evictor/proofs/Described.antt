-- What the window and the facts of copies say of the store that they describe.
use Rattle.std.proofs.Common.{◌≡◌, ℕ, ◌+◌, Bool, true, false, not, ◌&&◌, ◌||◌, List, [], ◌∷◌, Option, Some, None, refl, sym, ap, subst, ◌∙◌, cond, nat_eq, is_some, filter, Contains, sum, map}
use Rattle.std.specs.Prelude.{◌↔◌, nat_le, filter_map}
use Rattle.std.specs.List.{list_all, AllByRecursion}
use Rattle.std.specs.List.{cons_option}
use Rattle.std.specs.Option.{option_map, option_map_or, option_and_then}
use Rattle.std.specs.Ordering.{is_eq, is_lt, ordering_reverse}
use Rattle.std.specs.declared.cmp.Ordering.{Ordering}
use Rattle.std.specs.declared.cmp.Ordering.TheVariants.{Less, Equal, Greater}
use Rattle.std.specs.FinMap.Entries.{below_all, is_sorted}
use Rattle.std.specs.Cmp.{tied_itself}
use Rattle.std.proofs.lemmas.Bool.Decides.{nat_tests}
use Rattle.std.proofs.Common.{arith}
use Rattle.std.proofs.lemmas.List.Elements.{All-contains, All-contains_itself}
use Rattle.std.proofs.lemmas.List.Sums.{AllPass-from_list_all, list_all-from_AllPass}
use Rattle.obj_id.specs.declared.ids.ObjectId.{ObjectId}
use Rattle.obj_id.specs.declared.works.Extent.{Extent}
use Rattle.obj_id.specs.Ids.{id_cmp, same_id}
use Rattle.store_facts.proofs.Ids.{id_cmp-IsTotalOrder, same_id-equal}
use Rattle.private_store.specs.rules.Tables.{ById, at, is_among}
use Rattle.private_store.specs.rules.Extents.{rounded, is_apart, first}
use Rattle.private_store.specs.rules.Shape.{Copy, Shape}
use Rattle.private_store.specs.rules.Copies.{extent_of, is_evictable, is_draining, is_spillable}
use Rattle.private_store.specs.rules.Room.{in_order, offset_without, bytes_of_copies}
use Rattle.job_region.specs.Region.{Region, extents_of, without}
use Rattle.lru_evictor.specs.declared.facts.DeviceRoom.{DeviceRoom}
use Rattle.use_tree.specs.declared.classes.VictimClass.{VictimClass}
use Rattle.use_tree.specs.declared.classes.VictimClass.TheVariants.{Evictable, Draining, Spillable}
use Rattle.lru_evictor.specs.Facts.{Looked, passes, passes_at, chosen, gone_of, fits_without, device_bytes_at, spilled_bytes}
use Rattle.lru_evictor.specs.Plans.{IsDescribed, facts_of, extents_in}
use Rattle.lru_evictor.proofs.Truths.{each}
use Rattle.lru_evictor.proofs.Free.{goes, all-left, first-same}

-- tests that imply each other give the same answer
pub both_ways : (a b : Bool) → (a ≡ true → b ≡ true) → (b ≡ true → a ≡ true) → a ≡ b
both_ways true b f g = sym (f refl)
both_ways false true f g = sym (sym (g refl))
both_ways false false f g = refl

-- lists of the same items pass a test alike
pub all_within : {X : Type 0} (p : X → Bool) (xs ys : List X) → ((x : X) → Contains ys x → Contains xs x) → list_all p xs ≡ true → list_all p ys ≡ true
all_within p xs ys sub h = list_all-from_AllPass p ys (λ k d lt. All-contains (λ x. p x ≡ true) xs _ (AllPass-from_list_all p xs h) (sub _ (All-contains_itself ys k d lt)))

pub all_same : {X : Type 0} (p : X → Bool) (xs ys : List X) → ((x : X) → Contains xs x ↔ Contains ys x) → list_all p xs ≡ list_all p ys
all_same p xs ys h = both_ways (list_all p xs) (list_all p ys) (all_within p xs ys (λ x. (h x).1)) (all_within p ys xs (λ x. (h x).0))

-- ---- an entry of a sorted table is found

abbrev pub IsFound : ById Copy → (ObjectId × Copy) → Type 0
IsFound es e = at es e.0 ≡ Some e.1

above : (r s : Ordering) → r ≡ ordering_reverse s → is_lt s ≡ true → is_eq r ≡ false
above r Less e h = ap is_eq e
above r Equal e h = cc
above r Greater e h = cc

later : (e : ObjectId × Copy) (es xs : ById Copy) → below_all id_cmp e.0 xs ≡ true → AllByRecursion (IsFound es) xs → AllByRecursion (IsFound (e ∷ es)) xs
later e es [] below h = tt
later e es (x ∷ xs) below h =
    let here = each (is_lt (id_cmp e.0 x.0)) (below_all id_cmp e.0 xs) below in
    (ap (λ b. cond b (Some e.1) (at es x.0)) (above (id_cmp x.0 e.0) (id_cmp e.0 x.0) (id_cmp-IsTotalOrder.antisymm x.0 e.0) here.0) ∙ h.0, later e es xs here.1 h.1)

pub each_found : (es : ById Copy) → is_sorted id_cmp es ≡ true → AllByRecursion (IsFound es) es
each_found [] h = tt
each_found (e ∷ es) h =
    let here = each (below_all id_cmp e.0 es) (is_sorted id_cmp es) h in
    (ap (λ r. cond (is_eq r) (Some e.1) (at es e.0)) (tied_itself id_cmp-IsTotalOrder e.0), later e es es here.0 (each_found es here.1))

-- ---- tests of what is left

pub all_kept : (test : Extent → Bool) (out : List ObjectId) (es : ById Copy) →
    list_all test (filter_map (λ e. extent_of e.1) (filter (λ e. not (is_among out e.0)) es)) ≡ list_all (λ e. is_among out e.0 || option_map_or test (extent_of e.1) true) es
all_kept test out [] = refl
all_kept test out (e ∷ es) =
    elim (is_among out e.0) as (λ b. list_all test (filter_map (λ e. extent_of e.1) (cond (not b) (e ∷ filter (λ e. not (is_among out e.0)) es) (filter (λ e. not (is_among out e.0)) es)))
    ≡ (b || option_map_or test (extent_of e.1) true) && list_all (λ e. is_among out e.0 || option_map_or test (extent_of e.1) true) es) [
      | true ↦ all_kept test out es
      | false ↦ tested (extent_of e.1) (all_kept test out es)
    ]
  where
    tested : (o : Option Extent) → list_all test (filter_map (λ e. extent_of e.1) (filter (λ e. not (is_among out e.0)) es)) ≡ list_all (λ e. is_among out e.0 || option_map_or test (extent_of e.1) true) es
        → list_all test (cons_option o (filter_map (λ e. extent_of e.1) (filter (λ e. not (is_among out e.0)) es))) ≡ option_map_or test o true && list_all (λ e. is_among out e.0 || option_map_or test (extent_of e.1) true) es
    tested None h = h
    tested (Some x) h = ap (λ b. test x && b) h

pub all_of : (test : Extent → Bool) (es : ById Copy) → list_all test (filter_map (λ e. extent_of e.1) es) ≡ list_all (λ e. option_map_or test (extent_of e.1) true) es
all_of test [] = refl
all_of test (e ∷ es) = by (extent_of e.1) (all_of test es)
  where
    by : (o : Option Extent) → list_all test (filter_map (λ e. extent_of e.1) es) ≡ list_all (λ e. option_map_or test (extent_of e.1) true) es
        → list_all test (cons_option o (filter_map (λ e. extent_of e.1) es)) ≡ option_map_or test o true && list_all (λ e. option_map_or test (extent_of e.1) true) es
    by None h = h
    by (Some x) h = ap (λ b. test x && b) h

-- tests that agree on each entry
pub all_agree : (p q : ObjectId × Copy → Bool) (es : ById Copy) → AllByRecursion (λ e. p e ≡ q e) es → list_all p es ≡ list_all q es
all_agree p q [] h = refl
all_agree p q (e ∷ es) h = λ i. h.0 i && all_agree p q es h.1 i

pub each_agrees : {P Q : ObjectId × Copy → Type 0} → ((e : ObjectId × Copy) → P e → Q e) → (es : ById Copy) → AllByRecursion P es → AllByRecursion Q es
each_agrees f [] h = tt
each_agrees f (e ∷ es) h = (f e h.0, each_agrees f es h.1)

offset_of : (copy : Copy) (e : Extent) → extent_of copy ≡ Some e → copy.offset ≡ Some e.offset
offset_of copy e h = by copy.offset h
  where
    by : (o : Option ℕ) → option_map (λ n. record { offset = n; length = rounded copy.length }) o ≡ Some e → o ≡ Some e.offset
    by None h = cc
    by (Some n) h = ap (option_map (λ (x : Extent). x.offset)) h

some_same : {X : Type 0} (o : Option X) (x y : X) → o ≡ Some x → o ≡ Some y → x ≡ y
some_same o x y e f = let both : Some x ≡ Some y = sym e ∙ f in cc

module _ (store : Shape) (window : Region) (device : DeviceRoom) (facts : Looked) (described : IsDescribed store window device facts) where
  -- ---- one copy that goes

  -- whether the copy of x goes from this offset
  abbrev goes_with : ℕ → ObjectId → Bool
  goes_with o x = option_map_or (λ g. nat_eq g.offset o) (option_and_then (λ copy. copy.extent) (facts x)) false

  goes-cons : (o : ℕ) (x : ObjectId) (out : List ObjectId) → goes (gone_of facts (x ∷ out)) o ≡ goes_with o x || goes (gone_of facts out) o
  goes-cons o x out = by (option_and_then (λ copy. copy.extent) (facts x))
    where
      by : (r : Option Extent) → goes (cons_option r (gone_of facts out)) o ≡ option_map_or (λ g. nat_eq g.offset o) r false || goes (gone_of facts out) o
      by None = refl
      by (Some g) = refl

  module _ (id : ObjectId) (copy : Copy) (e : Extent) (found : at store.copies id ≡ Some copy) (lies : extent_of copy ≡ Some e) where
    -- a copy that lies there has this id
    goes_with-same : (x : ObjectId) → goes_with e.offset x ≡ same_id id x
    goes_with-same x = both_ways (goes_with e.offset x) (same_id id x) there (λ t. subst (λ y. goes_with e.offset y ≡ true) (same_id-equal id x t) here)
      where
        here : goes_with e.offset id ≡ true
        here =
            ap (λ r. option_map_or (λ g. nat_eq g.offset e.offset) (option_and_then (λ c. c.extent) r) false) (described.looked id ∙ ap (option_map (facts_of store id)) found)
            ∙ ap (λ r. option_map_or (λ g. nat_eq g.offset e.offset) r false) lies ∙ grind (arith, nat_tests)

        same : x ≡ id → same_id id x ≡ true
        same h = subst (λ y. same_id id y ≡ true) (sym h) (ap is_eq (tied_itself id_cmp-IsTotalOrder id))

        at_extent : (y : Copy) → at store.copies x ≡ Some y → (r : Option Extent) → extent_of y ≡ r → option_map_or (λ g. nat_eq g.offset e.offset) r false ≡ true → same_id id x ≡ true
        at_extent y h None k t = cc
        at_extent y h (Some g) k t =
            let level : g.offset ≡ e.offset = grind (arith, nat_tests, t) in
            same (described.offsets x id y copy e.offset h found (offset_of y g k ∙ ap Some level) (offset_of copy e lies))

        at_copy : (r : Option Copy) → at store.copies x ≡ r → option_map_or (λ g. nat_eq g.offset e.offset) (option_and_then (λ c. c.extent) (option_map (facts_of store x) r)) false ≡ true → same_id id x ≡ true
        at_copy None h t = cc
        at_copy (Some y) h t = at_extent y h (extent_of y) refl t

        there : goes_with e.offset x ≡ true → same_id id x ≡ true
        there t = at_copy (at store.copies x) refl (ap (λ r. option_map_or (λ g. nat_eq g.offset e.offset) (option_and_then (λ c. c.extent) r) false) (sym (described.looked x)) ∙ t)

    -- an extent goes exactly with its own copy
    pub goes-among : (out : List ObjectId) → goes (gone_of facts out) e.offset ≡ is_among out id
    goes-among [] = refl
    goes-among (x ∷ out) = goes-cons e.offset x out ∙ (λ i. goes_with-same x i || goes-among out i)

  -- ---- all that is left

  module _ (n : ℕ) (out : List ObjectId) where
    pub same_tests : (test : Extent → Bool) → list_all test (extents_of (without (gone_of facts out) window.placed))
        ≡ list_all test (filter_map (λ e. extent_of e.1) (filter (λ e. not (is_among out e.0)) store.copies))
    same_tests test =
        all-left test (gone_of facts out) window.placed
        ∙ all_same (λ x. goes (gone_of facts out) x.offset || test x) (extents_of window.placed) (extents_in store) described.extents
        ∙ all_of (λ x. goes (gone_of facts out) x.offset || test x) store.copies
        ∙ all_agree (λ e. option_map_or (λ x. goes (gone_of facts out) x.offset || test x) (extent_of e.1) true) (λ e. is_among out e.0 || option_map_or test (extent_of e.1) true) store.copies
        (each_agrees agrees store.copies (each_found store.copies described.by_id))
        ∙ sym (all_kept test out store.copies)
      where
        always : (b : Bool) → true ≡ b || true
        always true = refl
        always false = refl

        agrees : (e : ObjectId × Copy) → at store.copies e.0 ≡ Some e.1 → option_map_or (λ x. goes (gone_of facts out) x.offset || test x) (extent_of e.1) true ≡ is_among out e.0 || option_map_or test (extent_of e.1) true
        agrees e found = by (extent_of e.1) refl
          where
            by : (o : Option Extent) → extent_of e.1 ≡ o → option_map_or (λ x. goes (gone_of facts out) x.offset || test x) o true ≡ is_among out e.0 || option_map_or test o true
            by None h = always (is_among out e.0)
            by (Some x) h = ap (λ b. b || test x) (goes-among e.0 e.1 x found h out)

    -- without these copies the bytes go where they go in the store
    pub offset-described : first (extents_of (without (gone_of facts out) window.placed)) window.quota n ≡ offset_without store n out
    offset-described =
        let left : List Extent = extents_of (without (gone_of facts out) window.placed) in
        let kept : List Extent = filter_map (λ e. extent_of e.1) (filter (λ e. not (is_among out e.0)) store.copies) in
        first-same left kept window.quota n (λ o. ap (λ b. nat_le (o + rounded n) window.quota && b) (same_tests (is_apart (record { offset = o; length = rounded n }))))
        ∙ ap (λ q. first kept q n) described.quota

    -- the window has room without them exactly where the store has
    pub fits-described : fits_without window facts n out ≡ is_some (offset_without store n out)
    fits-described = ap is_some offset-described

  -- ---- what is chosen, and its bytes

  chosen_by : (class : VictimClass) (test : ObjectId → Copy → Bool) → ((id : ObjectId) (copy : Copy) → passes class (facts_of store id copy) ≡ test id copy)
      → (order : List ObjectId) → chosen facts class order ≡ in_order store order test
  chosen_by class test h order = λ i. filter (λ id. passes-at id i) order
    where
      over : (id : ObjectId) (r : Option Copy) → option_map_or (passes class) (option_map (facts_of store id) r) false ≡ option_map_or (test id) r false
      over id None = refl
      over id (Some copy) = h id copy

      passes-at : (id : ObjectId) → passes_at facts class id ≡ option_map_or (test id) (at store.copies id) false
      passes-at id = ap (λ r. option_map_or (passes class) r false) (described.looked id) ∙ over id (at store.copies id)

  pub chosen-evictable : (order : List ObjectId) → chosen facts Evictable order ≡ in_order store order (is_evictable store)
  chosen-evictable = chosen_by Evictable (is_evictable store) (λ id copy. refl)

  pub chosen-draining : (order : List ObjectId) → chosen facts Draining order ≡ in_order store order (is_draining store)
  chosen-draining = chosen_by Draining (is_draining store) (λ id copy. refl)

  pub chosen-spillable : (order : List ObjectId) → chosen facts Spillable order ≡ in_order store order (is_spillable store)
  chosen-spillable = chosen_by Spillable (is_spillable store) (λ id copy. refl)

  pub device_bytes-described : (ids : List ObjectId) → spilled_bytes facts ids ≡ bytes_of_copies store ids
  device_bytes-described ids = λ i. sum (map (λ id. bytes-at id i) ids)
    where
      over : (id : ObjectId) (r : Option Copy) → option_map_or (λ c. c.bytes) (option_map (facts_of store id) r) 0 ≡ option_map_or (λ copy. rounded copy.length) r 0
      over id None = refl
      over id (Some copy) = refl

      bytes-at : (id : ObjectId) → device_bytes_at facts id ≡ option_map_or (λ copy. rounded copy.length) (at store.copies id) 0
      bytes-at id = ap (λ r. option_map_or (λ c. c.bytes) r 0) (described.looked id) ∙ over id (at store.copies id)
