-- The searches' answers are the plan of the rule of room.
use Rattle.std.proofs.Common.{◌≡◌, ℕ, zero, suc, ◌+◌, ◌-◌, ◌/◌, ◌==◌, ◌<◌, ◌&&◌, ◌||◌, List, [], ◌∷◌, ◌++◌, Bool, Option, Some, None, true, false, refl, sym, ap, subst, ◌∙◌, is_some, take, length, arith, append_assoc, append-nil}
use Rattle.std.specs.Prelude.{nat_lt, nat_le, if◌then◌else◌}
use Rattle.std.specs.List.{list_all}
use Rattle.std.proofs.lemmas.Bool.Decides.{nat_tests}
use Rattle.augmented_tree.specs.Lists.{AllOf}
use Rattle.obj_id.specs.declared.ids.ObjectId.{ObjectId}
use Rattle.obj_id.specs.declared.works.Extent.{Extent}
use Rattle.private_store.specs.rules.Limits.{most_works}
use Rattle.private_store.specs.rules.Tables.{is_among}
use Rattle.private_store.specs.rules.Extents.{rounded, is_apart, is_free, first, first_from}
use Rattle.private_store.specs.rules.Shape.{Shape}
use Rattle.private_store.specs.rules.Copies.{is_evictable, is_draining, is_spillable, device_used}
use Rattle.private_store.specs.rules.Room.{Plan, fits, wait, full, busy, evict, spill, plan, victims, spilled, spill_plan, shortest, offset_without, in_order, bytes_of_copies, works_left}
use Rattle.job_region.specs.Region.{Region, extents_of, without, place_for}
use Rattle.job_region.specs.Layout.{LaidFrom}
use Rattle.use_tree.specs.declared.classes.VictimClass.{VictimClass}
use Rattle.use_tree.specs.declared.classes.VictimClass.TheVariants.{Evictable, Draining, Spillable}
use Rattle.use_tree.specs.Classes.{has}
use Rattle.extent_tree.specs.Residents.{extents_staying, remaining, span_of, has_gap}
use Rattle.extent_tree.proofs.ForCallers.{remaining_all}
use Rattle.lru_evictor.specs.declared.facts.DeviceRoom.{DeviceRoom}
use Rattle.lru_evictor.specs.declared.facts.EvictionInfo.{EvictionInfo}
use Rattle.lru_evictor.specs.declared.facts.Plan.TheVariants as found
use Rattle.lru_evictor.specs.declared.spilling.Gap.{Gap}
use Rattle.lru_evictor.specs.Searches.{AreMore}
use Rattle.lru_evictor.specs.Spilling.{leaves_gap}
use Rattle.lru_evictor.specs.Facts.{Looked, passes_at, info_at, chosen, gone_of, fits_without}
use Rattle.lru_evictor.specs.Indexed.{Listed, HasIndex, chosen_ids, shown_order}
use Rattle.lru_evictor.specs.Orders.{order_ids, AllPass, same_info}
use Rattle.lru_evictor.specs.Plans.{IsDescribed, IsOfCopies, plan_kind_of, listed, evict_here, spill_here, spills_here}
use Rattle.lru_evictor.proofs.Agreeing.{same_standing-equal, passes-eviction_info, base, fits-agree}
use Rattle.lru_evictor.proofs.Described.{fits-described, chosen-evictable, chosen-draining, chosen-spillable, device_bytes-described}
use Rattle.lru_evictor.proofs.Free.{fits-more}
use Rattle.lru_evictor.proofs.Needed.{found_at_once, too_few}
use Rattle.lru_evictor.proofs.Shortest.{shortest-begins, shortest-passes, shortest-fails, taken-begins}
use Rattle.lru_evictor.proofs.Uses.{candidates-kept, candidates-pass}

-- the plan, where it is known what may be evicted and what may be spilled
abbrev planned : Shape → Option (List ObjectId) → Option (List ObjectId) → Plan
planned store gone asked =
    elim gone [
      | Some [] ↦ fits
      | Some (id ∷ ids) ↦ evict (id ∷ ids)
      | None ↦ elim asked [
        | Some [] ↦ wait
        | Some (id ∷ ids) ↦ spill_plan store (id ∷ ids)
        | None ↦ full
      ]
    ]

module _ (store : Shape) (window : Region) (device : DeviceRoom) (facts : Looked) (described : IsDescribed store window device facts) (n : ℕ) (order : List ObjectId) where
  -- the shortest beginning beside those that go in any case
  abbrev pub searched : List ObjectId → List ObjectId → Option (List ObjectId)
  searched base may = shortest (λ out. fits_without window facts n (base ++ out)) may

  pub victims-searched : searched [] (chosen facts Evictable order) ≡ victims order store n
  victims-searched = λ i. shortest (λ out. fits-described store window device facts described n out i) (chosen-evictable store window device facts described order i)

  pub spilled-searched : searched (chosen facts Evictable order ++ chosen facts Draining order) (chosen facts Spillable order) ≡ spilled order store n
  spilled-searched =
      (λ i. shortest (λ out. fits-described store window device facts described n ((chosen facts Evictable order ++ chosen facts Draining order) ++ out) i) (chosen-spillable store window device facts described order i))
      ∙ (λ i. shortest (λ out. is_some (offset_without store n ((chosen-evictable store window device facts described order i ++ chosen-draining store window device facts described order i) ++ out))) (in_order store order (is_spillable store)))

  -- ---- the plan, by what is to be evicted and what is to be spilled

  pub plan-evicts : (ids : List ObjectId) → Some ids ≡ victims order store n → evict_here ids ≡ plan order store n
  plan-evicts [] e = ap (λ v. planned store v (spilled order store n)) e
  plan-evicts (x ∷ xs) e = ap (λ v. planned store v (spilled order store n)) e

  module _ (none : None ≡ victims order store n) where
    pub plan-full : None ≡ spilled order store n → full ≡ plan order store n
    plan-full e = λ i. planned store (none i) (e i)

    spill_plan-here : (x : ObjectId) (xs : List ObjectId) → spill_here device facts (x ∷ xs) ≡ spill_plan store (x ∷ xs)
    spill_plan-here x xs = λ i.
        if nat_lt (described.device_quota i) (described.used i + device_bytes-described store window device facts described (x ∷ xs) i) then full else
        (if most_works - described.works i == 0 then busy else spill (take (most_works - described.works i) (x ∷ xs)))

    pub plan-spills : (ids : List ObjectId) → Some ids ≡ spilled order store n → spill_here device facts ids ≡ plan order store n
    plan-spills [] e = λ i. planned store (none i) (e i)
    plan-spills (x ∷ xs) e = spill_plan-here x xs ∙ (λ i. planned store (none i) (e i))

-- ---- which kind of plan it is

pub data Fate (order : List ObjectId) (store : Shape) (n : ℕ) : Type 0 where
  evicts : (id : ObjectId) (ids : List ObjectId) → victims order store n ≡ Some (id ∷ ids) → plan order store n ≡ evict (id ∷ ids) → Fate order store n
  fits_so : plan order store n ≡ fits → Fate order store n
  spills : victims order store n ≡ None → plan order store n ≡ elim (spilled order store n) [ Some [] ↦ wait | Some (id ∷ ids) ↦ spill_plan store (id ∷ ids) | None ↦ full ] → Fate order store n

fate : (order : List ObjectId) (store : Shape) (n : ℕ) → Fate order store n
fate order store n = by (victims order store n) refl
  where
    by : (o : Option (List ObjectId)) → victims order store n ≡ o → Fate order store n
    by None e = spills e (ap (λ v. planned store v (spilled order store n)) e)
    by (Some []) e = fits_so (ap (λ v. planned store v (spilled order store n)) e)
    by (Some (id ∷ ids)) e = evicts id ids e (ap (λ v. planned store v (spilled order store n)) e)

-- what is spilled, if anything is, is no eviction
spills_none : (store : Shape) (o : Option (List ObjectId)) → plan_kind_of (elim o [ Some [] ↦ wait | Some (id ∷ ids) ↦ spill_plan store (id ∷ ids) | None ↦ full ]) ≡ found.Evict → ⊥
spills_none store None h = cc
spills_none store (Some []) h = cc
spills_none store (Some (id ∷ ids)) h = by (nat_lt store.quota.device (device_used store + bytes_of_copies store (id ∷ ids))) (works_left store == 0) h
  where
    by : (over none : Bool) → plan_kind_of (if over then full else (if none then busy else spill (take (works_left store) (id ∷ ids)))) ≡ found.Evict → ⊥
    by true none h = cc
    by false true h = cc
    by false false h = cc

-- a plan that evicts names the victims
pub evicts-listed : (order : List ObjectId) (store : Shape) (n : ℕ) → plan_kind_of (plan order store n) ≡ found.Evict → victims order store n ≡ Some (listed (plan order store n))
evicts-listed order store n h = by (fate order store n)
  where
    by : Fate order store n → victims order store n ≡ Some (listed (plan order store n))
    by (evicts id ids e is) = e ∙ ap (λ p. Some (listed p)) (sym is)
    by (fits_so is) = absurd (differ (sym (ap plan_kind_of is) ∙ h))
      where
        differ : found.Fits ≡ found.Evict → ⊥
        differ d = cc
    by (spills e is) = absurd (spills_none store (spilled order store n) (sym (ap plan_kind_of is) ∙ h))

-- a plan that spills so many names the first of those that may be spilled
pub spills-listed : (order : List ObjectId) (store : Shape) (n count : ℕ) → plan_kind_of (plan order store n) ≡ found.Spill count → listed (plan order store n) ≡ take count (in_order store order (is_spillable store))
spills-listed order store n count h = by (fate order store n)
  where
    may : List ObjectId
    may = in_order store order (is_spillable store)

    evict_no : (ids : List ObjectId) → plan_kind_of (evict ids) ≡ found.Spill count → ⊥
    evict_no ids d = cc

    of : (o : Option (List ObjectId)) → spilled order store n ≡ o → plan_kind_of (elim o [ Some [] ↦ wait | Some (id ∷ ids) ↦ spill_plan store (id ∷ ids) | None ↦ full ]) ≡ found.Spill count
        → listed (elim o [ Some [] ↦ wait | Some (id ∷ ids) ↦ spill_plan store (id ∷ ids) | None ↦ full ]) ≡ take count (in_order store order (is_spillable store))
    of None e d = absurd cc
    of (Some []) e d = absurd cc
    of (Some (id ∷ ids)) e d = over (nat_lt store.quota.device (device_used store + bytes_of_copies store (id ∷ ids))) (works_left store == 0) d
      where
        over : (over none : Bool) → plan_kind_of (if over then full else (if none then busy else spill (take (works_left store) (id ∷ ids)))) ≡ found.Spill count
            → listed (if over then full else (if none then busy else spill (take (works_left store) (id ∷ ids)))) ≡ take count (in_order store order (is_spillable store))
        over true none d = absurd cc
        over false true d = absurd cc
        over false false d =
            let long : length (take (works_left store) (id ∷ ids)) ≡ count = ap (λ k. elim k as (λ _. ℕ) [ found.Spill c ↦ c | found.Fits ↦ 0 | found.Evict ↦ 0 | found.Wait ↦ 0 | found.Full ↦ 0 | found.Busy ↦ 0 ]) d in
            let first = shortest-begins (λ out. is_some (offset_without store n ((in_order store order (is_evictable store) ++ in_order store order (is_draining store)) ++ out))) (in_order store order (is_spillable store)) (id ∷ ids) e in
            taken-begins (works_left store) (id ∷ ids) (in_order store order (is_spillable store)) first ∙ ap (λ c. take c (in_order store order (is_spillable store))) long

    by : Fate order store n → listed (plan order store n) ≡ take count (in_order store order (is_spillable store))
    by (evicts id ids e is) = absurd (evict_no (id ∷ ids) (sym (ap plan_kind_of is) ∙ h))
    by (fits_so is) = absurd (differ (sym (ap plan_kind_of is) ∙ h))
      where
        differ : found.Fits ≡ found.Spill count → ⊥
        differ d = cc
    by (spills e is) = ap listed is ∙ of (spilled order store n) refl (sym (ap plan_kind_of is) ∙ h)

-- ---- an index tells what is to be evicted and what is to be spilled

module _ (store : Shape) (window : Region) (device : DeviceRoom) (facts : Looked) (described : IsDescribed store window device facts) (index : Listed) (order : List (ObjectId × EvictionInfo)) (of : HasIndex index order) (known : IsOfCopies order facts) where
  same_ids : order_ids (shown_order of.entries) ≡ order_ids order
  same_ids = ap order_ids of.is

  agreed : AllPass (λ id s. same_info s (info_at facts id)) (shown_order of.entries)
  agreed = subst (AllPass (λ id s. same_info s (info_at facts id))) (sym of.is) known.infos

  module _ (candidates : List ObjectId) (k : VictimClass) (is : candidates ≡ chosen_ids k 4611686018427387904 index.0) where
    -- what an index has of a copy's choices is so of the copy
    stands_so : (id : ObjectId) (s : EvictionInfo) → same_info s (info_at facts id) ≡ true → has k s.classes ≡ passes_at facts k id
    stands_so id s same = ap (λ (t : EvictionInfo). has k t.classes) (same_standing-equal s (info_at facts id) same) ∙ passes-eviction_info facts k id

    same_chosen : AllOf (λ u. u.turn < 4611686018427387904) index.0 → chosen facts k candidates ≡ chosen facts k (order_ids order)
    same_chosen below =
        ap (chosen facts k) (is ∙ ap (chosen_ids k 4611686018427387904) of.index_of.uses)
        ∙ candidates-kept k (λ id s. same_info s (info_at facts id)) (passes_at facts k) (λ id s same passes. stands_so id s same ∙ passes) 4611686018427387904 of.entries agreed (subst (AllOf (λ u. u.turn < 4611686018427387904)) of.index_of.uses below)
        ∙ ap (chosen facts k) same_ids

    all_chosen : chosen facts k candidates ≡ candidates
    all_chosen =
        let here = is ∙ ap (chosen_ids k 4611686018427387904) of.index_of.uses in
        ap (chosen facts k) here
        ∙ candidates-pass k (λ id s. same_info s (info_at facts id)) (passes_at facts k) (λ id s same picked. sym (stands_so id s same) ∙ picked) 4611686018427387904 of.entries agreed
        ∙ sym here

    -- the candidates are those that the walk chooses, in order
    pub candidates-are : AllOf (λ u. u.turn < 4611686018427387904) index.0 → candidates ≡ chosen facts k (order_ids order)
    candidates-are below = sym all_chosen ∙ same_chosen below

  pub victims-found : (n : ℕ) (candidates : List ObjectId) → candidates ≡ chosen_ids Evictable 4611686018427387904 index.0 → AllOf (λ u. u.turn < 4611686018427387904) index.0
      → (r : Option (List ObjectId)) → r ≡ shortest (fits_without window facts n) (chosen facts Evictable candidates) → r ≡ victims (order_ids order) store n
  victims-found n candidates is below r found = found ∙ ap (shortest (fits_without window facts n)) (same_chosen candidates Evictable is below) ∙ victims-searched store window device facts described n (order_ids order)

  -- the first of the candidates are those that a plan names which spills so many
  pub spillable-listed : (n count : ℕ) (candidates : List ObjectId) → candidates ≡ chosen_ids Spillable 4611686018427387904 index.0 → AllOf (λ u. u.turn < 4611686018427387904) index.0
      → plan_kind_of (plan (order_ids order) store n) ≡ found.Spill count → take count candidates ≡ listed (plan (order_ids order) store n)
  spillable-listed n count candidates is below kind =
      ap (take count) (candidates-are candidates Spillable is below ∙ chosen-spillable store window device facts described (order_ids order))
      ∙ sym (spills-listed (order_ids order) store n count kind)

  module _ (laid : LaidFrom window.quota 0 (extents_of window.placed)) (n : ℕ) (some : 0 < n) where
    -- whether there is room without all of the class and of those before it
    abbrev pub level_room : VictimClass → Bool
    level_room k = has_gap window.quota (rounded n) (span_of (extents_staying k index.2))

    -- the same without these copies
    abbrev pub gap_without : VictimClass → List ObjectId → Bool
    gap_without k out = has_gap window.quota (rounded n) (span_of (extents_staying k (remaining (gone_of facts out) index.2)))

    -- all of a class and of those before it among these ids
    abbrev base_among : List ObjectId → VictimClass → List ObjectId
    base_among ids Evictable = chosen facts Evictable ids
    base_among ids Draining = chosen facts Evictable ids ++ chosen facts Draining ids
    base_among ids Spillable = (chosen facts Evictable ids ++ chosen facts Draining ids) ++ chosen facts Spillable ids

    none_gone : (k : VictimClass) → gap_without k [] ≡ level_room k
    none_gone k = ap (λ xs. has_gap window.quota (rounded n) (span_of (extents_staying k xs))) (remaining_all index.2)

    -- in the window as in the index, over the ids of the index's entries
    agrees : (k : VictimClass) (out : List ObjectId) → fits_without window facts n (base_among (order_ids (shown_order of.entries)) k ++ out) ≡ gap_without k out
    agrees k out =
        sides k
        ∙ fits-agree store window device facts described of.entries of.index_of.apart agreed (λ id h. ap (λ o. is_among (order_ids o) id) of.is ∙ known.listed id h) laid n some k out
        ∙ ap (λ xs. has_gap window.quota (rounded n) (span_of (extents_staying k (remaining (gone_of facts out) xs)))) (sym of.index_of.residents)
      where
        sides : (k : VictimClass) → fits_without window facts n (base_among (order_ids (shown_order of.entries)) k ++ out) ≡ fits_without window facts n (base store window device facts described of.entries of.index_of.apart agreed (λ id h. ap (λ o. is_among (order_ids o) id) of.is ∙ known.listed id h) k ++ out)
        sides Evictable = refl
        sides Draining = refl
        sides Spillable = refl

    -- over those of the order
    agree : (k : VictimClass) (out : List ObjectId) → fits_without window facts n (base_among (order_ids order) k ++ out) ≡ gap_without k out
    agree k out = subst (λ ids. fits_without window facts n (base_among ids k ++ out) ≡ gap_without k out) same_ids (agrees k out)

    agree_all : (k : VictimClass) → fits_without window facts n (base_among (order_ids order) k) ≡ level_room k
    agree_all k = ap (fits_without window facts n) (sym (append-nil (base_among (order_ids order) k))) ∙ agree k [] ∙ none_gone k

    victims-none : (says : Bool) → says ≡ level_room Evictable → says ≡ false → None ≡ victims (order_ids order) store n
    victims-none says is bad =
        too_few (fits_without window facts n) (fits-more window facts n) (chosen facts Evictable (order_ids order)) (agree_all Evictable ∙ sym is ∙ bad)
        ∙ victims-searched store window device facts described n (order_ids order)

    -- evictions make room, and some are needed
    pub plan-evictions : (says : Bool) → says ≡ level_room Evictable → says ≡ true → fits_without window facts n [] ≡ false → found.Evict ≡ plan_kind_of (plan (order_ids order) store n)
    plan-evictions says is good bad = by (victims (order_ids order) store n) (victims-searched store window device facts described n (order_ids order))
      where
        differ : true ≡ false → ⊥
        differ h = cc

        by : (o : Option (List ObjectId)) → shortest (fits_without window facts n) (chosen facts Evictable (order_ids order)) ≡ o → found.Evict ≡ plan_kind_of (planned store o (spilled (order_ids order) store n))
        by None e = absurd (differ (sym good ∙ is ∙ sym (agree_all Evictable) ∙ shortest-fails (fits_without window facts n) (chosen facts Evictable (order_ids order)) e))
        by (Some []) e = absurd (differ (sym (shortest-passes (fits_without window facts n) (chosen facts Evictable (order_ids order)) [] e) ∙ bad))
        by (Some (id ∷ ids)) e = refl

    -- beside all that may be evicted or passes
    abbrev fits_beside : List ObjectId → Bool
    fits_beside out = fits_without window facts n (base_among (order_ids order) Draining ++ out)

    beside_more : AreMore fits_beside
    beside_more out more h = ap (fits_without window facts n) (sym (append_assoc (base_among (order_ids order) Draining) out more)) ∙ fits-more window facts n (base_among (order_ids order) Draining ++ out) more h

    spilled-none : (says : Bool) → says ≡ level_room Spillable → says ≡ false → None ≡ spilled (order_ids order) store n
    spilled-none says is bad =
        too_few fits_beside beside_more (chosen facts Spillable (order_ids order)) (agree_all Spillable ∙ sym is ∙ bad)
        ∙ spilled-searched store window device facts described n (order_ids order)

    -- nothing makes room
    pub plan-hopeless : (says all : Bool) → says ≡ level_room Evictable → says ≡ false → all ≡ level_room Spillable → all ≡ false → full ≡ plan (order_ids order) store n
    plan-hopeless says all is bad are none = plan-full store window device facts described n (order_ids order) (victims-none says is bad) (spilled-none all are none)

    -- what was counted by marks is what is to be spilled
    pub plan-counted : (says : Bool) → says ≡ level_room Evictable → says ≡ false
        → (candidates : List ObjectId) → candidates ≡ chosen_ids Spillable 4611686018427387904 index.0 → AllOf (λ u. u.turn < 4611686018427387904) index.0
        → (gap : Gap) → gap.quota ≡ window.quota → gap.need ≡ rounded n
        → (r : Option (List ObjectId)) → r ≡ shortest (leaves_gap gap facts index.2) candidates → spills_here device facts r ≡ plan (order_ids order) store n
    plan-counted says is bad candidates are below gap wide needed r counted =
        let same : (out : List ObjectId) → leaves_gap gap facts index.2 out ≡ fits_beside out =
        λ out. (λ i. has_gap (wide i) (needed i) (span_of (extents_staying Draining (remaining (gone_of facts out) index.2)))) ∙ sym (agree Draining out) in
        by r (counted ∙ (λ i. shortest (λ out. same out i) (candidates-are candidates Spillable are below i)) ∙ spilled-searched store window device facts described n (order_ids order))
      where
        by : (r : Option (List ObjectId)) → r ≡ spilled (order_ids order) store n → spills_here device facts r ≡ plan (order_ids order) store n
        by None e = plan-full store window device facts described n (order_ids order) (victims-none says is bad) e
        by (Some ids) e = plan-spills store window device facts described n (order_ids order) (victims-none says is bad) ids e

-- ---- a plan before any search of the index

without_none : (placed : List (ℕ × List ℕ)) → without [] placed ≡ placed
without_none [] = refl
without_none (p ∷ ps) = ap (λ qs. p ∷ qs) (without_none ps)

-- there is a place as it is if there is one without none
pub fits-now : (window : Region) (facts : Looked) (n : ℕ) → is_some (place_for window n) ≡ fits_without window facts n []
fits-now window facts n = ap (λ ps. is_some (first (extents_of ps) window.quota n)) (sym (without_none window.placed))

-- no bytes fit anywhere
zero_free : (es : List Extent) (q : ℕ) → is_free es q 0 0 ≡ true
zero_free es q =
    let begins : nat_le 0 q ≡ true = grind (arith, nat_tests) in
    ap (λ b. b && list_all (is_apart (record { offset = 0; length = 0 })) es) begins ∙ each es
  where
    each : (xs : List Extent) → list_all (is_apart (record { offset = 0; length = 0 })) xs ≡ true
    each [] = refl
    each (x ∷ xs) = let past : nat_le 0 x.offset ≡ true = grind (arith, nat_tests) in ap (λ b. (b || nat_le (x.offset + x.length) 0) && list_all (is_apart (record { offset = 0; length = 0 })) xs) past ∙ each xs

zero_found : (es : List Extent) (q k : ℕ) → 0 < k → is_some (first_from es q 0 0 k) ≡ true
zero_found es q zero lt = absurd (omega (arith, lt))
zero_found es q (suc k) lt = ap (λ b. is_some (elim b [ true ↦ Some 0 | false ↦ first_from es q 0 16 k ])) (zero_free es q)

-- so what doesn't fit has bytes
pub has-bytes : (window : Region) (n : ℕ) (says : Bool) → says ≡ is_some (place_for window n) → says ≡ false → 0 < n
has-bytes window zero says is bad = absurd (differ (sym (zero_found (extents_of window.placed) window.quota (window.quota / 16 + 1) (omega arith)) ∙ sym is ∙ bad))
  where
    differ : true ≡ false → ⊥
    differ h = cc
has-bytes window (suc n) says is bad = omega arith

module _ (store : Shape) (window : Region) (device : DeviceRoom) (facts : Looked) (described : IsDescribed store window device facts) (n : ℕ) (says : Bool) (is : says ≡ is_some (place_for window n)) where
  pub plan-fits : (order : List ObjectId) → says ≡ true → fits ≡ plan order store n
  plan-fits order good =
      plan-evicts store window device facts described n order []
      (found_at_once (fits_without window facts n) (chosen facts Evictable order) says (is ∙ fits-now window facts n) good ∙ victims-searched store window device facts described n order)

  -- a job without copies has nothing that could go
  pub plan-nothing : says ≡ false → full ≡ plan [] store n
  plan-nothing bad =
      let none = sym (is ∙ fits-now window facts n) ∙ bad in
      plan-full store window device facts described n []
      (too_few (fits_without window facts n) (fits-more window facts n) [] none ∙ victims-searched store window device facts described n [])
      (too_few (fits_without window facts n) (fits-more window facts n) [] none ∙ spilled-searched store window device facts described n [])
