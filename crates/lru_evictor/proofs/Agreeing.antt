-- What the index of an order says of room is so in the window.
use Rattle.std.proofs.Common.{◌≡◌, ℕ, ◌+◌, ◌%◌, ◌<◌, ◌≤◌, Bool, true, false, not, ◌&&◌, ◌||◌, List, [], ◌∷◌, ◌++◌, Option, Some, None, refl, sym, ap, ◌∙◌, arith, cond, is_some, map, filter, reverse}
use Rattle.std.specs.Prelude.{nat_lt, nat_le, nat_eq}
use Rattle.std.specs.List.{list_any, list_all, AllByRecursion}
use Rattle.std.specs.Option.{option_map, option_map_or, option_and_then}
use Rattle.std.specs.Map.{keys_of}
use Rattle.std.proofs.lemmas.Bool.Decides.{nat_tests}
use Rattle.std.proofs.lemmas.List.Folds.{list_any-append, list_all-append}
use Rattle.augmented_tree.specs.Lists.{AllOf}
use Rattle.obj_id.specs.declared.ids.ObjectId.{ObjectId}
use Rattle.obj_id.specs.declared.works.Extent.{Extent}
use Rattle.obj_id.specs.Ids.{same_id}
use Rattle.store_facts.proofs.Ids.{same_id-equal}
use Rattle.private_store.specs.rules.Tables.{ById, at, is_among}
use Rattle.private_store.specs.rules.Extents.{rounded, is_apart}
use Rattle.private_store.specs.rules.Shape.{Copy, Shape}
use Rattle.private_store.specs.rules.Copies.{extent_of}
use Rattle.store_facts.proofs.KeptFold.{among-filter}
use Rattle.store_facts.proofs.KeptLists.{all-filter}
use Rattle.job_region.specs.Region.{Region, extents_of, without}
use Rattle.job_region.specs.Layout.{LaidFrom}
use Rattle.job_region.proofs.ForCallers.{laid_within}
use Rattle.use_tree.specs.declared.classes.VictimClass.{VictimClass}
use Rattle.use_tree.specs.declared.classes.VictimClass.TheVariants.{Evictable, Draining, Spillable}
use Rattle.use_tree.specs.Classes.{has}
use Rattle.extent_tree.specs.declared.residents.Resident.{Resident}
use Rattle.extent_tree.specs.Residents.{AreResidentsRising, put_resident, has_resident, goes as goes_if, extents_staying, remaining, span_of, has_gap}
use Rattle.lru_evictor.specs.declared.facts.CopyFacts.{CopyFacts}
use Rattle.lru_evictor.specs.declared.facts.DeviceRoom.{DeviceRoom}
use Rattle.lru_evictor.specs.declared.facts.EvictionInfo.{EvictionInfo}
use Rattle.lru_evictor.specs.declared.index.OrderSlot.{OrderSlot}
use Rattle.lru_evictor.specs.Facts.{Looked, passes, passes_at, info_at, nowhere, info_of, chosen, extent_at, gone_of, fits_without}
use Rattle.lru_evictor.specs.Orders.{order_ids, AllPass, same_bool, same_classes, same_extent, same_info}
use Rattle.lru_evictor.specs.Indexed.{spread, AreSlotsApart, shown_order}
use Rattle.lru_evictor.specs.Plans.{IsDescribed, facts_of, extents_in}
use Rattle.lru_evictor.proofs.Truths.{each}
use Rattle.lru_evictor.proofs.CacheOrders.{reverse-cons}
use Rattle.lru_evictor.proofs.Described.{both_ways, all_same, IsFound, each_found, all_of, all_agree, each_agrees, all_kept, same_tests, goes-among}
use Rattle.lru_evictor.proofs.Free.{goes, first-same, all_more}
use Rattle.lru_evictor.proofs.Gaps.{first-gap}
use Rattle.lru_evictor.proofs.Lists.{Ways, below, above, level, ways}
use Rattle.lru_evictor.proofs.Spread.{spread-rising, clear-none}

-- ---- infos that are the same

same_bool-equal : (a b : Bool) → same_bool a b ≡ true → a ≡ b
same_bool-equal true b h = sym h
same_bool-equal false true h = cc
same_bool-equal false false h = refl

same_extent-equal : (a b : Option Extent) → same_extent a b ≡ true → a ≡ b
same_extent-equal None None h = refl
same_extent-equal None (Some f) h = cc
same_extent-equal (Some e) None h = cc
same_extent-equal (Some e) (Some f) h =
    let both = each (nat_eq e.offset f.offset) (nat_eq e.length f.length) h in
    let at : e.offset ≡ f.offset = grind (arith, nat_tests, both.0) in
    let long : e.length ≡ f.length = grind (arith, nat_tests, both.1) in
    λ i. Some (record { offset = at i; length = long i })

pub same_standing-equal : (s t : EvictionInfo) → same_info s t ≡ true → s ≡ t
same_standing-equal s t h =
    let both = each (same_extent s.extent t.extent) (same_classes s.classes t.classes) h in
    let more = each (same_bool s.classes.evictable t.classes.evictable) (same_bool s.classes.draining t.classes.draining && same_bool s.classes.spillable t.classes.spillable) both.1 in
    let rest = each (same_bool s.classes.draining t.classes.draining) (same_bool s.classes.spillable t.classes.spillable) more.1 in
    λ i. record {
      extent = same_extent-equal s.extent t.extent both.0 i;
      classes = record {
        evictable = same_bool-equal s.classes.evictable t.classes.evictable more.0 i;
        draining = same_bool-equal s.classes.draining t.classes.draining rest.0 i;
        spillable = same_bool-equal s.classes.spillable t.classes.spillable rest.1 i;
      };
    }

-- what a walk chooses is chosen by the choices of the facts
pub passes-eviction_info : (facts : Looked) (k : VictimClass) (id : ObjectId) → has k (info_at facts id).classes ≡ passes_at facts k id
passes-eviction_info facts k id = by k (facts id)
  where
    by : (k : VictimClass) (o : Option CopyFacts) → has k (option_map_or info_of o nowhere).classes ≡ option_map_or (passes k) o false
    by Evictable None = refl
    by Evictable (Some copy) = refl
    by Draining None = refl
    by Draining (Some copy) = refl
    by Spillable None = refl
    by Spillable (Some copy) = refl

-- ---- tests of lists

list_all-reverse : {X : Type 0} (test : X → Bool) (xs : List X) → list_all test (reverse xs) ≡ list_all test xs
list_all-reverse test [] = refl
list_all-reverse test (x ∷ xs) =
    ap (list_all test) (reverse-cons x xs) ∙ list_all-append test (reverse xs) (x ∷ []) ∙ ap (λ b. b && list_all test (x ∷ [])) (list_all-reverse test xs)
    ∙ swapped (list_all test xs) (test x)
  where
    swapped : (a b : Bool) → a && (b && true) ≡ b && a
    swapped true true = refl
    swapped true false = refl
    swapped false true = refl
    swapped false false = refl

all_put : (test : Resident → Bool) (x : Resident) (xs : List Resident) → has_resident x.extent.offset xs ≡ false → list_all test (put_resident x xs) ≡ test x && list_all test xs
all_put test x [] h = refl
all_put test x (y ∷ ys) h = by (all_put test x ys) (ways x.extent.offset y.extent.offset)
  where
    swap : (a b c : Bool) → a && (b && c) ≡ b && (a && c)
    swap true b c = refl
    swap false true c = refl
    swap false false c = refl

    by : (has_resident x.extent.offset ys ≡ false → list_all test (put_resident x ys) ≡ test x && list_all test ys) → Ways x.extent.offset y.extent.offset → list_all test (put_resident x (y ∷ ys)) ≡ test x && (test y && list_all test ys)
    by rest (below l e f m) = rw l refl
    by rest (above l e f m) = rw (l, m) (ap (λ b. test y && b) (rest (ap (λ b. b || has_resident x.extent.offset ys) (sym e) ∙ h)) ∙ swap (test y) (test x) (list_all test ys))
    by rest (level l e f m same) = let no : true ≡ false = ap (λ b. b || has_resident x.extent.offset ys) (sym e) ∙ h in cc

-- of the copies of an order that are resident
all_spread : (test : Resident → Bool) (es : List (ObjectId × OrderSlot)) → AreSlotsApart es
    → list_all test (spread es) ≡ list_all (λ e. option_map_or (λ x. test (record { extent = x; classes = e.1.eviction_info.classes })) e.1.eviction_info.extent true) es
all_spread test [] a = refl
all_spread test (e ∷ es) a = by (all_spread test es a.1) e.1.eviction_info.extent refl
  where
    by : list_all test (spread es) ≡ list_all (λ f. option_map_or (λ x. test (record { extent = x; classes = f.1.eviction_info.classes })) f.1.eviction_info.extent true) es → (o : Option Extent) → e.1.eviction_info.extent ≡ o
        → list_all test (option_map_or (λ x. put_resident (record { extent = x; classes = e.1.eviction_info.classes }) (spread es)) o (spread es))
        ≡ option_map_or (λ x. test (record { extent = x; classes = e.1.eviction_info.classes })) o true && list_all (λ f. option_map_or (λ x. test (record { extent = x; classes = f.1.eviction_info.classes })) f.1.eviction_info.extent true) es
    by rest None is = rest
    by rest (Some x) is =
        all_put test (record { extent = x; classes = e.1.eviction_info.classes }) (spread es) (clear-none e.1.eviction_info x (spread es) is a.0)
        ∙ ap (λ b. test (record { extent = x; classes = e.1.eviction_info.classes }) && b) rest

-- of those that stay
all_staying : (test : Extent → Bool) (k : VictimClass) (gone : List Extent) (xs : List Resident)
    → list_all test (extents_staying k (remaining gone xs)) ≡ list_all (λ r. goes_if k r.classes || (goes gone r.extent.offset || test r.extent)) xs
all_staying test k gone [] = refl
all_staying test k gone (x ∷ xs) =
    let rest = all_staying test k gone xs in
    elim (goes gone x.extent.offset) as (λ b. list_all test (extents_staying k (cond (not b) (x ∷ remaining gone xs) (remaining gone xs))) ≡ (goes_if k x.classes || (b || test x.extent)) && list_all (λ r. goes_if k r.classes || (goes gone r.extent.offset || test r.extent)) xs) [
      | true ↦ rest ∙ any (goes_if k x.classes)
      | false ↦ elim (goes_if k x.classes) as (λ b. list_all test (map (λ r. r.extent) (cond (not b) (x ∷ filter (λ r. not (goes_if k r.classes)) (remaining gone xs)) (filter (λ r. not (goes_if k r.classes)) (remaining gone xs)))) ≡ (b || test x.extent) && list_all (λ r. goes_if k r.classes || (goes gone r.extent.offset || test r.extent)) xs) [
        | true ↦ rest
        | false ↦ ap (λ b. test x.extent && b) rest
      ]
    ]
  where
    any : (a : Bool) → list_all (λ r. goes_if k r.classes || (goes gone r.extent.offset || test r.extent)) xs ≡ (a || true) && list_all (λ r. goes_if k r.classes || (goes gone r.extent.offset || test r.extent)) xs
    any true = refl
    any false = refl

found-passes : (f : ObjectId → Bool) (cs : ById Copy) (id : ObjectId) (copy : Copy) → at cs id ≡ Some copy → list_all (λ c. f c.0) cs ≡ true → f id ≡ true
found-passes f [] id copy h all = cc
found-passes f (c ∷ cs) id copy h all =
    let both = each (f c.0) (list_all (λ c. f c.0) cs) all in
    (elim (same_id id c.0) as (λ b. same_id id c.0 ≡ b → cond b (Some c.1) (at cs id) ≡ Some copy → f id ≡ true) [
      | true ↦ λ t h. ap f (same_id-equal id c.0 t) ∙ both.0
      | false ↦ λ t h. found-passes f cs id copy h both.1
    ]) refl h

among-passes : (f : ObjectId → Bool) (xs : List ObjectId) (id : ObjectId) → is_among xs id ≡ true → list_all f xs ≡ true → f id ≡ true
among-passes f [] id h all = cc
among-passes f (x ∷ xs) id h all =
    let both = each (f x) (list_all f xs) all in
    (elim (same_id id x) as (λ b. same_id id x ≡ b → b || is_among xs id ≡ true → f id ≡ true) [
      | true ↦ λ t h. ap f (same_id-equal id x t) ∙ both.0
      | false ↦ λ t h. among-passes f xs id h both.1
    ]) refl h

or_true : (a : Bool) → a || true ≡ true
or_true true = refl
or_true false = refl

-- ---- extents that are laid, by tests of each and of each two

abbrev is_unit : ℕ → Extent → Bool
is_unit q x = nat_eq (x.offset % 16) 0 && (nat_eq (x.length % 16) 0 && (nat_lt 0 x.length && nat_le (x.offset + x.length) q))

-- y doesn't come after x, or only after all of it
abbrev is_clear_of : Extent → Extent → Bool
is_clear_of x y = nat_le (x.offset + x.length) y.offset || nat_le y.offset x.offset

and_true : (a b : Bool) → a ≡ true → b ≡ true → a && b ≡ true
and_true a b h g = ap (λ x. x && b) h ∙ g

all_and : (p q : Extent → Bool) (xs : List Extent) → list_all p xs ≡ true → list_all q xs ≡ true → list_all (λ x. p x && q x) xs ≡ true
all_and p q [] h g = refl
all_and p q (x ∷ xs) h g =
    let a = each (p x) (list_all p xs) h in
    let b = each (q x) (list_all q xs) g in
    and_true (p x && q x) (list_all (λ x. p x && q x) xs) (and_true (p x) (q x) a.0 b.0) (all_and p q xs a.1 b.1)

laid_units : (q at : ℕ) (es : List Extent) → LaidFrom q at es → list_all (is_unit q) es ≡ true
laid_units q at [] h = refl
laid_units q at (e ∷ es) h =
    let within = laid_within q (e.offset + e.length) es h.4 in
    let first : nat_eq (e.offset % 16) 0 ≡ true = grind (arith, nat_tests, h.1) in
    let second : nat_eq (e.length % 16) 0 ≡ true = grind (arith, nat_tests, h.2) in
    let third : nat_lt 0 e.length ≡ true = grind (arith, nat_tests, h.3) in
    let last : nat_le (e.offset + e.length) q ≡ true = grind (arith, nat_tests, within) in
    and_true (is_unit q e) (list_all (is_unit q) es)
    (and_true (nat_eq (e.offset % 16) 0) (nat_eq (e.length % 16) 0 && (nat_lt 0 e.length && nat_le (e.offset + e.length) q)) first
    (and_true (nat_eq (e.length % 16) 0) (nat_lt 0 e.length && nat_le (e.offset + e.length) q) second (and_true (nat_lt 0 e.length) (nat_le (e.offset + e.length) q) third last)))
    (laid_units q (e.offset + e.length) es h.4)

left_or : (a b : Bool) → a ≡ true → a || b ≡ true
left_or a b h = ap (λ x. x || b) h

right_or : (a b : Bool) → b ≡ true → a || b ≡ true
right_or true b h = refl
right_or false b h = h

-- those that are laid from an offset on come after what ends there
laid_after : (q at : ℕ) (es : List Extent) (x : Extent) → LaidFrom q at es → x.offset + x.length ≤ at → list_all (is_clear_of x) es ≡ true
laid_after q at [] x h le = refl
laid_after q at (e ∷ es) x h le =
    let past : nat_le (x.offset + x.length) e.offset ≡ true = grind (arith, nat_tests, le, h.0) in
    and_true (is_clear_of x e) (list_all (is_clear_of x) es) (left_or (nat_le (x.offset + x.length) e.offset) (nat_le e.offset x.offset) past) (laid_after q (e.offset + e.length) es x h.4 (omega (arith, le, h.0)))

-- what begins before it is clear of each of them
laid_before : (q at : ℕ) (es : List Extent) (y : Extent) → LaidFrom q at es → y.offset ≤ at → list_all (λ x. is_clear_of x y) es ≡ true
laid_before q at [] y h le = refl
laid_before q at (e ∷ es) y h le =
    let past : nat_le y.offset e.offset ≡ true = grind (arith, nat_tests, le, h.0) in
    and_true (is_clear_of e y) (list_all (λ x. is_clear_of x y) es) (right_or (nat_le (e.offset + e.length) y.offset) (nat_le y.offset e.offset) past) (laid_before q (e.offset + e.length) es y h.4 (omega (arith, le, h.0)))

laid_clear : (q at : ℕ) (es : List Extent) → LaidFrom q at es → list_all (λ x. list_all (is_clear_of x) es) es ≡ true
laid_clear q at [] h = refl
laid_clear q at (e ∷ es) h =
    let own : nat_le e.offset e.offset ≡ true = grind (arith, nat_tests) in
    and_true (list_all (is_clear_of e) (e ∷ es)) (list_all (λ x. list_all (is_clear_of x) (e ∷ es)) es)
    (and_true (is_clear_of e e) (list_all (is_clear_of e) es) (right_or (nat_le (e.offset + e.length) e.offset) (nat_le e.offset e.offset) own) (laid_after q (e.offset + e.length) es e h.4 (omega arith)))
    (all_and (λ x. is_clear_of x e) (λ x. list_all (is_clear_of x) es) es (laid_before q (e.offset + e.length) es e h.4 (omega arith)) (laid_clear q (e.offset + e.length) es h.4))

abbrev AreRising : List Extent → Type 0
AreRising [] = Unit {0}
AreRising (x ∷ xs) = AllByRecursion (λ (y : Extent). x.offset < y.offset) xs × AreRising xs

-- and the other way round
laid_from : (q at : ℕ) (es : List Extent) → AreRising es → list_all (is_unit q) es ≡ true → list_all (λ x. list_all (is_clear_of x) es) es ≡ true → AllByRecursion (λ (y : Extent). at ≤ y.offset) es → at ≤ q → LaidFrom q at es
laid_from q at [] rising units clear low le = le
laid_from q at (e ∷ es) rising units clear low le =
    let unit = each (is_unit q e) (list_all (is_unit q) es) units in
    let first = each (nat_eq (e.offset % 16) 0) (nat_eq (e.length % 16) 0 && (nat_lt 0 e.length && nat_le (e.offset + e.length) q)) unit.0 in
    let second = each (nat_eq (e.length % 16) 0) (nat_lt 0 e.length && nat_le (e.offset + e.length) q) first.1 in
    let third = each (nat_lt 0 e.length) (nat_le (e.offset + e.length) q) second.1 in
    let within : e.offset + e.length ≤ q = grind (arith, nat_tests, third.1) in
    let some : 0 < e.length = grind (arith, nat_tests, third.0) in
    let here = each (list_all (is_clear_of e) (e ∷ es)) (list_all (λ x. list_all (is_clear_of x) (e ∷ es)) es) clear in
    let own = each (is_clear_of e e) (list_all (is_clear_of e) es) here.0 in
    let at_unit : e.offset % 16 ≡ 0 = grind (arith, nat_tests, first.0) in
    let long_unit : e.length % 16 ≡ 0 = grind (arith, nat_tests, second.0) in
    (low.0, at_unit, long_unit, some, laid_from q (e.offset + e.length) es rising.1 unit.1 (inner es here.1) (past es rising.0 own.1) within)
  where
    inner : (xs : List Extent) → list_all (λ x. list_all (is_clear_of x) (e ∷ es)) xs ≡ true → list_all (λ x. list_all (is_clear_of x) es) xs ≡ true
    inner xs h = all_more (λ x. list_all (is_clear_of x) (e ∷ es)) (λ x. list_all (is_clear_of x) es) (λ x t. (each (is_clear_of x e) (list_all (is_clear_of x) es) t).1) xs h

    past : (xs : List Extent) → AllByRecursion (λ (y : Extent). e.offset < y.offset) xs → list_all (is_clear_of e) xs ≡ true → AllByRecursion (λ (y : Extent). e.offset + e.length ≤ y.offset) xs
    past [] r h = tt
    past (y ∷ ys) r h =
        let both = each (is_clear_of e y) (list_all (is_clear_of e) ys) h in
        (after (nat_le (e.offset + e.length) y.offset) refl both.0, past ys r.1 both.1)
      where
        after : (b : Bool) → nat_le (e.offset + e.length) y.offset ≡ b → b || nat_le y.offset e.offset ≡ true → e.offset + e.length ≤ y.offset
        after true t h = grind (arith, nat_tests, t)
        after false t h = let le : y.offset ≤ e.offset = grind (arith, nat_tests, h) in absurd (omega (arith, le, r.0))

-- what stays of residents by rising offset rises
filter_above : (o : ℕ) (p : Resident → Bool) (xs : List Resident) → AllOf (λ y. o < y.extent.offset) xs → AllOf (λ y. o < y.extent.offset) (filter p xs)
filter_above o p [] h = tt
filter_above o p (x ∷ xs) h = elim (p x) as (λ b. AllOf (λ y. o < y.extent.offset) (cond b (x ∷ filter p xs) (filter p xs))) [
  | true ↦ (h.0, filter_above o p xs h.1)
  | false ↦ filter_above o p xs h.1
]

filter_rising : (p : Resident → Bool) (xs : List Resident) → AreResidentsRising xs → AreResidentsRising (filter p xs)
filter_rising p [] h = tt
filter_rising p (x ∷ xs) h = elim (p x) as (λ b. AreResidentsRising (cond b (x ∷ filter p xs) (filter p xs))) [
  | true ↦ (filter_above x.extent.offset p xs h.0, filter_rising p xs h.1)
  | false ↦ filter_rising p xs h.1
]

extents_rising : (xs : List Resident) → AreResidentsRising xs → AreRising (map (λ (r : Resident). r.extent) xs)
extents_rising [] h = tt
extents_rising (x ∷ xs) h = (above x.extent.offset xs h.0, extents_rising xs h.1)
  where
    above : (o : ℕ) (ys : List Resident) → AllOf (λ y. o < y.extent.offset) ys → AllByRecursion (λ (y : Extent). o < y.offset) (map (λ (r : Resident). r.extent) ys)
    above o [] a = tt
    above o (y ∷ ys) a = (a.0, above o ys a.1)

all_extents : (test : Extent → Bool) (xs : List Resident) → list_all test (map (λ (r : Resident). r.extent) xs) ≡ list_all (λ (r : Resident). test r.extent) xs
all_extents test [] = refl
all_extents test (x ∷ xs) = ap (λ b. test x.extent && b) (all_extents test xs)

-- what all extents pass, those pass that stay
all_left : (test : Extent → Bool) (k : VictimClass) (gone : List Extent) (xs : List Resident) → list_all test (map (λ (r : Resident). r.extent) xs) ≡ true → list_all test (extents_staying k (remaining gone xs)) ≡ true
all_left test k gone xs h =
    all_extents test (filter (λ r. not (goes_if k r.classes)) (remaining gone xs))
    ∙ all-filter (λ (r : Resident). test r.extent) (λ r. not (goes_if k r.classes)) (remaining gone xs)
    (all-filter (λ (r : Resident). test r.extent) (λ r. not (list_any (λ g. nat_eq g.offset r.extent.offset) gone)) xs (sym (all_extents test xs) ∙ h))

from_zero : (xs : List Extent) → AllByRecursion (λ (y : Extent). 0 ≤ y.offset) xs
from_zero [] = tt
from_zero (x ∷ xs) = (omega arith, from_zero xs)

module _ (store : Shape) (window : Region) (device : DeviceRoom) (facts : Looked) (described : IsDescribed store window device facts) (es : List (ObjectId × OrderSlot)) (apart : AreSlotsApart es)
    (agreed : AllPass (λ id s. same_info s (info_at facts id)) (shown_order es)) (listed : (id : ObjectId) → is_some (facts id) ≡ true → is_among (order_ids (shown_order es)) id ≡ true) where
  abbrev order : List ObjectId
  order = order_ids (shown_order es)

  -- all of a class and of those before it
  abbrev pub base : VictimClass → List ObjectId
  base Evictable = chosen facts Evictable order
  base Draining = chosen facts Evictable order ++ chosen facts Draining order
  base Spillable = (chosen facts Evictable order ++ chosen facts Draining order) ++ chosen facts Spillable order

  among_chosen : (k : VictimClass) (id : ObjectId) → is_among order id ≡ true → is_among (chosen facts k order) id ≡ has k (info_at facts id).classes
  among_chosen k id there = among-filter (passes_at facts k) order id ∙ ap (λ b. b && passes_at facts k id) there ∙ sym (passes-eviction_info facts k id)

  among_passing : (id : ObjectId) → is_among order id ≡ true → is_among (chosen facts Evictable order ++ chosen facts Draining order) id ≡ (info_at facts id).classes.evictable || (info_at facts id).classes.draining
  among_passing id there =
      list_any-append (same_id id) (chosen facts Evictable order) (chosen facts Draining order)
      ∙ (λ i. among_chosen Evictable id there i || among_chosen Draining id there i)

  among_base : (k : VictimClass) (id : ObjectId) → is_among order id ≡ true → is_among (base k) id ≡ goes_if k (info_at facts id).classes
  among_base Evictable id there = among_chosen Evictable id there
  among_base Draining id there = among_passing id there
  among_base Spillable id there =
      list_any-append (same_id id) (chosen facts Evictable order ++ chosen facts Draining order) (chosen facts Spillable order)
      ∙ (λ i. among_passing id there i || among_chosen Spillable id there i)
      ∙ assoc (info_at facts id).classes.evictable (info_at facts id).classes.draining (info_at facts id).classes.spillable
    where
      assoc : (a b c : Bool) → (a || b) || c ≡ a || (b || c)
      assoc true b c = refl
      assoc false b c = refl

  -- ---- tests of what stays

  module _ (test : Extent → Bool) (out : List ObjectId) where
    -- a copy goes, or isn't resident, or its extent passes
    abbrev stays_well : ObjectId → Bool
    stays_well id = is_among out id || option_map_or test (extent_at facts id) true

    -- what isn't there stays well
    absent_well : (id : ObjectId) → facts id ≡ None → stays_well id ≡ true
    absent_well id is = ap (λ o. is_among out id || option_map_or test (option_and_then (λ (c : CopyFacts). c.extent) o) true) is ∙ or_true (is_among out id)

    each_known : (es2 : List (ObjectId × OrderSlot)) → list_all (λ (c : ObjectId × Copy). stays_well c.0) store.copies ≡ true → list_all (λ (e : ObjectId × OrderSlot). stays_well e.0) es2 ≡ true
    each_known [] all = refl
    each_known (e ∷ es2) all = ap (λ b. b && list_all (λ (f : ObjectId × OrderSlot). stays_well f.0) es2) (by (at store.copies e.0) refl) ∙ each_known es2 all
      where
        by : (o : Option Copy) → at store.copies e.0 ≡ o → stays_well e.0 ≡ true
        by None is = absent_well e.0 (described.looked e.0 ∙ ap (option_map (facts_of store e.0)) is)
        by (Some copy) is = found-passes stays_well store.copies e.0 copy is all

    each_listed : (cs : ById Copy) → AllByRecursion (IsFound store.copies) cs → list_all stays_well order ≡ true → list_all (λ (c : ObjectId × Copy). stays_well c.0) cs ≡ true
    each_listed [] found all = refl
    each_listed (c ∷ cs) found all =
        let some : is_some (facts c.0) ≡ true = ap is_some (described.looked c.0 ∙ ap (option_map (facts_of store c.0)) found.0) in
        ap (λ b. b && list_all (λ (d : ObjectId × Copy). stays_well d.0) cs) (among-passes stays_well order c.0 (listed c.0 some) all) ∙ each_listed cs found.1 all

    all_keys : (es2 : List (ObjectId × OrderSlot)) → list_all stays_well (keys_of (shown_order es2)) ≡ list_all (λ (e : ObjectId × OrderSlot). stays_well e.0) es2
    all_keys [] = refl
    all_keys (e ∷ es2) = ap (λ b. stays_well e.0 && b) (all_keys es2)

    in_order : list_all stays_well order ≡ list_all (λ (e : ObjectId × OrderSlot). stays_well e.0) es
    in_order = list_all-reverse stays_well (keys_of (shown_order es)) ∙ all_keys es

    -- the copies of the store, or those of the order
    copies_known : list_all (λ (c : ObjectId × Copy). stays_well c.0) store.copies ≡ list_all (λ (e : ObjectId × OrderSlot). stays_well e.0) es
    copies_known = both_ways (list_all (λ (c : ObjectId × Copy). stays_well c.0) store.copies) (list_all (λ (e : ObjectId × OrderSlot). stays_well e.0) es)
        (each_known es)
        (λ all. each_listed store.copies (each_found store.copies described.by_id) (in_order ∙ all))

    -- what the facts tell of a copy that is found
    found_well : (e : ObjectId × Copy) → at store.copies e.0 ≡ Some e.1 → is_among out e.0 || option_map_or test (extent_of e.1) true ≡ stays_well e.0
    found_well e found = ap (λ o. is_among out e.0 || option_map_or test (option_and_then (λ (c : CopyFacts). c.extent) o) true) (sym (described.looked e.0 ∙ ap (option_map (facts_of store e.0)) found))

    pub copies-well : list_all (λ e. is_among out e.0 || option_map_or test (extent_of e.1) true) store.copies ≡ list_all (λ (e : ObjectId × OrderSlot). stays_well e.0) es
    copies-well =
        all_agree (λ e. is_among out e.0 || option_map_or test (extent_of e.1) true) (λ e. stays_well e.0) store.copies
        (each_agrees found_well store.copies (each_found store.copies described.by_id))
        ∙ copies_known

  -- ---- where the copies of the order lie

  -- what an entry's info tells of its copy
  module _ (test : Extent → Bool) (k : VictimClass) (ids : List ObjectId) where
    abbrev resident_well : Resident → Bool
    resident_well r = goes_if k r.classes || (goes (gone_of facts ids) r.extent.offset || test r.extent)

    abbrev standing_well : EvictionInfo → Bool
    standing_well s = option_map_or (λ x. resident_well (record { extent = x; classes = s.classes })) s.extent true

    one_well : (id : ObjectId) → standing_well (info_at facts id) ≡ stays_well test (base k ++ ids) id
    one_well id = by (at store.copies id) refl
      where
        known : (o : Option Copy) → at store.copies id ≡ o → facts id ≡ option_map (facts_of store id) o
        known o is = described.looked id ∙ ap (option_map (facts_of store id)) is

        resident_at : (copy : Copy) → at store.copies id ≡ Some copy → (o : Option Extent) → extent_of copy ≡ o
            → option_map_or (λ x. resident_well (record { extent = x; classes = (info_of (facts_of store id copy)).classes })) o true
            ≡ is_among (base k ++ ids) id || option_map_or test o true
        resident_at copy is None lies = sym (or_true (is_among (base k ++ ids) id))
        resident_at copy is (Some x) lies =
            let there : is_among order id ≡ true = listed id (ap is_some (known (Some copy) is)) in
            let chosen : is_among (base k) id ≡ goes_if k (info_of (facts_of store id copy)).classes = among_base k id there ∙ ap (λ o. goes_if k (option_map_or info_of o nowhere).classes) (known (Some copy) is) in
            assoc (goes_if k (info_of (facts_of store id copy)).classes) (goes (gone_of facts ids) x.offset) (test x)
            ∙ (λ i. (sym chosen i || goes-among store window device facts described id copy x is lies ids i) || test x)
            ∙ ap (λ b. b || test x) (sym (list_any-append (same_id id) (base k) ids))
          where
            assoc : (a b c : Bool) → a || (b || c) ≡ (a || b) || c
            assoc true b c = refl
            assoc false b c = refl

        by : (o : Option Copy) → at store.copies id ≡ o → standing_well (info_at facts id) ≡ stays_well test (base k ++ ids) id
        by None is =
            ap (λ o. standing_well (option_map_or info_of o nowhere)) (known None is)
            ∙ sym (absent_well test (base k ++ ids) id (known None is))
        by (Some copy) is =
            ap (λ o. standing_well (option_map_or info_of o nowhere)) (known (Some copy) is)
            ∙ resident_at copy is (extent_of copy) refl
            ∙ ap (λ o. is_among (base k ++ ids) id || option_map_or test (option_and_then (λ (c : CopyFacts). c.extent) o) true) (sym (known (Some copy) is))

    entries_well : (es2 : List (ObjectId × OrderSlot)) → AllPass (λ id s. same_info s (info_at facts id)) (shown_order es2) → list_all (λ (e : ObjectId × OrderSlot). standing_well e.1.eviction_info) es2 ≡ list_all (λ (e : ObjectId × OrderSlot). stays_well test (base k ++ ids) e.0) es2
    entries_well [] t = refl
    entries_well (e ∷ es2) t =
        let here : standing_well e.1.eviction_info ≡ stays_well test (base k ++ ids) e.0 = ap standing_well (same_standing-equal e.1.eviction_info (info_at facts e.0) t.0) ∙ one_well e.0 in
        (λ i. here i && entries_well es2 t.1 i)

    -- the extents that stay in the window pass a test if those do that stay in the index
    pub stays-agree : list_all test (extents_of (without (gone_of facts (base k ++ ids)) window.placed)) ≡ list_all test (extents_staying k (remaining (gone_of facts ids) (spread es)))
    stays-agree =
        same_tests store window device facts described 0 (base k ++ ids) test
        ∙ all_kept test (base k ++ ids) store.copies
        ∙ copies-well test (base k ++ ids)
        ∙ sym (entries_well es agreed)
        ∙ sym (all_spread resident_well es apart)
        ∙ sym (all_staying test k (gone_of facts ids) (spread es))

  -- all extents of the window, and all in the index
  all_agree_here : (test : Extent → Bool) → list_all test (extents_of window.placed) ≡ list_all test (map (λ (r : Resident). r.extent) (spread es))
  all_agree_here test =
      all_same test (extents_of window.placed) (extents_in store) described.extents
      ∙ all_of test store.copies
      ∙ copies-well test []
      ∙ sym (plain_well es agreed)
      ∙ sym (all_spread (λ r. test r.extent) es apart)
      ∙ sym (all_extents test (spread es))
    where
      one : (id : ObjectId) → option_map_or test (info_at facts id).extent true ≡ stays_well test [] id
      one id = by (facts id)
        where
          by : (o : Option CopyFacts) → option_map_or test (option_map_or info_of o nowhere).extent true ≡ option_map_or test (option_and_then (λ (c : CopyFacts). c.extent) o) true
          by None = refl
          by (Some copy) = refl

      plain_well : (es2 : List (ObjectId × OrderSlot)) → AllPass (λ id s. same_info s (info_at facts id)) (shown_order es2) → list_all (λ (e : ObjectId × OrderSlot). option_map_or test e.1.eviction_info.extent true) es2 ≡ list_all (λ (e : ObjectId × OrderSlot). stays_well test [] e.0) es2
      plain_well [] t = refl
      plain_well (e ∷ es2) t =
          let here : option_map_or test e.1.eviction_info.extent true ≡ stays_well test [] e.0 = ap (λ (s : EvictionInfo). option_map_or test s.extent true) (same_standing-equal e.1.eviction_info (info_at facts e.0) t.0) ∙ one e.0 in
          (λ i. here i && plain_well es2 t.1 i)

  module _ (laid : LaidFrom window.quota 0 (extents_of window.placed)) where
    extents_here : List Extent
    extents_here = map (λ (r : Resident). r.extent) (spread es)

    units_here : list_all (is_unit window.quota) extents_here ≡ true
    unfolding extents_here
    units_here = sym (all_agree_here (is_unit window.quota)) ∙ laid_units window.quota 0 (extents_of window.placed) laid

    clear_here : list_all (λ x. list_all (is_clear_of x) extents_here) extents_here ≡ true
    unfolding extents_here
    clear_here =
        sym (all_agree_here (λ x. list_all (is_clear_of x) (map (λ (r : Resident). r.extent) (spread es))))
        ∙ (λ i. list_all (λ x. sym (all_agree_here (is_clear_of x)) i) (extents_of window.placed))
        ∙ laid_clear window.quota 0 (extents_of window.placed) laid

    laid_staying : (k : VictimClass) (gone : List Extent) → LaidFrom window.quota 0 (extents_staying k (remaining gone (spread es)))
    unfolding extents_here
    laid_staying k gone =
        let left = extents_staying k (remaining gone (spread es)) in
        laid_from window.quota 0 left
        (extents_rising (filter (λ r. not (goes_if k r.classes)) (remaining gone (spread es))) (filter_rising (λ r. not (goes_if k r.classes)) (remaining gone (spread es)) (filter_rising (λ r. not (list_any (λ g. nat_eq g.offset r.extent.offset) gone)) (spread es) (spread-rising es))))
        (all_left (is_unit window.quota) k gone (spread es) units_here)
        (all_left (λ x. list_all (is_clear_of x) left) k gone (spread es)
        (all_more (λ x. list_all (is_clear_of x) (map (λ (r : Resident). r.extent) (spread es))) (λ x. list_all (is_clear_of x) left) (λ x t. all_left (is_clear_of x) k gone (spread es) t) (map (λ (r : Resident). r.extent) (spread es)) clear_here))
        (from_zero left) (omega arith)

    -- n bytes fit without these copies and all of the classes if the index says so
    pub fits-agree : (n : ℕ) → 0 < n → (k : VictimClass) (ids : List ObjectId) → fits_without window facts n (base k ++ ids) ≡ has_gap window.quota (rounded n) (span_of (extents_staying k (remaining (gone_of facts ids) (spread es))))
    fits-agree n some k ids =
        let left = extents_staying k (remaining (gone_of facts ids) (spread es)) in
        ap is_some (first-same (extents_of (without (gone_of facts (base k ++ ids)) window.placed)) left window.quota n
        (λ o. ap (λ b. nat_le (o + rounded n) window.quota && b) (stays-agree (is_apart (record { offset = o; length = rounded n })) k ids)))
        ∙ first-gap window.quota n left some (laid_staying k (gone_of facts ids))
