-- Where the copies of an order lie, after a change of one of them.
use Rattle.std.proofs.Common.{◌≡◌, ◌≢◌, ℕ, Bool, true, false, not, ◌&&◌, ◌||◌, List, [], ◌∷◌, Option, Some, None, refl, sym, ap, subst, ◌∙◌, arith, cond}
use Rattle.std.specs.Prelude.{nat_eq}
use Rattle.std.specs.Map.{lookup, remove_entry, set_value}
use Rattle.std.specs.Option.{option_map_or}
use Rattle.std.proofs.lemmas.Bool.Decides.{nat_tests}
use Rattle.obj_id.specs.declared.ids.ObjectId.{ObjectId}
use Rattle.obj_id.specs.declared.works.Extent.{Extent}
use Rattle.obj_id.specs.Ids.{id_eq}
use Rattle.use_tree.specs.declared.classes.VictimClasses.{VictimClasses}
use Rattle.extent_tree.specs.declared.residents.Resident.{Resident}
use Rattle.extent_tree.specs.Residents.{AreResidentsRising, put_resident, take_resident, has_resident, resident_with_classes}
use Rattle.lru_evictor.specs.Orders.{same_extent, may_lie}
use Rattle.lru_evictor.proofs.Truths.{some_is, each}
use Rattle.lru_evictor.proofs.Lists.{rising-put, has-put, has-set_info, take-put, take-put_other, set_info-put, set_info-put_other, put-put}
use Rattle.lru_evictor.specs.declared.facts.EvictionInfo.{EvictionInfo}
use Rattle.lru_evictor.specs.declared.index.OrderSlot.{OrderSlot}
use Rattle.lru_evictor.specs.Indexed.{spread_one, spread, is_clear, AreSlotsApart, Stands}

-- a copy that lies there
abbrev pub lying : Extent → VictimClasses → EvictionInfo
lying e c = record { extent = Some e; classes = c }

abbrev resident : Extent → VictimClasses → Resident
resident e c = record { extent = e; classes = c }

pub spread-rising : (es : List (ObjectId × OrderSlot)) → AreResidentsRising (spread es)
spread-rising [] = tt
spread-rising (e ∷ es) = by (spread-rising es) e.1.eviction_info.extent
  where
    by : AreResidentsRising (spread es) → (o : Option Extent) → AreResidentsRising (option_map_or (λ x. put_resident (resident x e.1.eviction_info.classes) (spread es)) o (spread es))
    by rest None = rest
    by rest (Some x) = rising-put (resident x e.1.eviction_info.classes) (spread es) rest

-- ---- one info among others

-- something is there, and nothing there
apart_from : (o p : ℕ) (xs : List Resident) → has_resident o xs ≡ true → has_resident p xs ≡ false → o ≢ p
apart_from o p xs there none same = let t : true ≡ false = sym there ∙ ap (λ q. has_resident q xs) same ∙ none in absurd (differ t)
  where
    differ : true ≡ false → ⊥
    differ h = cc

not_true : (b : Bool) → not b ≡ true → b ≡ false
not_true true h = cc
not_true false h = refl

pub clear-none : (s : EvictionInfo) (e : Extent) (xs : List Resident) → s.extent ≡ Some e → is_clear s xs ≡ true → has_resident e.offset xs ≡ false
clear-none s e xs is h = not_true (has_resident e.offset xs) (ap (λ o. option_map_or (λ (x : Extent). not (has_resident x.offset xs)) o true) (sym is) ∙ h)

module _ (s : EvictionInfo) (xs : List Resident) where
  one-take : (o : ℕ) → AreResidentsRising xs → has_resident o xs ≡ true → is_clear s xs ≡ true → take_resident o (spread_one s xs) ≡ spread_one s (take_resident o xs)
  one-take o rising there clear = by s.extent refl
    where
      by : (r : Option Extent) → s.extent ≡ r → take_resident o (option_map_or (λ x. put_resident (resident x s.classes) xs) r xs) ≡ option_map_or (λ x. put_resident (resident x s.classes) (take_resident o xs)) r (take_resident o xs)
      by None is = refl
      by (Some x) is = take-put_other (resident x s.classes) o (apart_from o x.offset xs there (clear-none s x xs is clear)) xs rising

  one-set_info : (o : ℕ) (m : VictimClasses) → has_resident o xs ≡ true → is_clear s xs ≡ true → resident_with_classes o m (spread_one s xs) ≡ spread_one s (resident_with_classes o m xs)
  one-set_info o m there clear = by s.extent refl
    where
      by : (r : Option Extent) → s.extent ≡ r → resident_with_classes o m (option_map_or (λ x. put_resident (resident x s.classes) xs) r xs) ≡ option_map_or (λ x. put_resident (resident x s.classes) (resident_with_classes o m xs)) r (resident_with_classes o m xs)
      by None is = refl
      by (Some x) is = set_info-put_other (resident x s.classes) o (apart_from o x.offset xs there (clear-none s x xs is clear)) m xs

  one-has : (o : ℕ) → has_resident o xs ≡ true → has_resident o (spread_one s xs) ≡ true
  one-has o there = by s.extent
    where
      or_true : (a : Bool) → a || true ≡ true
      or_true true = refl
      or_true false = refl

      by : (r : Option Extent) → has_resident o (option_map_or (λ x. put_resident (resident x s.classes) xs) r xs) ≡ true
      by None = there
      by (Some x) = has-put o (resident x s.classes) xs ∙ ap (λ b. nat_eq o x.offset || b) there ∙ or_true (nat_eq o x.offset)

  one-none : (o : ℕ) → has_resident o (spread_one s xs) ≡ false → has_resident o xs ≡ false
  one-none o none = by s.extent none
    where
      second : (a b : Bool) → a || b ≡ false → b ≡ false
      second true b h = cc
      second false b h = h

      by : (r : Option Extent) → has_resident o (option_map_or (λ x. put_resident (resident x s.classes) xs) r xs) ≡ false → has_resident o xs ≡ false
      by None h = h
      by (Some x) h = second (nat_eq o x.offset) (has_resident o xs) (sym (has-put o (resident x s.classes) xs) ∙ h)

  -- where nothing begins at either's offset, and one of the two isn't resident or both lie apart
  one-one : (t : EvictionInfo) → is_clear s (spread_one t xs) ≡ true → spread_one s (spread_one t xs) ≡ spread_one t (spread_one s xs)
  one-one t clear = by s.extent refl t.extent refl
    where
      both : (x y : Extent) → s.extent ≡ Some x → t.extent ≡ Some y → put_resident (resident x s.classes) (put_resident (resident y t.classes) xs) ≡ put_resident (resident y t.classes) (put_resident (resident x s.classes) xs)
      both x y is it = put-put (resident x s.classes) (resident y t.classes) apart xs
        where
          none : nat_eq x.offset y.offset || has_resident x.offset xs ≡ false
          none =
              sym (has-put x.offset (resident y t.classes) xs)
              ∙ ap (λ r. has_resident x.offset (option_map_or (λ z. put_resident (resident z t.classes) xs) r xs)) (sym it)
              ∙ clear-none s x (spread_one t xs) is clear

          first : (a b : Bool) → a || b ≡ false → a ≡ false
          first true b h = cc
          first false b h = refl

          apart : x.offset ≢ y.offset
          apart same = let t : true ≡ false = sym (grind (arith, nat_tests, same)) ∙ first (nat_eq x.offset y.offset) (has_resident x.offset xs) none in absurd (differ t)
            where
              differ : true ≡ false → ⊥
              differ h = cc

      by : (p : Option Extent) → s.extent ≡ p → (q : Option Extent) → t.extent ≡ q
          → option_map_or (λ x. put_resident (resident x s.classes) (option_map_or (λ y. put_resident (resident y t.classes) xs) q xs)) p (option_map_or (λ y. put_resident (resident y t.classes) xs) q xs)
          ≡ option_map_or (λ y. put_resident (resident y t.classes) (option_map_or (λ x. put_resident (resident x s.classes) xs) p xs)) q (option_map_or (λ x. put_resident (resident x s.classes) xs) p xs)
      by None is q it = refl
      by (Some x) is None it = refl
      by (Some x) is (Some y) it = both x y is it

-- two that lie apart do so in either order
one-clear : (s : EvictionInfo) (xs : List Resident) (t : EvictionInfo) → is_clear t (spread_one s xs) ≡ true → is_clear s xs ≡ true → is_clear s (spread_one t xs) ≡ true
one-clear s xs t other own = by s.extent refl t.extent refl
  where
    both : (x y : Extent) → s.extent ≡ Some x → t.extent ≡ Some y → has_resident x.offset (put_resident (resident y t.classes) xs) ≡ false
    both x y is it =
        has-put x.offset (resident y t.classes) xs ∙ (λ i. away i || clear-none s x xs is own i)
      where
        none : nat_eq y.offset x.offset || has_resident y.offset xs ≡ false
        none =
            sym (has-put y.offset (resident x s.classes) xs)
            ∙ ap (λ r. has_resident y.offset (option_map_or (λ z. put_resident (resident z s.classes) xs) r xs)) (sym is)
            ∙ clear-none t y (spread_one s xs) it other

        first : (a b : Bool) → a || b ≡ false → a ≡ false
        first true b h = cc
        first false b h = refl

        swap : (b : Bool) → nat_eq x.offset y.offset ≡ b → nat_eq y.offset x.offset ≡ false → nat_eq x.offset y.offset ≡ false
        swap false e h = e
        swap true e h = let same : y.offset ≡ x.offset = grind (arith, nat_tests, e) in let level : nat_eq y.offset x.offset ≡ true = grind (arith, nat_tests, same) in cc

        away : nat_eq x.offset y.offset ≡ false
        away = swap (nat_eq x.offset y.offset) refl (first (nat_eq y.offset x.offset) (has_resident y.offset xs) none)

    by : (p : Option Extent) → s.extent ≡ p → (q : Option Extent) → t.extent ≡ q → option_map_or (λ (x : Extent). not (has_resident x.offset (option_map_or (λ y. put_resident (resident y t.classes) xs) q xs))) p true ≡ true
    by None is q it = refl
    by (Some x) is None it = ap not (clear-none s x xs is own)
    by (Some x) is (Some y) it = ap not (both x y is it)

-- fewer are as clear
clear-fewer : (s : EvictionInfo) (xs ys : List Resident) → ((o : ℕ) → has_resident o xs ≡ false → has_resident o ys ≡ false) → is_clear s xs ≡ true → is_clear s ys ≡ true
clear-fewer s xs ys fewer = by s.extent
  where
    by : (r : Option Extent) → option_map_or (λ (x : Extent). not (has_resident x.offset xs)) r true ≡ true → option_map_or (λ (x : Extent). not (has_resident x.offset ys)) r true ≡ true
    by None h = h
    by (Some x) h = ap not (fewer x.offset (not_true (has_resident x.offset xs) h))

module _ (id : ObjectId) (p : OrderSlot) where
  -- ---- what is there of a copy that is found

  pub found-has : (e : Extent) (es : List (ObjectId × OrderSlot)) → p.eviction_info.extent ≡ Some e → lookup (id_eq id) es ≡ Some p → has_resident e.offset (spread es) ≡ true
  found-has e [] is h = cc
  found-has e (f ∷ es) is h = (elim (id_eq id f.0) as (λ b. cond b (Some f.1) (lookup (id_eq id) es) ≡ Some p → has_resident e.offset (spread (f ∷ es)) ≡ true) [
    | true ↦ λ h. here (some_is f.1 p h)
    | false ↦ λ h. one-has f.1.eviction_info (spread es) e.offset (found-has e es is h)
  ]) h
    where
      here : f.1 ≡ p → has_resident e.offset (spread (f ∷ es)) ≡ true
      here same =
          ap (λ (q : OrderSlot). has_resident e.offset (spread_one q.eviction_info (spread es))) same
          ∙ ap (λ r. has_resident e.offset (option_map_or (λ x. put_resident (resident x p.eviction_info.classes) (spread es)) r (spread es))) is
          ∙ has-put e.offset (resident e p.eviction_info.classes) (spread es)
          ∙ ap (λ b. b || has_resident e.offset (spread es)) level
        where
          level : nat_eq e.offset e.offset ≡ true
          level = grind (arith, nat_tests)

  -- ---- a copy that goes

  module _ (e : Extent) (is : p.eviction_info.extent ≡ Some e) where
    pub spread-removed : (es : List (ObjectId × OrderSlot)) → AreSlotsApart es → lookup (id_eq id) es ≡ Some p → spread (remove_entry (id_eq id) es) ≡ take_resident e.offset (spread es)
    spread-removed [] a h = cc
    spread-removed (f ∷ es) a h = (elim (id_eq id f.0) as (λ b. cond b (Some f.1) (lookup (id_eq id) es) ≡ Some p → spread (cond b es (f ∷ remove_entry (id_eq id) es)) ≡ take_resident e.offset (spread (f ∷ es))) [
      | true ↦ λ h. here (some_is f.1 p h)
      | false ↦ λ h. ap (spread_one f.1.eviction_info) (spread-removed es a.1 h) ∙ sym (one-take f.1.eviction_info (spread es) e.offset (spread-rising es) (found-has e es is h) a.0)
    ]) h
      where
        here : f.1 ≡ p → spread es ≡ take_resident e.offset (spread (f ∷ es))
        here same =
            let lies : f.1.eviction_info.extent ≡ Some e = ap (λ (q : OrderSlot). q.eviction_info.extent) same ∙ is in
            sym (take-put (resident e f.1.eviction_info.classes) (spread es) (clear-none f.1.eviction_info e (spread es) lies a.0))
            ∙ ap (λ r. take_resident e.offset (option_map_or (λ x. put_resident (resident x f.1.eviction_info.classes) (spread es)) r (spread es))) (sym lies)

  pub spread-removed_nowhere : (es : List (ObjectId × OrderSlot)) → p.eviction_info.extent ≡ None → lookup (id_eq id) es ≡ Some p → spread (remove_entry (id_eq id) es) ≡ spread es
  spread-removed_nowhere [] is h = cc
  spread-removed_nowhere (f ∷ es) is h = (elim (id_eq id f.0) as (λ b. cond b (Some f.1) (lookup (id_eq id) es) ≡ Some p → spread (cond b es (f ∷ remove_entry (id_eq id) es)) ≡ spread (f ∷ es)) [
    | true ↦ λ h. here (some_is f.1 p h)
    | false ↦ λ h. ap (spread_one f.1.eviction_info) (spread-removed_nowhere es is h)
  ]) h
    where
      here : f.1 ≡ p → spread es ≡ spread (f ∷ es)
      here same = ap (λ r. option_map_or (λ x. put_resident (resident x f.1.eviction_info.classes) (spread es)) r (spread es)) (sym (ap (λ (q : OrderSlot). q.eviction_info.extent) same ∙ is))

  -- with or without
  removed_fewer : (es : List (ObjectId × OrderSlot)) (o : ℕ) → has_resident o (spread es) ≡ false → has_resident o (spread (remove_entry (id_eq id) es)) ≡ false
  removed_fewer [] o none = none
  removed_fewer (f ∷ es) o none = elim (id_eq id f.0) as (λ b. has_resident o (spread (cond b es (f ∷ remove_entry (id_eq id) es))) ≡ false) [
    | true ↦ one-none f.1.eviction_info (spread es) o none
    | false ↦ over (removed_fewer es o) f.1.eviction_info.extent none
  ]
    where
      both : (a b c : Bool) → a || b ≡ false → (b ≡ false → c ≡ false) → a || c ≡ false
      both true b c h f = cc
      both false b c h f = f h

      over : (has_resident o (spread es) ≡ false → has_resident o (spread (remove_entry (id_eq id) es)) ≡ false) → (r : Option Extent) → has_resident o (option_map_or (λ x. put_resident (resident x f.1.eviction_info.classes) (spread es)) r (spread es)) ≡ false
          → has_resident o (option_map_or (λ x. put_resident (resident x f.1.eviction_info.classes) (spread (remove_entry (id_eq id) es))) r (spread (remove_entry (id_eq id) es))) ≡ false
      over rest None h = rest h
      over rest (Some x) h =
          has-put o (resident x f.1.eviction_info.classes) (spread (remove_entry (id_eq id) es))
          ∙ both (nat_eq o x.offset) (has_resident o (spread es)) (has_resident o (spread (remove_entry (id_eq id) es))) (sym (has-put o (resident x f.1.eviction_info.classes) (spread es)) ∙ h) rest

  pub apart-removed : (es : List (ObjectId × OrderSlot)) → AreSlotsApart es → AreSlotsApart (remove_entry (id_eq id) es)
  apart-removed [] a = tt
  apart-removed (f ∷ es) a = elim (id_eq id f.0) as (λ b. AreSlotsApart (cond b es (f ∷ remove_entry (id_eq id) es))) [
    | true ↦ a.1
    | false ↦ (clear-fewer f.1.eviction_info (spread es) (spread (remove_entry (id_eq id) es)) (removed_fewer es) a.0, apart-removed es a.1)
  ]

  -- ---- a copy that stands otherwise

  -- in front of the others, or at its place among them
  module _ (q : OrderSlot) where
    pub spread-front : (es : List (ObjectId × OrderSlot)) → lookup (id_eq id) es ≡ Some p → AreSlotsApart (set_value (id_eq id) es q) → spread ((id, q) ∷ remove_entry (id_eq id) es) ≡ spread (set_value (id_eq id) es q)
    spread-front [] h a = cc
    spread-front (f ∷ es) h a = (elim (id_eq id f.0) as (λ b. cond b (Some f.1) (lookup (id_eq id) es) ≡ Some p → AreSlotsApart (cond b ((f.0, q) ∷ es) (f ∷ set_value (id_eq id) es q))
        → spread_one q.eviction_info (spread (cond b es (f ∷ remove_entry (id_eq id) es))) ≡ spread (cond b ((f.0, q) ∷ es) (f ∷ set_value (id_eq id) es q))) [
          | true ↦ λ h a. refl
          | false ↦ λ h a.
              let rest = spread-front es h a.1 in
              sym (one-one f.1.eviction_info (spread (remove_entry (id_eq id) es)) q.eviction_info (subst (λ xs. is_clear f.1.eviction_info xs ≡ true) (sym rest) a.0))
              ∙ ap (spread_one f.1.eviction_info) rest
        ]) h a

    -- in front of them it is as apart
    pub front-apart : (es : List (ObjectId × OrderSlot)) → lookup (id_eq id) es ≡ Some p → AreSlotsApart (set_value (id_eq id) es q) → AreSlotsApart ((id, q) ∷ remove_entry (id_eq id) es)
    front-apart [] h a = cc
    front-apart (f ∷ es) h a = (elim (id_eq id f.0) as (λ b. cond b (Some f.1) (lookup (id_eq id) es) ≡ Some p → AreSlotsApart (cond b ((f.0, q) ∷ es) (f ∷ set_value (id_eq id) es q))
        → AreSlotsApart ((id, q) ∷ cond b es (f ∷ remove_entry (id_eq id) es))) [
          | true ↦ λ h a. a
          | false ↦ λ h a.
              let rest = front-apart es h a.1 in
              let among = spread-front es h a.1 in
              let clear : is_clear f.1.eviction_info (spread_one q.eviction_info (spread (remove_entry (id_eq id) es))) ≡ true = subst (λ xs. is_clear f.1.eviction_info xs ≡ true) (sym among) a.0 in
              (one-clear q.eviction_info (spread (remove_entry (id_eq id) es)) f.1.eviction_info clear rest.0, (clear-fewer f.1.eviction_info (spread_one q.eviction_info (spread (remove_entry (id_eq id) es))) (spread (remove_entry (id_eq id) es)) (λ o none. one-none q.eviction_info (spread (remove_entry (id_eq id) es)) o none) clear, rest.1))
        ]) h a

  -- it lies where it lay
  module _ (e : Extent) (c : VictimClasses) (turn : ℕ) (is : p.eviction_info.extent ≡ Some e) where
    abbrev q : OrderSlot
    q = record { turn = turn; eviction_info = lying e c }

    pub spread-chosen : (es : List (ObjectId × OrderSlot)) → AreSlotsApart es → lookup (id_eq id) es ≡ Some p → spread (set_value (id_eq id) es q) ≡ resident_with_classes e.offset c (spread es)
    spread-chosen [] a h = cc
    spread-chosen (f ∷ es) a h = (elim (id_eq id f.0) as (λ b. cond b (Some f.1) (lookup (id_eq id) es) ≡ Some p → spread (cond b ((f.0, q) ∷ es) (f ∷ set_value (id_eq id) es q)) ≡ resident_with_classes e.offset c (spread (f ∷ es))) [
      | true ↦ λ h. here (some_is f.1 p h)
      | false ↦ λ h. ap (spread_one f.1.eviction_info) (spread-chosen es a.1 h) ∙ sym (one-set_info f.1.eviction_info (spread es) e.offset c (found-has e es is h) a.0)
    ]) h
      where
        here : f.1 ≡ p → put_resident (resident e c) (spread es) ≡ resident_with_classes e.offset c (spread (f ∷ es))
        here same =
            let lies : f.1.eviction_info.extent ≡ Some e = ap (λ (q : OrderSlot). q.eviction_info.extent) same ∙ is in
            sym (set_info-put (resident e f.1.eviction_info.classes) c (spread es) (clear-none f.1.eviction_info e (spread es) lies a.0))
            ∙ ap (λ r. resident_with_classes e.offset c (option_map_or (λ x. put_resident (resident x f.1.eviction_info.classes) (spread es)) r (spread es))) (sym lies)

    pub apart-chosen : (es : List (ObjectId × OrderSlot)) → AreSlotsApart es → lookup (id_eq id) es ≡ Some p → AreSlotsApart (set_value (id_eq id) es q)
    apart-chosen [] a h = cc
    apart-chosen (f ∷ es) a h = (elim (id_eq id f.0) as (λ b. cond b (Some f.1) (lookup (id_eq id) es) ≡ Some p → AreSlotsApart (cond b ((f.0, q) ∷ es) (f ∷ set_value (id_eq id) es q))) [
      | true ↦ λ h. (ap not (clear-none f.1.eviction_info e (spread es) (ap (λ (x : OrderSlot). x.eviction_info.extent) (some_is f.1 p h) ∙ is) a.0), a.1)
      | false ↦ λ h. (
        clear-fewer f.1.eviction_info (spread es) (spread (set_value (id_eq id) es q)) (λ o none. ap (has_resident o) (spread-chosen es a.1 h) ∙ has-set_info e.offset o c (spread es) ∙ none) a.0,
        apart-chosen es a.1 h,
      )
    ]) h

  -- it lies nowhere now, or lay nowhere and does so still
  module _ (c : VictimClasses) (turn : ℕ) where
    abbrev gone : OrderSlot
    gone = record { turn = turn; eviction_info = record { extent = None; classes = c } }

    -- as if it went
    pub spread-vacated : (es : List (ObjectId × OrderSlot)) → lookup (id_eq id) es ≡ Some p → spread (set_value (id_eq id) es gone) ≡ spread (remove_entry (id_eq id) es)
    spread-vacated [] h = cc
    spread-vacated (f ∷ es) h = (elim (id_eq id f.0) as (λ b. cond b (Some f.1) (lookup (id_eq id) es) ≡ Some p → spread (cond b ((f.0, gone) ∷ es) (f ∷ set_value (id_eq id) es gone)) ≡ spread (cond b es (f ∷ remove_entry (id_eq id) es))) [
      | true ↦ λ h. refl
      | false ↦ λ h. ap (spread_one f.1.eviction_info) (spread-vacated es h)
    ]) h

    pub apart-vacated : (es : List (ObjectId × OrderSlot)) → AreSlotsApart es → lookup (id_eq id) es ≡ Some p → AreSlotsApart (set_value (id_eq id) es gone)
    apart-vacated [] a h = cc
    apart-vacated (f ∷ es) a h = (elim (id_eq id f.0) as (λ b. cond b (Some f.1) (lookup (id_eq id) es) ≡ Some p → AreSlotsApart (cond b ((f.0, gone) ∷ es) (f ∷ set_value (id_eq id) es gone))) [
      | true ↦ λ h. (refl, a.1)
      | false ↦ λ h. (clear-fewer f.1.eviction_info (spread es) (spread (set_value (id_eq id) es gone)) (λ o none. ap (has_resident o) (spread-vacated es h) ∙ removed_fewer es o none) a.0, apart-vacated es a.1 h)
    ]) h

  -- it lay nowhere, and takes a place at which nothing begins
  module _ (e : Extent) (c : VictimClasses) (turn : ℕ) (is : p.eviction_info.extent ≡ None) where
    abbrev settled : OrderSlot
    settled = record { turn = turn; eviction_info = lying e c }

    pub spread-settled : (es : List (ObjectId × OrderSlot)) → has_resident e.offset (spread es) ≡ false → lookup (id_eq id) es ≡ Some p → spread (set_value (id_eq id) es settled) ≡ put_resident (resident e c) (spread es)
    spread-settled [] none h = cc
    spread-settled (f ∷ es) none h = (elim (id_eq id f.0) as (λ b. cond b (Some f.1) (lookup (id_eq id) es) ≡ Some p → spread (cond b ((f.0, settled) ∷ es) (f ∷ set_value (id_eq id) es settled)) ≡ put_resident (resident e c) (spread (f ∷ es))) [
      | true ↦ λ h. here (some_is f.1 p h)
      | false ↦ λ h.
          ap (spread_one f.1.eviction_info) (spread-settled es (one-none f.1.eviction_info (spread es) e.offset none) h)
          ∙ sym (one-one (lying e c) (spread es) f.1.eviction_info (ap not none))
    ]) h
      where
        here : f.1 ≡ p → put_resident (resident e c) (spread es) ≡ put_resident (resident e c) (spread (f ∷ es))
        here same = ap (λ r. put_resident (resident e c) (option_map_or (λ x. put_resident (resident x f.1.eviction_info.classes) (spread es)) r (spread es))) (sym (ap (λ (q : OrderSlot). q.eviction_info.extent) same ∙ is))

    pub apart-settled : (es : List (ObjectId × OrderSlot)) → AreSlotsApart es → has_resident e.offset (spread es) ≡ false → lookup (id_eq id) es ≡ Some p → AreSlotsApart (set_value (id_eq id) es settled)
    apart-settled [] a none h = cc
    apart-settled (f ∷ es) a none h = (elim (id_eq id f.0) as (λ b. cond b (Some f.1) (lookup (id_eq id) es) ≡ Some p → AreSlotsApart (cond b ((f.0, settled) ∷ es) (f ∷ set_value (id_eq id) es settled))) [
      | true ↦ λ h. (ap not (one-none f.1.eviction_info (spread es) e.offset none), a.1)
      | false ↦ λ h.
          let below = one-none f.1.eviction_info (spread es) e.offset none in
          (clear f.1.eviction_info.extent refl (spread-settled es below h), apart-settled es a.1 below h)
    ]) h
      where
        differ : true ≡ false → ⊥
        differ h = cc

        -- nothing begins where the other does
        clear : (r : Option Extent) → f.1.eviction_info.extent ≡ r → spread (set_value (id_eq id) es settled) ≡ put_resident (resident e c) (spread es) → option_map_or (λ (x : Extent). not (has_resident x.offset (spread (set_value (id_eq id) es settled)))) r true ≡ true
        clear None there shown = refl
        clear (Some x) there shown =
            let apart : nat_eq x.offset e.offset ≡ false = away (nat_eq x.offset e.offset) refl in
            ap not (ap (has_resident x.offset) shown ∙ has-put x.offset (resident e c) (spread es) ∙ (λ i. apart i || clear-none f.1.eviction_info x (spread es) there a.0 i))
          where
            away : (b : Bool) → nat_eq x.offset e.offset ≡ b → nat_eq x.offset e.offset ≡ false
            away false t = t
            away true t =
                let same : e.offset ≡ x.offset = grind (arith, nat_tests, t) in
                let level : nat_eq e.offset x.offset ≡ true = grind (arith, nat_tests, same) in
                let here : has_resident e.offset (spread (f ∷ es)) ≡ true =
                ap (λ r. has_resident e.offset (option_map_or (λ y. put_resident (resident y f.1.eviction_info.classes) (spread es)) r (spread es))) there
                ∙ has-put e.offset (resident x f.1.eviction_info.classes) (spread es)
                ∙ ap (λ b. b || has_resident e.offset (spread es)) level in
                absurd (differ (sym here ∙ none))

-- ---- a copy that stood so stands so now

module _ (id : ObjectId) (turn next : ℕ) where
  -- the turn doesn't matter
  same_spread : (s : EvictionInfo) (es : List (ObjectId × OrderSlot)) → lookup (id_eq id) es ≡ Some (record { turn = turn; eviction_info = s }) → AreSlotsApart es
      → (spread (set_value (id_eq id) es (record { turn = next; eviction_info = s })) ≡ spread es) × AreSlotsApart (set_value (id_eq id) es (record { turn = next; eviction_info = s }))
  same_spread s [] h a = cc
  same_spread s (f ∷ es) h a = (elim (id_eq id f.0) as (λ b. cond b (Some f.1) (lookup (id_eq id) es) ≡ Some (record { turn = turn; eviction_info = s })
      → (spread (cond b ((f.0, record { turn = next; eviction_info = s }) ∷ es) (f ∷ set_value (id_eq id) es (record { turn = next; eviction_info = s }))) ≡ spread (f ∷ es))
      × AreSlotsApart (cond b ((f.0, record { turn = next; eviction_info = s }) ∷ es) (f ∷ set_value (id_eq id) es (record { turn = next; eviction_info = s })))) [
        | true ↦ λ h.
            let same : f.1.eviction_info ≡ s = ap (λ (q : OrderSlot). q.eviction_info) (some_is f.1 (record { turn = turn; eviction_info = s }) h) in
            (ap (λ (t : EvictionInfo). spread_one t (spread es)) (sym same), (ap (λ (t : EvictionInfo). is_clear t (spread es)) (sym same) ∙ a.0, a.1))
        | false ↦ λ h.
            let rest = same_spread s es h a.1 in
            (ap (spread_one f.1.eviction_info) rest.0, (ap (is_clear f.1.eviction_info) rest.0 ∙ a.0, rest.1))
      ]) h

pub stands-same : (before after : EvictionInfo) (xs : List Resident) → before ≡ after → Stands before after xs xs
stands-same before after xs same id turn next es found shown apart =
    let rest = same_spread id turn next before es found apart in
    subst (λ (s : EvictionInfo). (xs ≡ spread (set_value (id_eq id) es (record { turn = next; eviction_info = s }))) × AreSlotsApart (set_value (id_eq id) es (record { turn = next; eviction_info = s }))) same
    (shown ∙ sym rest.0, rest.1)

module _ (before after : EvictionInfo) (old new : List Resident) where
  abbrev standing_now : EvictionInfo → Type 0
  standing_now s = Stands before s old new

  nowhere_now : after.extent ≡ None → after ≡ record { extent = None; classes = after.classes }
  nowhere_now is = λ i. record { extent = is i; classes = after.classes }

  pub stands-nowhere : before.extent ≡ None → after.extent ≡ None → new ≡ old → Stands before after old new
  stands-nowhere was is same = subst standing_now (sym (nowhere_now is)) (λ id turn next es found shown apart.
      let p : OrderSlot = record { turn = turn; eviction_info = before } in
      (same ∙ shown ∙ sym (spread-vacated id p after.classes next es found ∙ spread-removed_nowhere id p es was found), apart-vacated id p after.classes next es apart found))

  pub stands-leaving : (e : Extent) → before.extent ≡ Some e → after.extent ≡ None → new ≡ take_resident e.offset old → Stands before after old new
  stands-leaving e was is taken = subst standing_now (sym (nowhere_now is)) (λ id turn next es found shown apart.
      let p : OrderSlot = record { turn = turn; eviction_info = before } in
      (taken ∙ ap (take_resident e.offset) shown ∙ sym (spread-vacated id p after.classes next es found ∙ spread-removed id p e was es apart found), apart-vacated id p after.classes next es apart found))

  pub stands-staying : (e : Extent) → before.extent ≡ Some e → after.extent ≡ Some e → new ≡ resident_with_classes e.offset after.classes old → Stands before after old new
  stands-staying e was is chosen = subst standing_now (sym here) (λ id turn next es found shown apart.
      let p : OrderSlot = record { turn = turn; eviction_info = before } in
      (chosen ∙ ap (resident_with_classes e.offset after.classes) shown ∙ sym (spread-chosen id p e after.classes next was es apart found), apart-chosen id p e after.classes next was es apart found))
    where
      here : after ≡ lying e after.classes
      here = λ i. record { extent = is i; classes = after.classes }

-- ---- what may be said of a copy

same_extent-itself : (o : Option Extent) → same_extent o o ≡ true
same_extent-itself None = refl
same_extent-itself (Some e) =
    let at : nat_eq e.offset e.offset ≡ true = grind (arith, nat_tests) in
    let long : nat_eq e.length e.length ≡ true = grind (arith, nat_tests) in
    (λ i. at i && long i)

-- that it lies where it lay
pub may-stay : (o : Option Extent) → may_lie o o ≡ true
may-stay o = ap (λ b. same_extent o None || b) (same_extent-itself o) ∙ or_true (same_extent o None)
  where
    or_true : (a : Bool) → a || true ≡ true
    or_true true = refl
    or_true false = refl

-- nothing comes to lie anywhere
pub may-nowhere : (o : Option Extent) → may_lie None o ≡ true → o ≡ None
may-nowhere None h = refl
may-nowhere (Some e) h = cc

-- or elsewhere
pub may-there : (a b : Extent) → may_lie (Some a) (Some b) ≡ true → a ≡ b
may-there a b h =
    let both = each (nat_eq a.offset b.offset) (nat_eq a.length b.length) h in
    let at : a.offset ≡ b.offset = grind (arith, nat_tests, both.0) in
    let long : a.length ≡ b.length = grind (arith, nat_tests, both.1) in
    λ i. record { offset = at i; length = long i }
