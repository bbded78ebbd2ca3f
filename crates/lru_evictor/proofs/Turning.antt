-- Uses that get turns anew, the last first.
use Rattle.std.proofs.Common.{◌≡◌, ℕ, suc, ◌+◌, ◌-◌, ◌<◌, Bool, true, false, List, [], ◌∷◌, ◌++◌, length, Some, None, refl, sym, ap, subst, ◌∙◌, arith, cond, map, append_assoc, append-nil, length-append}
use Rattle.std.specs.Prelude.{slice_get}
use Rattle.std.specs.List.{IsDistinct, AllByRecursion}
use Rattle.std.specs.Map.{keys_of, lookup, remove_entry, set_value}
use Rattle.std.proofs.lemmas.Map.Keys.{IsDistinct-head, IsDistinct-tail}
use Rattle.lru.specs.LruCache.{promoted, last_entry}
use Rattle.obj_id.specs.Ids.{id_eq}
use Rattle.obj_id.specs.declared.ids.ObjectId.{ObjectId}
use Rattle.store_facts.proofs.Ids.{id_eq-equal, id_eq-itself}
use Rattle.store_facts.proofs.Tests.{true_false}
use Rattle.use_tree.specs.declared.uses.Use.{Use}
use Rattle.use_tree.specs.Uses.{AreUsesRising, take_use, has_use}
use Rattle.lru_evictor.specs.declared.index.OrderSlot.{OrderSlot}
use Rattle.lru_evictor.specs.declared.facts.EvictionInfo.{EvictionInfo}
use Rattle.lru_evictor.specs.Indexed.{Listed, IsIndexOf, use_of, with_turn, shown_order, spread, spread_one, is_clear, AreSlotsApart}
use Rattle.lru_evictor.proofs.Uses.{set-moved, use-taken, use-there}

abbrev Entries : Type 0
Entries = List (ObjectId × OrderSlot)

-- ---- the last entry

pub last-is : (xs : Entries) (e : ObjectId × OrderSlot) → last_entry (xs ++ e ∷ []) ≡ Some e
last-is [] e = refl
last-is (x ∷ xs) e =
    let long = length-append xs (e ∷ []) in
    let on : length (x ∷ (xs ++ e ∷ [])) - 1 ≡ suc (length (xs ++ e ∷ []) - 1) = omega (arith, long) in
    ap (slice_get (x ∷ (xs ++ e ∷ []))) on ∙ last-is xs e

-- all keys differ from the last
last_differs : (k : ObjectId) (xs : Entries) (e : ObjectId × OrderSlot) → AllByRecursion (λ y. id_eq k y ≡ false) (keys_of (xs ++ e ∷ [])) → id_eq k e.0 ≡ false
last_differs k [] e h = h.0
last_differs k (x ∷ xs) e h = last_differs k xs e h.1

-- and it from them
other : (k last : ObjectId) → id_eq k last ≡ false → id_eq last k ≡ false
other k last differ = by (id_eq last k) refl
  where
    by : (b : Bool) → id_eq last k ≡ b → id_eq last k ≡ false
    by false t = t
    by true t = true_false (sym differ ∙ ap (id_eq k) (id_eq-equal last k t) ∙ id_eq-itself k)

module _ (e : ObjectId × OrderSlot) where
  pub last-found : (xs : Entries) → IsDistinct id_eq (keys_of (xs ++ e ∷ [])) → lookup (id_eq e.0) (xs ++ e ∷ []) ≡ Some e.1
  last-found [] d = ap (λ b. cond b (Some e.1) None) (id_eq-itself e.0)
  last-found (x ∷ xs) d =
      let away = other x.0 e.0 (last_differs x.0 xs e (IsDistinct-head id_eq x.0 (keys_of (xs ++ e ∷ [])) d)) in
      ap (λ b. cond b (Some x.1) (lookup (id_eq e.0) (xs ++ e ∷ []))) away ∙ last-found xs (IsDistinct-tail id_eq x.0 (keys_of (xs ++ e ∷ [])) d)

  pub last-removed : (xs : Entries) → IsDistinct id_eq (keys_of (xs ++ e ∷ [])) → remove_entry (id_eq e.0) (xs ++ e ∷ []) ≡ xs
  last-removed [] d = ap (λ b. cond b [] (e ∷ [])) (id_eq-itself e.0)
  last-removed (x ∷ xs) d =
      let away = other x.0 e.0 (last_differs x.0 xs e (IsDistinct-head id_eq x.0 (keys_of (xs ++ e ∷ [])) d)) in
      ap (λ b. cond b (xs ++ e ∷ []) (x ∷ remove_entry (id_eq e.0) (xs ++ e ∷ []))) away
      ∙ ap (λ ys. x ∷ ys) (last-removed xs (IsDistinct-tail id_eq x.0 (keys_of (xs ++ e ∷ [])) d))

-- the keys of a part are distinct as those of all are
pub distinct-back : (done rest : Entries) → IsDistinct id_eq (keys_of (done ++ rest)) → IsDistinct id_eq (keys_of rest)
distinct-back [] rest d = d
distinct-back (x ∷ xs) rest d = distinct-back xs rest (IsDistinct-tail id_eq x.0 (keys_of (xs ++ rest)) d)

-- ---- one gets its turn

module _ (es done rest : Entries) (e : ObjectId × OrderSlot) (is : es ≡ done ++ (rest ++ e ∷ [])) (distinct : IsDistinct id_eq (keys_of es)) where
  whole : es ≡ (done ++ rest) ++ e ∷ []
  whole = is ∙ sym (append_assoc done rest (e ∷ []))

  parted : IsDistinct id_eq (keys_of ((done ++ rest) ++ e ∷ []))
  parted = subst (λ xs. IsDistinct id_eq (keys_of xs)) whole distinct

  pub turned-last : last_entry es ≡ Some e
  turned-last = ap last_entry whole ∙ last-is (done ++ rest) e

  pub turned-found : lookup (id_eq e.0) es ≡ Some e.1
  turned-found = ap (lookup (id_eq e.0)) whole ∙ last-found e (done ++ rest) parted

  -- it is the first then, with its turn
  pub turned-first : (turn : ℕ) → set_value (id_eq e.0) (promoted (id_eq e.0) es) (with_turn turn e).1 ≡ with_turn turn e ∷ (done ++ rest)
  turned-first turn =
      set-moved e.0 e.1 (with_turn turn e).1 es turned-found
      ∙ ap (λ xs. with_turn turn e ∷ xs) (ap (remove_entry (id_eq e.0)) whole ∙ last-removed e (done ++ rest) parted)

  last_part : IsDistinct id_eq (keys_of (rest ++ e ∷ []))
  last_part = distinct-back done (rest ++ e ∷ []) (subst (λ xs. IsDistinct id_eq (keys_of xs)) is distinct)

  -- its old use is there, and is taken
  pub turned-there : has_use e.1.turn (map use_of (rest ++ e ∷ [])) ≡ true
  turned-there = use-there e.0 e.1 (rest ++ e ∷ []) (last-found e rest last_part)

  pub turned-taken : AreUsesRising (map use_of (rest ++ e ∷ [])) → take_use e.1.turn (map use_of (rest ++ e ∷ [])) ≡ map use_of rest
  turned-taken rising = use-taken e.0 e.1 (rest ++ e ∷ []) rising (last-found e rest last_part) ∙ ap (map use_of) (last-removed e rest last_part)

-- ---- some have their turns, and the others don't yet

-- of the entries es, the last have turns anew
pub record Turning (es entries : Entries) (fresh : Listed) (old : List Use) (more : ℕ) : Type 0 where
  pub done : Entries
  pub rest : Entries
  pub kept : Entries
  pub whole : es ≡ rest ++ kept
  pub same : shown_order done ≡ shown_order kept
  pub entries_are : entries ≡ done ++ rest
  pub fresh_are : fresh.0 ≡ map use_of done
  pub old_are : old ≡ map use_of rest
  pub left : fresh.1 + length done ≡ 4611686018427387904
  pub count : length rest ≡ more

-- with its last one apart
pub record Ends (xs : Entries) : Type 0 where
  pub front : Entries
  pub last : ObjectId × OrderSlot
  pub is : xs ≡ front ++ last ∷ []

pub ends : (xs : Entries) → 0 < length xs → Ends xs
ends [] some = absurd (omega (arith, some))
ends (x ∷ []) some = record { front = []; last = x; is = refl }
ends (x ∷ y ∷ ys) some = let t = ends (y ∷ ys) (omega arith) in record { front = x ∷ t.front; last = t.last; is = ap (λ zs. x ∷ zs) t.is }

length-shown : (es : Entries) → length (shown_order es) ≡ length es
length-shown [] = refl
length-shown (e ∷ es) = ap suc (length-shown es)

-- those that are shown alike lie alike
pub spread-shown : (a b : Entries) → shown_order a ≡ shown_order b → spread a ≡ spread b
spread-shown [] [] h = refl
spread-shown [] (y ∷ ys) h = cc
spread-shown (x ∷ xs) [] h = cc
spread-shown (x ∷ xs) (y ∷ ys) h =
    let eviction_info = ap (λ zs. head_standing zs) h in
    let rest = spread-shown xs ys (ap tail_of h) in
    λ i. spread_one (eviction_info i) (rest i)
  where
    head_standing : List (ObjectId × EvictionInfo) → EvictionInfo
    head_standing [] = x.1.eviction_info
    head_standing (z ∷ zs) = z.1

    tail_of : List (ObjectId × EvictionInfo) → List (ObjectId × EvictionInfo)
    tail_of [] = []
    tail_of (z ∷ zs) = zs

pub apart-shown : (a b : Entries) → shown_order a ≡ shown_order b → AreSlotsApart b → AreSlotsApart a
apart-shown [] [] h apart = tt
apart-shown [] (y ∷ ys) h apart = cc
apart-shown (x ∷ xs) [] h apart = cc
apart-shown (x ∷ xs) (y ∷ ys) h apart =
    let eviction_info = ap (λ zs. head_standing zs) h in
    let rest = spread-shown xs ys (ap tail_of h) in
    (ap (λ s. is_clear s (spread xs)) eviction_info ∙ ap (is_clear y.1.eviction_info) rest ∙ apart.0, apart-shown xs ys (ap tail_of h) apart.1)
  where
    head_standing : List (ObjectId × EvictionInfo) → EvictionInfo
    head_standing [] = x.1.eviction_info
    head_standing (z ∷ zs) = z.1

    tail_of : List (ObjectId × EvictionInfo) → List (ObjectId × EvictionInfo)
    tail_of [] = []
    tail_of (z ∷ zs) = zs

none-left : (xs : Entries) → length xs ≡ 0 → xs ≡ []
none-left [] h = refl
none-left (x ∷ xs) h = absurd (omega (arith, h))

module _ (es entries : Entries) (fresh : Listed) (old : List Use) where
  -- at the start none has
  pub turning-starts : (more : ℕ) → more ≡ length es → entries ≡ es → old ≡ map use_of es → fresh.0 ≡ [] → fresh.1 ≡ 4611686018427387904 → Turning es entries fresh old more
  turning-starts more count same uses none left =
      record { done = []; rest = es; kept = []; whole = sym (append-nil es); same = refl; entries_are = same; fresh_are = none; old_are = uses; left = omega (arith, left); count = sym count }

  module _ (more : ℕ) (t : Turning es entries fresh old more) where
    pub turning-kept : length t.done ≡ length t.kept
    turning-kept = sym (length-shown t.done) ∙ ap length t.same ∙ length-shown t.kept

    -- so some turns are left
    pub turning-left : length es < 4611686018427387904 → 0 < more → 1 < fresh.1
    turning-left few some = omega (arith, few, some, t.left, t.count, turning-kept, ap length t.whole, length-append t.rest t.kept)

    pub turning-ends : more ≡ 0 → length es < 4611686018427387904 → (index : Listed) → IsIndexOf es index → fresh.2 ≡ index.2 → (0 < fresh.1) × (IsIndexOf entries fresh) × (shown_order entries ≡ shown_order es)
    turning-ends none few index of residents =
        let gone : t.rest ≡ [] = none-left t.rest (t.count ∙ none) in
        let all : es ≡ t.kept = t.whole ∙ ap (λ xs. xs ++ t.kept) gone in
        let is : entries ≡ t.done = t.entries_are ∙ ap (λ xs. t.done ++ xs) gone ∙ append-nil t.done in
        let alike : shown_order entries ≡ shown_order es = ap shown_order is ∙ t.same ∙ ap shown_order (sym all) in (
          omega (arith, few, t.left, turning-kept, ap length all),
          record {
            uses = t.fresh_are ∙ ap (map use_of) (sym is);
            residents = residents ∙ of.residents ∙ sym (spread-shown entries es alike);
            apart = apart-shown entries es alike of.apart;
          },
          alike,
        )

-- the next one has its turn
pub turning-on : (es entries : Entries) (fresh : Listed) (old : List Use) (more : ℕ) (t : Turning es entries fresh old more) (e : Ends t.rest) (entries2 : Entries) (fresh2 : Listed) (old2 : List Use)
    → entries2 ≡ with_turn fresh2.1 e.last ∷ (t.done ++ e.front) → fresh2.0 ≡ map use_of (with_turn fresh2.1 e.last ∷ t.done) → old2 ≡ map use_of e.front → fresh2.1 + 1 ≡ fresh.1
    → Turning es entries2 fresh2 old2 (more - 1)
turning-on es entries fresh old more t e entries2 fresh2 old2 these uses olds left =
    let long = length-append e.front (e.last ∷ []) in
    let all = ap length e.is in
    record {
      done = with_turn fresh2.1 e.last ∷ t.done;
      rest = e.front;
      kept = e.last ∷ t.kept;
      whole = t.whole ∙ ap (λ xs. xs ++ t.kept) e.is ∙ append_assoc e.front (e.last ∷ []) t.kept;
      same = ap (λ xs. (e.last.0, e.last.1.eviction_info) ∷ xs) t.same;
      entries_are = these;
      fresh_are = uses;
      old_are = olds;
      left = omega (arith, t.left, left);
      count = omega (arith, t.count, all, long);
    }
