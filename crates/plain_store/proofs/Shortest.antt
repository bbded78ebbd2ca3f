-- The shortest beginning that makes room, and that more room is left if more is gone.
use Rattle.std.proofs.Common.{◌≡◌, ℕ, zero, suc, ◌+◌, ◌-◌, ◌*◌, ◌/◌, ◌%◌, ◌<◌, ◌≤◌, length, take, drop, take-add, append_assoc, Option, Some, None, Bool, true, false, not, cond, ◌||◌, List, [], ◌∷◌, ◌++◌, refl, sym, ap, subst, ◌∙◌, arith, is_some}
use Rattle.std.specs.Prelude.{filter, filter_map, nat_le}
use Rattle.std.specs.List.{cons_option, list_all, list_any}
use Rattle.std.proofs.lemmas.List.{append-nil, take_all}
use Rattle.std.proofs.lemmas.List.Folds.{list_any-append}
use Rattle.obj_id.specs.declared.ids.ObjectId.{ObjectId}
use Rattle.obj_id.specs.declared.works.Extent.{Extent}
use Rattle.obj_id.specs.Ids.{id_eq, same_id}
use Rattle.private_store.specs.rules.Copies.{extent_of}
use Rattle.private_store.specs.rules.Extents.{rounded, is_apart, is_free, first}
use Rattle.private_store.specs.rules.Room.{offset_without, shortest, shortest_from}
use Rattle.private_store.specs.rules.Shape.{Copy, Shape}
use Rattle.private_store.specs.rules.Tables.{ById, is_among}
use Rattle.store_facts.proofs.FirstFit.{first-free, first-least, first-units}
use Rattle.store_facts.proofs.Ids.{same_id-id_eq, same_id-flip}
use Rattle.store_facts.proofs.Tests.{both, both_left, both_right, false_true}
use Rattle.plain_store.specs.Fits.{extents_left, is_room_without}

pub among-contains : (ids : List ObjectId) (id : ObjectId) → list_any (λ y. id_eq y id) ids ≡ is_among ids id
among-contains [] id = refl
among-contains (x ∷ xs) id = ap (λ b. b || list_any (λ y. id_eq y id) xs) (sym (same_id-id_eq x id) ∙ same_id-flip x id) ∙ ap (λ b. same_id id x || b) (among-contains xs id)

-- ---- the shortest beginning

module _ {X : Type 0} (test : List X → Bool) where
  none_at_all : (taken : List X) → test (taken ++ []) ≡ false → test taken ≡ false
  none_at_all taken e = ap test (sym (append-nil taken)) ∙ e

  one_more : (taken rest : List X) (x : X) → test taken ≡ false → shortest_from test taken (x ∷ rest) ≡ shortest_from test (taken ++ x ∷ []) rest
  one_more taken rest x e = ap (λ b. elim b [ true ↦ Some taken | false ↦ shortest_from test (taken ++ x ∷ []) rest ]) e

  found_from : (ids taken : List X) (k : ℕ) → k ≤ length ids → test (taken ++ take k ids) ≡ true → ((j : ℕ) → j < k → test (taken ++ take j ids) ≡ false)
      → shortest_from test taken ids ≡ Some (taken ++ take k ids)
  found_from [] taken zero within passes fails =
      ap (λ b. cond b (Some taken) None) (ap test (sym (append-nil taken)) ∙ passes) ∙ ap Some (sym (append-nil taken))
  found_from (x ∷ ids) taken zero within passes fails =
      ap (λ b. elim b [ true ↦ Some taken | false ↦ shortest_from test (taken ++ x ∷ []) ids ]) (ap test (sym (append-nil taken)) ∙ passes) ∙ ap Some (sym (append-nil taken))
  found_from [] taken (suc k) within passes fails = absurd (omega arith)
  found_from (x ∷ ids) taken (suc k) within passes fails =
      let moved : (j : ℕ) → (taken ++ x ∷ []) ++ take j ids ≡ taken ++ take (suc j) (x ∷ ids) = λ j. append_assoc taken (x ∷ []) (take j ids) in
      one_more taken ids x (none_at_all taken (fails 0 (omega arith)))
      ∙ found_from ids (taken ++ x ∷ []) k (omega (arith, within)) (ap test (moved k) ∙ passes) (λ j lt. ap test (moved j) ∙ fails (suc j) (omega (arith, lt)))
      ∙ ap Some (moved k)

  none_from : (ids taken : List X) → ((j : ℕ) → j ≤ length ids → test (taken ++ take j ids) ≡ false) → shortest_from test taken ids ≡ None
  none_from [] taken fails = ap (λ b. cond b (Some taken) None) (none_at_all taken (fails 0 (omega arith)))
  none_from (x ∷ ids) taken fails =
      one_more taken ids x (none_at_all taken (fails 0 (omega arith)))
      ∙ none_from ids (taken ++ x ∷ []) (λ j le. ap test (append_assoc taken (x ∷ []) (take j ids)) ∙ fails (suc j) (omega (arith, le)))

  pub found : (ids : List X) (k : ℕ) → k ≤ length ids → test (take k ids) ≡ true → ((j : ℕ) → j < k → test (take j ids) ≡ false) → shortest test ids ≡ Some (take k ids)
  found ids k within passes fails = found_from ids [] k within passes fails

  -- of a test that is passed by more of what passes it
  module _ (more : (xs ys : List X) → test xs ≡ true → test (xs ++ ys) ≡ true) where
    pub fewer_fail : (ids : List X) (j k : ℕ) → j ≤ k → test (take k ids) ≡ false → test (take j ids) ≡ false
    fewer_fail ids j k le fails = by (test (take j ids)) refl
      where
        by : (b : Bool) → test (take j ids) ≡ b → b ≡ false
        by false e = refl
        by true e =
            let all : j + (k - j) ≡ k = omega (arith, le) in
            let longer : take k ids ≡ take j ids ++ take (k - j) (drop j ids) = ap (λ n. take n ids) (sym all) ∙ take-add j (k - j) ids in
            sym (more (take j ids) (take (k - j) (drop j ids)) e) ∙ ap test (sym longer) ∙ fails

    pub none : (ids : List X) → test ids ≡ false → shortest test ids ≡ None
    none ids fails =
        none_from ids [] (λ j le. fewer_fail ids j (length ids) le (ap test (take_all (length ids) ids (omega arith)) ∙ fails))

-- ---- if more is gone there is more room

module _ (P : Extent → Bool) where
  abbrev extents_of : ById Copy → List Extent
  extents_of copies = filter_map (λ e. extent_of e.1) copies

  one_kept : (o : Option Extent) (xs ys : List Extent) → (list_all P xs ≡ true → list_all P ys ≡ true) → list_all P (cons_option o xs) ≡ true → list_all P (cons_option o ys) ≡ true
  one_kept None xs ys rest h = rest h
  one_kept (Some e) xs ys rest h = both (P e) (list_all P ys) (both_left (P e) (list_all P xs) h) (rest (both_right (P e) (list_all P xs) h))

  one_dropped : (o : Option Extent) (xs ys : List Extent) → (list_all P xs ≡ true → list_all P ys ≡ true) → list_all P (cons_option o xs) ≡ true → list_all P ys ≡ true
  one_dropped None xs ys rest h = rest h
  one_dropped (Some e) xs ys rest h = rest (both_right (P e) (list_all P xs) h)

  -- of a copy that is out or not, and perhaps among those that go beside
  one_copy : (a c : Bool) (e : ObjectId × Copy) (xs ys : ById Copy) → (list_all P (extents_of xs) ≡ true → list_all P (extents_of ys) ≡ true)
      → list_all P (extents_of (cond (not a) (e ∷ xs) xs)) ≡ true → list_all P (extents_of (cond (not (a || c)) (e ∷ ys) ys)) ≡ true
  one_copy true c e xs ys rest h = rest h
  one_copy false true e xs ys rest h = one_dropped (extent_of e.1) (extents_of xs) (extents_of ys) rest h
  one_copy false false e xs ys rest h = one_kept (extent_of e.1) (extents_of xs) (extents_of ys) rest h

  fewer_left : (out more : List ObjectId) (copies : ById Copy) → list_all P (extents_left out copies) ≡ true → list_all P (extents_left (out ++ more) copies) ≡ true
  fewer_left out more [] h = refl
  fewer_left out more (e ∷ copies) h =
      let both_of : is_among (out ++ more) e.0 ≡ is_among out e.0 || is_among more e.0 = list_any-append (same_id e.0) out more in
      subst (λ b. list_all P (extents_of (cond (not b) (e ∷ filter (λ e. not (is_among (out ++ more) e.0)) copies) (filter (λ e. not (is_among (out ++ more) e.0)) copies))) ≡ true) (sym both_of)
      (one_copy (is_among out e.0) (is_among more e.0) e _ _ (fewer_left out more copies) h)

-- wherever there is room there is room if more is gone
pub room_stays : (store : Shape) (n : ℕ) (out xs ys : List ObjectId) → is_room_without store n out xs ≡ true → is_room_without store n out (xs ++ ys) ≡ true
room_stays store n out xs ys h = by (offset_without store n (out ++ xs)) refl h
  where
    window : ℕ
    window = store.quota.window

    by : (o : Option ℕ) → offset_without store n (out ++ xs) ≡ o → is_some o ≡ true → is_room_without store n out (xs ++ ys) ≡ true
    by None e h = false_true (sym h)
    by (Some p) e h =
        let before : List Extent = extents_left (out ++ xs) store.copies in
        let after : List Extent = extents_left ((out ++ xs) ++ ys) store.copies in
        let free : is_free before window n p ≡ true = first-free before window n p e in
        let units : 16 * (p / 16) ≡ p = omega (arith, first-units before window n p e) in
        let new : Extent = record { offset = p; length = rounded n } in
        let all : list_all (is_apart new) after ≡ true = fewer_left (is_apart new) (out ++ xs) ys store.copies (both_right (nat_le (p + rounded n) window) (list_all (is_apart new) before) free) in
        let still : is_free after window n p ≡ true = both (nat_le (p + rounded n) window) (list_all (is_apart new) after) (both_left (nat_le (p + rounded n) window) (list_all (is_apart new) before) free) all in
        let least = first-least after window n (p / 16) (subst (λ o. is_free after window n o ≡ true) (sym units) still) in
        ap (λ gone. is_some (offset_without store n gone)) (sym (append_assoc out xs ys)) ∙ ap is_some least.1
