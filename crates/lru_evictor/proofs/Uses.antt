-- What the uses of copies say of the copies' entries, the most recently used first.
use Rattle.std.proofs.Common.{◌≡◌, ℕ, suc, ◌-◌, ◌<◌, ◌≤◌, not, Bool, is_some, length, take, true, false, ◌&&◌, ◌||◌, List, [], ◌∷◌, ◌++◌, Option, Some, None, refl, sym, ap, subst, ◌∙◌, arith, cond, map, filter, reverse}
use Rattle.std.specs.Prelude.{nat_lt, nat_eq, if◌then◌else◌}
use Rattle.std.specs.Map.{keys_of, lookup, lookup_entry, remove_entry, set_value}
use Rattle.std.specs.Option.{option_map_or}
use Rattle.augmented_tree.specs.Lists.{AllOf}
use Rattle.lru.specs.LruCache.{LruCache, promoted, put_entries}
use Rattle.std.specs.List.{IsDistinct, AllByRecursion}
use Rattle.std.proofs.lemmas.Bool.Decides.{nat_tests}
use Rattle.std.proofs.lemmas.List.{take_all, reverse-append, length-reverse}
use Rattle.private_store.specs.rules.Tables.{is_among}
use Rattle.std.proofs.lemmas.Map.Keys.{IsDistinct-head, IsDistinct-tail}
use Rattle.obj_id.specs.Ids.{id_eq, same_id}
use Rattle.obj_id.specs.declared.ids.ObjectId.{ObjectId}
use Rattle.store_facts.proofs.Ids.{same_id-id_eq, id_eq-equal, id_eq-itself}
use Rattle.use_tree.specs.declared.classes.VictimClass.{VictimClass}
use Rattle.lru_evictor.specs.declared.facts.EvictionInfo.{EvictionInfo}
use Rattle.use_tree.specs.declared.uses.Use.{Use}
use Rattle.use_tree.specs.Classes.{has}
use Rattle.use_tree.specs.Uses.{AreUsesRising, take_use, has_use, use_with_classes, either, last_chosen}
use Rattle.lru_evictor.specs.declared.index.OrderSlot.{OrderSlot}
use Rattle.lru_evictor.specs.Orders.{order_ids, AllPass, OthersPass, info_in, stood, begins_in, can_insert, info_with_resident}
use Rattle.lru_evictor.specs.Indexed.{use_of, chosen_ids, shown_order, spread}
use Rattle.obj_id.specs.declared.works.Extent.{Extent}
use Rattle.extent_tree.specs.declared.residents.Resident.{Resident}
use Rattle.extent_tree.specs.Residents.{put_resident, has_resident}
use Rattle.lru_evictor.proofs.Lists.{has-put}
use Rattle.lru_evictor.proofs.Truths.{some_is}
use Rattle.lru_evictor.proofs.CacheOrders.{filter-reverse, order-has}

pub keys-shown : (es : List (ObjectId × OrderSlot)) → keys_of (shown_order es) ≡ keys_of es
keys-shown [] = refl
keys-shown (e ∷ es) = ap (λ ks. e.0 ∷ ks) (keys-shown es)

pub order-shown : (es : List (ObjectId × OrderSlot)) → reverse (keys_of (shown_order es)) ≡ reverse (keys_of es)
order-shown es = ap reverse (keys-shown es)

module _ (id : ObjectId) where
  entry-none : (es : List (ObjectId × OrderSlot)) → lookup (id_eq id) es ≡ None → lookup_entry (id_eq id) es ≡ None
  entry-none [] h = refl
  entry-none (e ∷ es) h = (elim (id_eq id e.0) as (λ b. cond b (Some e.1) (lookup (id_eq id) es) ≡ None → cond b (Some e) (lookup_entry (id_eq id) es) ≡ None) [
    | true ↦ λ h. cc
    | false ↦ λ h. entry-none es h
  ]) h

  entry-some : (p : OrderSlot) (es : List (ObjectId × OrderSlot)) → lookup (id_eq id) es ≡ Some p → lookup_entry (id_eq id) es ≡ Some (id, p)
  entry-some p [] h = cc
  entry-some p (e ∷ es) h = (elim (id_eq id e.0) as (λ b. id_eq id e.0 ≡ b → cond b (Some e.1) (lookup (id_eq id) es) ≡ Some p → cond b (Some e) (lookup_entry (id_eq id) es) ≡ Some (id, p)) [
    | true ↦ λ t h. λ i. Some (sym (id_eq-equal id e.0 t) i, some_is e.1 p h i)
    | false ↦ λ t h. entry-some p es h
  ]) refl h

  -- nothing is removed where nothing is found
  pub none-removed : (es : List (ObjectId × OrderSlot)) → lookup (id_eq id) es ≡ None → remove_entry (id_eq id) es ≡ es
  none-removed [] h = refl
  none-removed (e ∷ es) h = (elim (id_eq id e.0) as (λ b. cond b (Some e.1) (lookup (id_eq id) es) ≡ None → cond b es (e ∷ remove_entry (id_eq id) es) ≡ e ∷ es) [
    | true ↦ λ h. cc
    | false ↦ λ h. ap (λ rest. e ∷ rest) (none-removed es h)
  ]) h

  pub not-there : (es : List (ObjectId × OrderSlot)) → is_among (reverse (keys_of es)) id ≡ false → lookup (id_eq id) es ≡ None
  not-there es h = by (lookup (id_eq id) es) refl
    where
      by : (o : Option OrderSlot) → lookup (id_eq id) es ≡ o → o ≡ None
      by None e = refl
      by (Some p) e = let there = sym (ap is_some e) ∙ order-has id es ∙ h in cc

  pub put-absent : (c : LruCache ObjectId OrderSlot) (q : OrderSlot) → lookup (id_eq id) c.entries ≡ None → length c.entries ≤ c.cap - 1 → put_entries id_eq c id q ≡ (id, q) ∷ c.entries
  put-absent c q none room =
      ap (λ o. option_map_or (λ e. (e.0, q) ∷ remove_entry (id_eq id) c.entries) o ((id, q) ∷ take (c.cap - 1) c.entries)) (entry-none c.entries none)
      ∙ ap (λ es. (id, q) ∷ es) (take_all (c.cap - 1) c.entries room)

  pub set-moved : (p q : OrderSlot) (es : List (ObjectId × OrderSlot)) → lookup (id_eq id) es ≡ Some p → set_value (id_eq id) (promoted (id_eq id) es) q ≡ (id, q) ∷ remove_entry (id_eq id) es
  set-moved p q es found =
      ap (λ o. set_value (id_eq id) (option_map_or (λ e. e ∷ remove_entry (id_eq id) es) o es) q) (entry-some p es found)
      ∙ ap (λ b. cond b ((id, q) ∷ remove_entry (id_eq id) es) ((id, p) ∷ set_value (id_eq id) (remove_entry (id_eq id) es) q)) (id_eq-itself id)

module _ (id : ObjectId) (p : OrderSlot) where
  -- ---- the use of a copy

  above_found : (t : ℕ) (es : List (ObjectId × OrderSlot)) → AllOf (λ u. t < u.turn) (map use_of es) → lookup (id_eq id) es ≡ Some p → t < p.turn
  above_found t [] a h = cc
  above_found t (e ∷ es) a h = (elim (id_eq id e.0) as (λ b. cond b (Some e.1) (lookup (id_eq id) es) ≡ Some p → t < p.turn) [
    | true ↦ λ h. subst (λ (q : OrderSlot). t < q.turn) (some_is e.1 p h) a.0
    | false ↦ λ h. above_found t es a.1 h
  ]) h

  pub use-taken : (es : List (ObjectId × OrderSlot)) → AreUsesRising (map use_of es) → lookup (id_eq id) es ≡ Some p → take_use p.turn (map use_of es) ≡ map use_of (remove_entry (id_eq id) es)
  use-taken [] r h = cc
  use-taken (e ∷ es) r h = (elim (id_eq id e.0) as (λ b. cond b (Some e.1) (lookup (id_eq id) es) ≡ Some p
      → (if nat_eq p.turn e.1.turn then map use_of es else use_of e ∷ take_use p.turn (map use_of es)) ≡ map use_of (cond b es (e ∷ remove_entry (id_eq id) es))) [
        | true ↦ λ h.
            let same = ap (λ (q : OrderSlot). q.turn) (some_is e.1 p h) in
            let t : nat_eq p.turn e.1.turn ≡ true = grind (arith, nat_tests, same) in
            rw t refl
        | false ↦ λ h.
            let lt = above_found e.1.turn es r.0 h in
            let t : nat_eq p.turn e.1.turn ≡ false = grind (arith, nat_tests, lt) in
            rw t (ap (λ us. use_of e ∷ us) (use-taken es r.1 h))
      ]) h

  -- it is among the uses
  pub use-there : (es : List (ObjectId × OrderSlot)) → lookup (id_eq id) es ≡ Some p → has_use p.turn (map use_of es) ≡ true
  use-there [] h = cc
  use-there (e ∷ es) h = (elim (id_eq id e.0) as (λ b. cond b (Some e.1) (lookup (id_eq id) es) ≡ Some p → nat_eq p.turn e.1.turn || has_use p.turn (map use_of es) ≡ true) [
    | true ↦ λ h.
        let same = ap (λ (q : OrderSlot). q.turn) (some_is e.1 p h) in
        let t : nat_eq p.turn e.1.turn ≡ true = grind (arith, nat_tests, same) in
        ap (λ b. b || has_use p.turn (map use_of es)) t
    | false ↦ λ h. ap (λ b. nat_eq p.turn e.1.turn || b) (use-there es h) ∙ or_true (nat_eq p.turn e.1.turn)
  ]) h
    where
      or_true : (a : Bool) → a || true ≡ true
      or_true true = refl
      or_true false = refl

  pub use-chosen : (s : EvictionInfo) (es : List (ObjectId × OrderSlot)) → AreUsesRising (map use_of es) → lookup (id_eq id) es ≡ Some p
      → use_with_classes p.turn s.classes (map use_of es) ≡ map use_of (set_value (id_eq id) es (record { turn = p.turn; eviction_info = s }))
  use-chosen s [] r h = cc
  use-chosen s (e ∷ es) r h = (elim (id_eq id e.0) as (λ b. cond b (Some e.1) (lookup (id_eq id) es) ≡ Some p
      → (if nat_eq p.turn e.1.turn then record (use_of e) { classes = s.classes } ∷ map use_of es else use_of e ∷ use_with_classes p.turn s.classes (map use_of es))
      ≡ map use_of (cond b ((e.0, record { turn = p.turn; eviction_info = s }) ∷ es) (e ∷ set_value (id_eq id) es (record { turn = p.turn; eviction_info = s })))) [
        | true ↦ λ h.
            let same = ap (λ (q : OrderSlot). q.turn) (some_is e.1 p h) in
            let t : nat_eq p.turn e.1.turn ≡ true = grind (arith, nat_tests, same) in
            rw t (ap (λ (n : ℕ). record { turn = n; id = e.0; classes = s.classes } ∷ map use_of es) same)
        | false ↦ λ h.
            let lt = above_found e.1.turn es r.0 h in
            let t : nat_eq p.turn e.1.turn ≡ false = grind (arith, nat_tests, lt) in
            rw t (ap (λ us. use_of e ∷ us) (use-chosen s es r.1 h))
      ]) h

module _ (id : ObjectId) (test : ObjectId → EvictionInfo → Bool) where
  -- ---- what the choices of the copies pass

  by_eq : (x : ObjectId) → id_eq id x ≡ false → same_id id x ≡ false
  by_eq x h = same_id-id_eq id x ∙ h

  others-pass : (es : List (ObjectId × OrderSlot)) → AllByRecursion (λ y. id_eq id y ≡ false) (keys_of es) → OthersPass id test (shown_order es) → AllPass test (shown_order es)
  others-pass [] a h = tt
  others-pass (e ∷ es) a h = (h.0 (by_eq e.0 a.0), others-pass es a.1 h.1)

  here_others : (e : ObjectId × OrderSlot) (es : List (ObjectId × OrderSlot)) → IsDistinct id_eq (keys_of (e ∷ es)) → id_eq id e.0 ≡ true → AllByRecursion (λ y. id_eq id y ≡ false) (keys_of es)
  here_others e es d t = subst (λ k. AllByRecursion (λ y. id_eq k y ≡ false) (keys_of es)) (sym (id_eq-equal id e.0 t)) (IsDistinct-head id_eq e.0 (keys_of es) d)

  pub removed-passes : (es : List (ObjectId × OrderSlot)) → IsDistinct id_eq (keys_of es) → OthersPass id test (shown_order es) → AllPass test (shown_order (remove_entry (id_eq id) es))
  removed-passes [] d h = tt
  removed-passes (e ∷ es) d h = (elim (id_eq id e.0) as (λ b. id_eq id e.0 ≡ b → AllPass test (shown_order (cond b es (e ∷ remove_entry (id_eq id) es)))) [
    | true ↦ λ t. others-pass es (here_others e es d t) h.1
    | false ↦ λ t. (h.0 (by_eq e.0 t), removed-passes es (IsDistinct-tail id_eq e.0 (keys_of es) d) h.1)
  ]) refl

  pub absent-passes : (es : List (ObjectId × OrderSlot)) → lookup (id_eq id) es ≡ None → OthersPass id test (shown_order es) → AllPass test (shown_order es)
  absent-passes [] a h = tt
  absent-passes (e ∷ es) a h = (elim (id_eq id e.0) as (λ b. id_eq id e.0 ≡ b → cond b (Some e.1) (lookup (id_eq id) es) ≡ None → AllPass test (shown_order (e ∷ es))) [
    | true ↦ λ t a. cc
    | false ↦ λ t a. (h.0 (by_eq e.0 t), absent-passes es a h.1)
  ]) refl a

  pub set-passes : (es : List (ObjectId × OrderSlot)) (q : OrderSlot) → IsDistinct id_eq (keys_of es) → OthersPass id test (shown_order es) → test id q.eviction_info ≡ true → AllPass test (shown_order (set_value (id_eq id) es q))
  set-passes [] q d h is = tt
  set-passes (e ∷ es) q d h is = (elim (id_eq id e.0) as (λ b. id_eq id e.0 ≡ b → AllPass test (shown_order (cond b ((e.0, q) ∷ es) (e ∷ set_value (id_eq id) es q)))) [
    | true ↦ λ t. (ap (λ x. test x q.eviction_info) (sym (id_eq-equal id e.0 t)) ∙ is, others-pass es (here_others e es d t) h.1)
    | false ↦ λ t. (h.0 (by_eq e.0 t), set-passes es q (IsDistinct-tail id_eq e.0 (keys_of es) d) h.1 is)
  ]) refl

-- ---- the info of a copy that is found

module _ (id : ObjectId) where
  pub set-length : (q : OrderSlot) (es : List (ObjectId × OrderSlot)) → length (set_value (id_eq id) es q) ≡ length es
  set-length q [] = refl
  set-length q (e ∷ es) = elim (id_eq id e.0) as (λ b. length (cond b ((e.0, q) ∷ es) (e ∷ set_value (id_eq id) es q)) ≡ suc (length es)) [
    | true ↦ refl
    | false ↦ ap suc (set-length q es)
  ]

  pub removed-length : (es : List (ObjectId × OrderSlot)) → length (remove_entry (id_eq id) es) ≤ length es
  removed-length [] = omega arith
  removed-length (e ∷ es) = elim (id_eq id e.0) as (λ b. length (cond b es (e ∷ remove_entry (id_eq id) es)) ≤ suc (length es)) [
    | true ↦ omega arith
    | false ↦ omega (arith, removed-length es)
  ]

  -- one that moves to the front is as long as before
  pub moved-length : (p q : OrderSlot) (es before : List (ObjectId × OrderSlot)) (n : ℕ) → lookup (id_eq id) es ≡ Some p → shown_order es ≡ shown_order before → length before < n → length ((id, q) ∷ remove_entry (id_eq id) es) < n
  moved-length p q es before n found same few =
      let a = length-shown es in
      let b = length-shown before in
      let s = ap length same in
      let fewer = removed-fewer p es found in
      omega (arith, a, b, s, fewer, few)
    where
      length-shown : (es : List (ObjectId × OrderSlot)) → length (shown_order es) ≡ length es
      length-shown [] = refl
      length-shown (e ∷ es) = ap suc (length-shown es)

      removed-fewer : (p : OrderSlot) (es : List (ObjectId × OrderSlot)) → lookup (id_eq id) es ≡ Some p → suc (length (remove_entry (id_eq id) es)) ≡ length es
      removed-fewer p [] h = cc
      removed-fewer p (e ∷ es) h = (elim (id_eq id e.0) as (λ b. cond b (Some e.1) (lookup (id_eq id) es) ≡ Some p → suc (length (cond b es (e ∷ remove_entry (id_eq id) es))) ≡ suc (length es)) [
        | true ↦ λ h. refl
        | false ↦ λ h. ap suc (removed-fewer p es h)
      ]) h

  module _ (p : OrderSlot) where
    found-eviction_info : (es : List (ObjectId × OrderSlot)) → lookup (id_eq id) es ≡ Some p → info_in id (shown_order es) ≡ p.eviction_info
    found-eviction_info [] h = cc
    found-eviction_info (e ∷ es) h =
        ap (λ b. if b then e.1.eviction_info else info_in id (shown_order es)) (same_id-id_eq id e.0)
        ∙ (elim (id_eq id e.0) as (λ b. cond b (Some e.1) (lookup (id_eq id) es) ≡ Some p → (if b then e.1.eviction_info else info_in id (shown_order es)) ≡ p.eviction_info) [
          | true ↦ λ h. ap (λ (q : OrderSlot). q.eviction_info) (some_is e.1 p h)
          | false ↦ λ h. found-eviction_info es h
        ]) h

    module _ (es : List (ObjectId × OrderSlot)) (now : List (ObjectId × EvictionInfo)) (view : shown_order es ≡ now) (found : lookup (id_eq id) es ≡ Some p) where
      among-found : is_among (order_ids now) id ≡ true
      among-found = ap (λ xs. is_among (order_ids xs) id) (sym view) ∙ ap (λ ids. is_among ids id) (order-shown es) ∙ sym (order-has id es) ∙ ap is_some found

      eviction_info-found : p.eviction_info ≡ info_in id now
      eviction_info-found = sym (found-eviction_info es found) ∙ ap (info_in id) view

      pub stood-at : (test : ObjectId → EvictionInfo → Bool) (after agreed : EvictionInfo) → agreed ≡ stood p.eviction_info after
          → (is_among (order_ids now) id ≡ true → test id (stood (info_in id now) after) ≡ true) → test id agreed ≡ true
      stood-at test after agreed is here = ap (test id) (is ∙ ap (λ s. stood s after) eviction_info-found) ∙ here among-found

      pub settled-at : (test : ObjectId → EvictionInfo → Bool) (resident : Resident) (agreed : EvictionInfo) → agreed ≡ info_with_resident p.eviction_info resident now
          → (is_among (order_ids now) id ≡ true → test id (info_with_resident (info_in id now) resident now) ≡ true) → test id agreed ≡ true
      settled-at test resident agreed is here = ap (test id) (is ∙ ap (λ s. info_with_resident s resident now) eviction_info-found) ∙ here among-found

-- what begins in an index begins in the order
pub begins-spread : (o : ℕ) (es : List (ObjectId × OrderSlot)) → has_resident o (spread es) ≡ begins_in o (shown_order es)
begins-spread o [] = refl
begins-spread o (e ∷ es) = by (begins-spread o es) e.1.eviction_info.extent
  where
    by : has_resident o (spread es) ≡ begins_in o (shown_order es) → (r : Option Extent)
        → has_resident o (option_map_or (λ x. put_resident (record { extent = x; classes = e.1.eviction_info.classes }) (spread es)) r (spread es)) ≡ option_map_or (λ (x : Extent). nat_eq o x.offset) r false || begins_in o (shown_order es)
    by rest None = rest
    by rest (Some x) = has-put o (record { extent = x; classes = e.1.eviction_info.classes }) (spread es) ∙ ap (λ b. nat_eq o x.offset || b) rest

-- a copy that lay somewhere doesn't settle
pub settled-there : (before : EvictionInfo) (resident : Resident) (now : List (ObjectId × EvictionInfo)) → is_some before.extent ≡ true → before ≡ info_with_resident before resident now
settled-there before resident now there =
    sym (ap (λ b. if not b && (nat_lt resident.extent.offset 536870912 && (nat_lt resident.extent.length 4294967296 && not (begins_in resident.extent.offset now))) then record { extent = Some resident.extent; classes = resident.classes } else before) there)

module _ (before : EvictionInfo) (resident : Resident) (es : List (ObjectId × OrderSlot)) (now : List (ObjectId × EvictionInfo)) (view : shown_order es ≡ now) (nowhere : is_some before.extent ≡ false) (says : Bool)
    (when : says ≡ (nat_lt resident.extent.offset 536870912 && (nat_lt resident.extent.length 4294967296 && not (has_resident resident.extent.offset (spread es))))) where
  can : can_insert before resident now ≡ says
  can =
      ap (λ b. not b && (nat_lt resident.extent.offset 536870912 && (nat_lt resident.extent.length 4294967296 && not (begins_in resident.extent.offset now)))) nowhere
      ∙ ap (λ b. nat_lt resident.extent.offset 536870912 && (nat_lt resident.extent.length 4294967296 && not b)) (ap (begins_in resident.extent.offset) (sym view) ∙ sym (begins-spread resident.extent.offset es))
      ∙ sym when

  pub settled-now : says ≡ true → record { extent = Some resident.extent; classes = resident.classes } ≡ info_with_resident before resident now
  settled-now on = sym (ap (λ b. if b then record { extent = Some resident.extent; classes = resident.classes } else before) (can ∙ on))

  pub settled-not : says ≡ false → before ≡ info_with_resident before resident now
  settled-not off = sym (ap (λ b. if b then record { extent = Some resident.extent; classes = resident.classes } else before) (can ∙ off))

-- ---- the ids that a walk goes over

module _ (k : VictimClass) where
  abbrev ids_below : ℕ → List Use → List ObjectId
  ids_below b us = map (λ u. u.id) (filter (λ u. nat_lt u.turn b && has k u.classes) us)

  none_below : (b : ℕ) (us : List Use) → AllOf (λ u. b ≤ u.turn) us → ids_below b us ≡ []
  none_below b [] a = refl
  none_below b (u ∷ us) a =
      let t : nat_lt u.turn b ≡ false = grind (arith, nat_tests, a.0) in
      rw t (none_below b us a.1)

  weaker : (b : ℕ) (us : List Use) → AllOf (λ u. b < u.turn) us → AllOf (λ u. b ≤ u.turn) us
  weaker b [] a = tt
  weaker b (u ∷ us) a = (omega (arith, a.0), weaker b us a.1)

  -- a use that is found lies below b, and is one of these
  last_within : (b t : ℕ) (us : List Use) (u : Use) → AllOf (λ v. t < v.turn) us → last_chosen k b us ≡ Some u → (t < u.turn) × (u.turn < b)
  last_within b t [] u a h = cc
  last_within b t (x ∷ xs) u a h = by (last_within b t xs u a.1) (last_chosen k b xs) refl h
    where
      here : (n : Bool) → nat_lt x.turn b ≡ n → (m : Bool) → (if n && m then Some x else None) ≡ Some u → (t < u.turn) × (u.turn < b)
      here true e true h =
          let same = ap (λ (v : Use). v.turn) (some_is x u h) in
          let lt : x.turn < b = grind (arith, nat_tests, e) in
          (omega (arith, a.0, same), omega (arith, lt, same))
      here true e false h = cc
      here false e m h = cc

      by : (last_chosen k b xs ≡ Some u → (t < u.turn) × (u.turn < b)) → (o : Option Use) → last_chosen k b xs ≡ o → either o (if nat_lt x.turn b && has k x.classes then Some x else None) ≡ Some u → (t < u.turn) × (u.turn < b)
      by go (Some v) e h = go (e ∙ h)
      by go None e h = here (nat_lt x.turn b) refl (has k x.classes) h

  nothing : (b : ℕ) (us : List Use) → last_chosen k b us ≡ None → ids_below b us ≡ []
  nothing b [] h = refl
  nothing b (x ∷ xs) h = by (nothing b xs) (last_chosen k b xs) refl h
    where
      by : (last_chosen k b xs ≡ None → ids_below b xs ≡ []) → (o : Option Use) → last_chosen k b xs ≡ o → either o (if nat_lt x.turn b && has k x.classes then Some x else None) ≡ None → ids_below b (x ∷ xs) ≡ []
      by go (Some v) e h = cc
      by go None e h = (elim (nat_lt x.turn b && has k x.classes) as (λ c. (if c then Some x else None) ≡ None → map (λ u. u.id) (cond c (x ∷ filter (λ u. nat_lt u.turn b && has k u.classes) xs) (filter (λ u. nat_lt u.turn b && has k u.classes) xs)) ≡ []) [
        | true ↦ λ h. cc
        | false ↦ λ h. go e
      ]) h

  pub walk-ends : (b : ℕ) (us : List Use) → last_chosen k b us ≡ None → chosen_ids k b us ≡ []
  walk-ends b us h = ap reverse (nothing b us h)

  -- the last one goes, and those of lesser turns stay
  split : (b : ℕ) (us : List Use) (u : Use) → AreUsesRising us → last_chosen k b us ≡ Some u → ids_below b us ≡ ids_below u.turn us ++ u.id ∷ []
  split b [] u r h = cc
  split b (x ∷ xs) u r h = by (split b xs u r.1) (last_chosen k b xs) refl h
    where
      at_end : (n m : Bool) → nat_lt x.turn b ≡ n → has k x.classes ≡ m → last_chosen k b xs ≡ None → (if n && m then Some x else None) ≡ Some u → ids_below b (x ∷ xs) ≡ ids_below u.turn (x ∷ xs) ++ u.id ∷ []
      at_end true true e f none h =
          let same : x ≡ u = some_is x u h in
          let t : nat_lt x.turn x.turn ≡ false = grind (arith, nat_tests) in
          let rest = none_below x.turn xs (weaker x.turn xs r.0) in
          let left : ids_below b (x ∷ xs) ≡ x.id ∷ [] = rw (e, f) (ap (λ ys. x.id ∷ ys) (nothing b xs none)) in
          let right : ids_below x.turn (x ∷ xs) ≡ [] = rw t rest in
          left ∙ ap (λ ys. ys ++ x.id ∷ []) (sym right) ∙ ap (λ (v : Use). ids_below v.turn (x ∷ xs) ++ v.id ∷ []) same
      at_end true false e f none h = cc
      at_end false m e f none h = cc

      by : (last_chosen k b xs ≡ Some u → ids_below b xs ≡ ids_below u.turn xs ++ u.id ∷ []) → (o : Option Use) → last_chosen k b xs ≡ o → either o (if nat_lt x.turn b && has k x.classes then Some x else None) ≡ Some u
          → ids_below b (x ∷ xs) ≡ ids_below u.turn (x ∷ xs) ++ u.id ∷ []
      by go (Some v) e h =
          let within = last_within b x.turn xs u r.0 (e ∙ h) in
          let t : nat_lt x.turn b ≡ true = grind (arith, nat_tests, within.0, within.1) in
          let t2 : nat_lt x.turn u.turn ≡ true = grind (arith, nat_tests, within.0) in
          let rest = go (e ∙ h) in
          rw (t, t2) (elim (has k x.classes) as (λ c. map (λ u. u.id) (cond c (x ∷ filter (λ v. nat_lt v.turn b && has k v.classes) xs) (filter (λ v. nat_lt v.turn b && has k v.classes) xs))
          ≡ map (λ u. u.id) (cond c (x ∷ filter (λ v. nat_lt v.turn u.turn && has k v.classes) xs) (filter (λ v. nat_lt v.turn u.turn && has k v.classes) xs)) ++ u.id ∷ []) [
            | true ↦ ap (λ ys. x.id ∷ ys) rest
            | false ↦ rest
          ])
      by go None e h = at_end (nat_lt x.turn b) (has k x.classes) refl refl e h

  pub walk-goes-on : (b : ℕ) (us : List Use) (u : Use) → AreUsesRising us → last_chosen k b us ≡ Some u → chosen_ids k b us ≡ u.id ∷ chosen_ids k u.turn us
  walk-goes-on b us u r h = ap reverse (split b us u r h) ∙ reverse-append (ids_below u.turn us) (u.id ∷ [])

  -- they are no more than there are uses
  few_below : (b : ℕ) (us : List Use) → length (ids_below b us) ≤ length us
  few_below b [] = omega arith
  few_below b (u ∷ us) = (elim (nat_lt u.turn b && has k u.classes) as (λ c. length (map (λ u. u.id) (cond c (u ∷ filter (λ u. nat_lt u.turn b && has k u.classes) us) (filter (λ u. nat_lt u.turn b && has k u.classes) us))) ≤ suc (length us)) [
    | true ↦ omega (arith, few_below b us)
    | false ↦ omega (arith, few_below b us)
  ])

  pub chosen-few : (b : ℕ) (us : List Use) → length (chosen_ids k b us) ≤ length us
  chosen-few b us = let same = length-reverse (ids_below b us) in omega (arith, same, few_below b us)

  -- all that a walk chooses are candidates
  module _ (test : ObjectId → EvictionInfo → Bool) (chosen : ObjectId → Bool) (covered : (x : ObjectId) (c : EvictionInfo) → test x c ≡ true → chosen x ≡ true → has k c.classes ≡ true) where
    kept : (b : ℕ) (es : List (ObjectId × OrderSlot)) → AllPass test (shown_order es) → AllOf (λ u. u.turn < b) (map use_of es) → filter chosen (ids_below b (map use_of es)) ≡ filter chosen (keys_of (shown_order es))
    kept b [] c a = refl
    kept b (e ∷ es) c a =
        let t : nat_lt e.1.turn b ≡ true = grind (arith, nat_tests, a.0) in
        rw t (by (kept b es c.1 a.1) (has k e.1.eviction_info.classes) refl (chosen e.0) refl)
      where
        by : filter chosen (ids_below b (map use_of es)) ≡ filter chosen (keys_of (shown_order es)) → (m : Bool) → has k e.1.eviction_info.classes ≡ m → (n : Bool) → chosen e.0 ≡ n
            → filter chosen (map (λ u. u.id) (cond m (use_of e ∷ filter (λ u. nat_lt u.turn b && has k u.classes) (map use_of es)) (filter (λ u. nat_lt u.turn b && has k u.classes) (map use_of es)))) ≡ filter chosen (e.0 ∷ keys_of (shown_order es))
        by rest true h n is = ap (λ ys. cond (chosen e.0) (e.0 ∷ ys) ys) rest
        by rest false h true is = let no = sym h ∙ covered e.0 e.1.eviction_info c.0 is in cc
        by rest false h false is = rw is rest

    pub candidates-kept : (b : ℕ) (es : List (ObjectId × OrderSlot)) → AllPass test (shown_order es) → AllOf (λ u. u.turn < b) (map use_of es) → filter chosen (chosen_ids k b (map use_of es)) ≡ filter chosen (reverse (keys_of (shown_order es)))
    candidates-kept b es c a = filter-reverse chosen (ids_below b (map use_of es)) ∙ ap reverse (kept b es c a) ∙ sym (filter-reverse chosen (keys_of (shown_order es)))

  -- all candidates are chosen, if the test tells the class
  module _ (test : ObjectId → EvictionInfo → Bool) (chosen : ObjectId → Bool) (covers : (x : ObjectId) (c : EvictionInfo) → test x c ≡ true → has k c.classes ≡ true → chosen x ≡ true) where
    passed : (b : ℕ) (es : List (ObjectId × OrderSlot)) → AllPass test (shown_order es) → filter chosen (ids_below b (map use_of es)) ≡ ids_below b (map use_of es)
    passed b [] c = refl
    passed b (e ∷ es) c = by (passed b es c.1) (nat_lt e.1.turn b) (has k e.1.eviction_info.classes) refl
      where
        by : filter chosen (ids_below b (map use_of es)) ≡ ids_below b (map use_of es) → (n m : Bool) → has k e.1.eviction_info.classes ≡ m
            → filter chosen (map (λ u. u.id) (cond (n && m) (use_of e ∷ filter (λ u. nat_lt u.turn b && has k u.classes) (map use_of es)) (filter (λ u. nat_lt u.turn b && has k u.classes) (map use_of es))))
            ≡ map (λ u. u.id) (cond (n && m) (use_of e ∷ filter (λ u. nat_lt u.turn b && has k u.classes) (map use_of es)) (filter (λ u. nat_lt u.turn b && has k u.classes) (map use_of es)))
        by rest true true h = let here = covers e.0 e.1.eviction_info c.0 h in rw here (ap (λ ys. e.0 ∷ ys) rest)
        by rest true false h = rest
        by rest false m h = rest

    pub candidates-pass : (b : ℕ) (es : List (ObjectId × OrderSlot)) → AllPass test (shown_order es) → filter chosen (chosen_ids k b (map use_of es)) ≡ chosen_ids k b (map use_of es)
    candidates-pass b es c = filter-reverse chosen (ids_below b (map use_of es)) ∙ ap reverse (passed b es c)
