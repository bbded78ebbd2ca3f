-- What a cache's entries, the most recently used first, say of the order of use.
use Rattle.std.proofs.Common.{◌≡◌, ◌-◌, ◌≤◌, Bool, true, false, not, ◌||◌, List, [], ◌∷◌, ◌++◌, length, take, filter, reverse, Option, Some, None, refl, sym, ap, subst, ◌∙◌, is_some, cond}
use Rattle.std.specs.List.{list_any, IsDistinct, AllByRecursion}
use Rattle.std.specs.Map.{lookup, lookup_entry, remove_entry, keys_of}
use Rattle.std.specs.Option.{option_map_or}
use Rattle.std.proofs.lemmas.List.{take_all, reverse-append}
use Rattle.std.proofs.lemmas.List.Elements.{filter-append}
use Rattle.std.proofs.lemmas.List.Folds.{list_any-append}
use Rattle.std.proofs.lemmas.Map.Keys.{IsDistinct-head, IsDistinct-tail}
use Rattle.lru.specs.LruCache.{LruCache, promoted, put_entries}
use Rattle.obj_id.specs.Ids.{id_eq}
use Rattle.obj_id.specs.declared.ids.ObjectId.{ObjectId}
use Rattle.store_facts.proofs.Ids.{same_id-id_eq, id_eq-equal}
use Rattle.private_store.specs.rules.Tables.{is_among}
use Rattle.lru_evictor.specs.Orders.{without_id, last_used, touched}

pub reverse-cons : {X : Type 0} (x : X) (xs : List X) → reverse (x ∷ xs) ≡ reverse xs ++ x ∷ []
reverse-cons x xs = reverse-append (x ∷ []) xs

pub filter-reverse : {X : Type 0} (test : X → Bool) (xs : List X) → filter test (reverse xs) ≡ reverse (filter test xs)
filter-reverse test [] = refl
filter-reverse test (x ∷ xs) =
    ap (filter test) (reverse-cons x xs) ∙ filter-append test (reverse xs) (x ∷ []) ∙ ap (λ ys. ys ++ filter test (x ∷ [])) (filter-reverse test xs)
    ∙ elim (test x) as (λ b. reverse (filter test xs) ++ cond b (x ∷ []) [] ≡ reverse (cond b (x ∷ filter test xs) (filter test xs))) [
      | true ↦ sym (reverse-cons x (filter test xs))
      | false ↦ append_nil (reverse (filter test xs))
    ]
  where
    append_nil : {Y : Type 0} (ys : List Y) → ys ++ [] ≡ ys
    append_nil [] = refl
    append_nil (y ∷ ys) = ap (λ zs. y ∷ zs) (append_nil ys)

list_any-reverse : {X : Type 0} (test : X → Bool) (xs : List X) → list_any test (reverse xs) ≡ list_any test xs
list_any-reverse test [] = refl
list_any-reverse test (x ∷ xs) =
    ap (list_any test) (reverse-cons x xs) ∙ list_any-append test (reverse xs) (x ∷ []) ∙ ap (λ b. b || list_any test (x ∷ [])) (list_any-reverse test xs)
    ∙ swapped (list_any test xs) (test x)
  where
    swapped : (a b : Bool) → a || (b || false) ≡ b || a
    swapped true true = refl
    swapped true false = refl
    swapped false true = refl
    swapped false false = refl

module _ (id : ObjectId) where
  -- by the `==` of ids
  abbrev others : List ObjectId → List ObjectId
  others ids = filter (λ x. not (id_eq id x)) ids

  without_id-others : (ids : List ObjectId) → without_id id ids ≡ others ids
  without_id-others ids = λ i. filter (λ x. not (same_id-id_eq id x i)) ids

  is_among-keys : (ids : List ObjectId) → is_among ids id ≡ list_any (id_eq id) ids
  is_among-keys ids = λ i. list_any (λ x. same_id-id_eq id x i) ids

  -- all others are there already
  stays : (ids : List ObjectId) → AllByRecursion (λ y. id_eq id y ≡ false) ids → others ids ≡ ids
  stays [] h = refl
  stays (x ∷ xs) h = ap (λ b. cond (not b) (x ∷ others xs) (others xs)) h.0 ∙ ap (λ ys. x ∷ ys) (stays xs h.1)

  module _ {X : Type 0} where
    abbrev order : List (ObjectId × X) → List ObjectId
    order es = reverse (keys_of es)

    keys-removed : (es : List (ObjectId × X)) → IsDistinct id_eq (keys_of es) → keys_of (remove_entry (id_eq id) es) ≡ others (keys_of es)
    keys-removed [] h = refl
    keys-removed (e ∷ es) h = (elim (id_eq id e.0) as (λ b. id_eq id e.0 ≡ b → keys_of (cond b es (e ∷ remove_entry (id_eq id) es)) ≡ cond (not b) (e.0 ∷ others (keys_of es)) (others (keys_of es))) [
      | true ↦ λ t. sym (stays (keys_of es) (subst (λ k. AllByRecursion (λ y. id_eq k y ≡ false) (keys_of es)) (sym (id_eq-equal id e.0 t)) (IsDistinct-head id_eq e.0 (keys_of es) h)))
      | false ↦ λ t. ap (λ ks. e.0 ∷ ks) (keys-removed es (IsDistinct-tail id_eq e.0 (keys_of es) h))
    ]) refl

    -- an entry is found where its id stands
    found : (es : List (ObjectId × X)) → is_some (lookup_entry (id_eq id) es) ≡ list_any (id_eq id) (keys_of es)
    found [] = refl
    found (e ∷ es) = elim (id_eq id e.0) as (λ b. is_some (cond b (Some e) (lookup_entry (id_eq id) es)) ≡ b || list_any (id_eq id) (keys_of es)) [
      | true ↦ refl
      | false ↦ found es
    ]

    -- an id is in the order where it has an entry
    pub order-has : (es : List (ObjectId × X)) → is_some (lookup (id_eq id) es) ≡ is_among (order es) id
    order-has es = by-keys es ∙ sym (is_among-keys (order es) ∙ list_any-reverse (id_eq id) (keys_of es))
      where
        by-keys : (es : List (ObjectId × X)) → is_some (lookup (id_eq id) es) ≡ list_any (id_eq id) (keys_of es)
        by-keys [] = refl
        by-keys (e ∷ es) = elim (id_eq id e.0) as (λ b. is_some (cond b (Some e.1) (lookup (id_eq id) es)) ≡ b || list_any (id_eq id) (keys_of es)) [
          | true ↦ refl
          | false ↦ by-keys es
        ]

    found_key : (es : List (ObjectId × X)) (e : ObjectId × X) → lookup_entry (id_eq id) es ≡ Some e → e.0 ≡ id
    found_key [] e h = cc
    found_key (x ∷ es) e h = (elim (id_eq id x.0) as (λ b. id_eq id x.0 ≡ b → cond b (Some x) (lookup_entry (id_eq id) es) ≡ Some e → e.0 ≡ id) [
      | true ↦ λ t h. let same : x ≡ e = cc in ap (λ p. p.0) (sym same) ∙ sym (id_eq-equal id x.0 t)
      | false ↦ λ t h. found_key es e h
    ]) refl h

    -- where none is found, all are others
    absent : (es : List (ObjectId × X)) → lookup_entry (id_eq id) es ≡ None → others (keys_of es) ≡ keys_of es
    absent [] h = refl
    absent (e ∷ es) h = (elim (id_eq id e.0) as (λ b. cond b (Some e) (lookup_entry (id_eq id) es) ≡ None → cond (not b) (e.0 ∷ others (keys_of es)) (others (keys_of es)) ≡ e.0 ∷ keys_of es) [
      | true ↦ λ h. cc
      | false ↦ λ h. ap (λ ks. e.0 ∷ ks) (absent es h)
    ]) h

    -- the others, in order of use
    order-others : (es : List (ObjectId × X)) → reverse (others (keys_of es)) ≡ without_id id (order es)
    order-others es = sym (without_id-others (order es) ∙ filter-reverse (λ x. not (id_eq id x)) (keys_of es))

    -- the id in front of the others is the last used
    order-front : (es : List (ObjectId × X)) (ids : List ObjectId) → ids ≡ id ∷ others (keys_of es) → reverse ids ≡ last_used id (order es)
    order-front es ids e = ap reverse e ∙ reverse-cons id (others (keys_of es)) ∙ ap (λ ks. ks ++ id ∷ []) (order-others es)

    module _ (es : List (ObjectId × X)) (distinct : IsDistinct id_eq (keys_of es)) where
      pub order-removed : order (remove_entry (id_eq id) es) ≡ without_id id (order es)
      order-removed = ap reverse (keys-removed es distinct) ∙ order-others es

      pub order-promoted : order (promoted (id_eq id) es) ≡ touched id (order es)
      order-promoted = by (lookup_entry (id_eq id) es) refl
        where
          among : (b : Bool) → is_some (lookup_entry (id_eq id) es) ≡ b → is_among (order es) id ≡ b
          among b h = is_among-keys (order es) ∙ list_any-reverse (id_eq id) (keys_of es) ∙ sym (found es) ∙ h

          by : (o : Option (ObjectId × X)) → lookup_entry (id_eq id) es ≡ o → order (option_map_or (λ e. e ∷ remove_entry (id_eq id) es) o es) ≡ touched id (order es)
          by None e = sym (ap (λ b. cond b (last_used id (order es)) (order es)) (among false (ap is_some e)))
          by (Some x) e =
              order-front es (x.0 ∷ keys_of (remove_entry (id_eq id) es)) (λ i. found_key es x e i ∷ keys-removed es distinct i)
              ∙ sym (ap (λ b. cond b (last_used id (order es)) (order es)) (among true (ap is_some e)))

    -- none goes out of a cache with room
    pub order-put : (c : LruCache ObjectId X) (x : X) → IsDistinct id_eq (keys_of c.entries) → length c.entries ≤ c.cap - 1 → order (put_entries id_eq c id x) ≡ last_used id (order c.entries)
    order-put c x distinct room = by (lookup_entry (id_eq id) c.entries) refl
      where
        by : (o : Option (ObjectId × X)) → lookup_entry (id_eq id) c.entries ≡ o
            → order (option_map_or (λ e. (e.0, x) ∷ remove_entry (id_eq id) c.entries) o ((id, x) ∷ take (c.cap - 1) c.entries)) ≡ last_used id (order c.entries)
        by None e =
            order-front c.entries (id ∷ keys_of (take (c.cap - 1) c.entries))
            (ap (λ es. id ∷ keys_of es) (take_all (c.cap - 1) c.entries room) ∙ ap (λ ks. id ∷ ks) (sym (absent c.entries e)))
        by (Some f) e =
            order-front c.entries (f.0 ∷ keys_of (remove_entry (id_eq id) c.entries)) (λ i. found_key c.entries f e i ∷ keys-removed c.entries distinct i)
