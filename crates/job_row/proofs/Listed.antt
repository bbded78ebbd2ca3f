-- Items in the order that a sort by their ids gives them are those of the table.
use Rattle.std.proofs.Common.{◌≡◌, ◌+◌, ◌<◌, Bool, true, false, Option, Some, None, List, [], ◌∷◌, ◌++◌, length, map, get_or, refl, sym, ap, subst, ◌∙◌, T, ◌&&◌, arith}
use Rattle.std.specs.List.{IsDistinct, AllByRecursion}
use Rattle.std.specs.List.Sorted.{IsPermutation, IsSortedByKey, IsStrictlySortedBy}
use Rattle.std.specs.Map.{keys_of, lookup}
use Rattle.std.specs.FinMap.{is_sorted}
use Rattle.std.specs.FinMap.Entries.{below_all, same_entries}
use Rattle.std.specs.Ordering.{is_eq, is_lt, ordering_reverse}
use Rattle.std.specs.declared.cmp.Ordering.{Ordering}
use Rattle.std.specs.declared.cmp.Ordering.TheVariants.{Less, Equal, Greater}
use Rattle.std.proofs.lemmas.List.Sorted.{IsPermutation-map, IsPermutation-sym, IsPermutation-trans, Contains-permutation}
use Rattle.std.proofs.lemmas.List.{append-nil, append_assoc, get_or-map, length-map}
use Rattle.std.proofs.lemmas.Map.Keys.{IsDistinct-IsPermutation, sorted_head, sorted_tail, sorted_from_all_adjacent, apart_from_distinct}
use Rattle.std.proofs.lemmas.Map.Views.{Contains-from_lookup, lookup-from_Contains}
use Rattle.obj_id.specs.declared.ids.ObjectId.{ObjectId}
use Rattle.obj_id.specs.declared.commands.OwnItem.{OwnItem}
use Rattle.obj_id.specs.Ids.{id_cmp, id_eq}
use Rattle.store_facts.proofs.Ids.{id_cmp-IsTotalOrder, id_cmp-IsAntisymmetric, same_id-id_eq, id_eq_equiv, id_eq-equal}
use Rattle.private_store.specs.rules.Tables.{ById, at}
use Rattle.store_facts.proofs.ObjectMaps.{at-lookup}
use Rattle.store_facts.proofs.Tests.{true_false, and_left, and_right}
use Rattle.job_row.specs.Entries.{by_rising_id}
use Rattle.row_copy.specs.CopyViews.{CopyView}
use Rattle.row_copy.specs.Usages.{own_item_of}
use Rattle.job_row.proofs.Rising.{rising-all}

-- the items, each with its id
abbrev keyed : List OwnItem → ById OwnItem
keyed items = map (λ i. (i.id, i)) items

abbrev ids_of_items : List OwnItem → List ObjectId
ids_of_items items = map (λ i. i.id) items

keyed-back : (items : List OwnItem) → map (λ e. e.1) (keyed items) ≡ items
keyed-back [] = refl
keyed-back (i ∷ is) = ap (λ xs. i ∷ xs) (keyed-back is)

keys-keyed : (items : List OwnItem) → keys_of (keyed items) ≡ ids_of_items items
keys-keyed [] = refl
keys-keyed (i ∷ is) = ap (λ xs. i.id ∷ xs) (keys-keyed is)

-- ---- before the walk over the entries and after it

pub none_listed : (es left : List (ObjectId × CopyView)) (now : ById CopyView) (done : List OwnItem) → done ≡ [] → left ≡ es → IsDistinct id_eq (keys_of es) → by_rising_id es ≡ now
    → IsPermutation (map own_item_of now) (done ++ map own_item_of left)
none_listed es left now done none all distinct seen =
    subst (λ t. IsPermutation (map own_item_of t) (done ++ map own_item_of left)) seen
    (subst (λ xs. IsPermutation (map own_item_of (by_rising_id es)) xs) (sym (λ i. none i ++ map own_item_of (all i)))
    (IsPermutation-sym (map own_item_of es) (map own_item_of (by_rising_id es)) (IsPermutation-map own_item_of es (by_rising_id es) (rising-all es distinct))))

pub next_listed : (now : ById CopyView) (done new : List OwnItem) (left rest : List (ObjectId × CopyView)) (e : ObjectId × CopyView) (item : OwnItem) → left ≡ e ∷ rest → item ≡ own_item_of e → new ≡ done ++ item ∷ []
    → IsPermutation (map own_item_of now) (done ++ map own_item_of left) → IsPermutation (map own_item_of now) (new ++ map own_item_of rest)
next_listed now done new left rest e item takes is pushed all =
    subst (IsPermutation (map own_item_of now)) (ap (λ xs. done ++ map own_item_of xs) takes ∙ sym (append_assoc done (own_item_of e ∷ []) (map own_item_of rest)) ∙ ap (λ x. (done ++ x ∷ []) ++ map own_item_of rest) (sym is) ∙ ap (λ xs. xs ++ map own_item_of rest) (sym pushed)) all

pub all_listed : (now : ById CopyView) (done : List OwnItem) (left : List (ObjectId × CopyView)) → left ≡ [] → IsPermutation (map own_item_of now) (done ++ map own_item_of left) → IsPermutation (map own_item_of now) done
all_listed now done left none all = subst (IsPermutation (map own_item_of now)) (ap (λ xs. done ++ map own_item_of xs) none ∙ append-nil done) all

-- ---- a table, and the items of it

-- each id is below those after it, and so is none of them
apart_from_below : (k : ObjectId) (table : ById CopyView) → T (below_all id_cmp k table) → AllByRecursion (λ y. id_eq k y ≡ false) (keys_of table)
apart_from_below k [] h = tt
apart_from_below k (e ∷ es) h = (sym (same_id-id_eq k e.0) ∙ not_tied (id_cmp k e.0) (and_left _ _ h), apart_from_below k es (and_right _ _ h))
  where
    not_tied : (o : Ordering) → T (is_lt o) → is_eq o ≡ false
    not_tied Less h = refl
    not_tied Equal h = absurd h
    not_tied Greater h = refl

pub distinct_from_sorted : (table : ById CopyView) → T (is_sorted id_cmp table) → IsDistinct id_eq (keys_of table)
unfolding IsDistinct
distinct_from_sorted [] h = tt
distinct_from_sorted (e ∷ es) h = (apart_from_below e.0 es (and_left _ _ h), distinct_from_sorted es (and_right _ _ h))

below-items : (k : ObjectId) (table : ById CopyView) → below_all id_cmp k (keyed (map own_item_of table)) ≡ below_all id_cmp k table
below-items k [] = refl
below-items k (e ∷ es) = ap (λ b. is_lt (id_cmp k e.0) && b) (below-items k es)

sorted-items : (table : ById CopyView) → is_sorted id_cmp (keyed (map own_item_of table)) ≡ is_sorted id_cmp table
sorted-items [] = refl
sorted-items (e ∷ es) = λ i. below-items e.0 es i && sorted-items es i

ids-items : (table : ById CopyView) → ids_of_items (map own_item_of table) ≡ keys_of table
ids-items [] = refl
ids-items (e ∷ es) = ap (λ xs. e.0 ∷ xs) (ids-items es)

-- ---- what a sort gives

less : (x y : ObjectId) → is_lt (id_cmp y x) ≡ false → id_eq x y ≡ false → id_cmp x y ≡ Less
less x y not_above apart = by (id_cmp x y) refl
  where
    by : (o : Ordering) → id_cmp x y ≡ o → id_cmp x y ≡ Less
    by Less is = is
    by Equal is = true_false (sym apart ∙ sym (same_id-id_eq x y) ∙ ap is_eq is)
    by Greater is = true_false (sym not_above ∙ ap is_lt (id_cmp-IsTotalOrder.antisymm y x ∙ ap ordering_reverse is))

rises : (items : List OwnItem) → IsSortedByKey (λ i. i.id) id_cmp items → IsDistinct id_eq (ids_of_items items) → IsStrictlySortedBy id_cmp (ids_of_items items)
unfolding IsStrictlySortedBy
rises [] up distinct = tt
rises (i ∷ is) up distinct =
    let ids : List ObjectId = ids_of_items (i ∷ is) in
    sorted_from_all_adjacent id_cmp-IsTotalOrder ids i.id (λ k lt.
    let within : k + 1 < length (i ∷ is) = subst (λ n. k + 1 < n) (length-map (i ∷ is) (λ (x : OwnItem). x.id)) lt in
    let one : get_or ids k i.id ≡ (get_or (i ∷ is) k i).id = get_or-map (λ (x : OwnItem). x.id) (i ∷ is) k i i.id (omega (arith, within)) in
    let next : get_or ids (k + 1) i.id ≡ (get_or (i ∷ is) (k + 1) i).id = get_or-map (λ (x : OwnItem). x.id) (i ∷ is) (k + 1) i i.id within in
    less (get_or ids k i.id) (get_or ids (k + 1) i.id) ((λ j. is_lt (id_cmp (next j) (one j))) ∙ up k i (omega arith) within)
    (apart_from_distinct id_eq ids k (k + 1) i.id distinct (omega arith) lt))

both_true : (a b : Bool) → T a → T b → T (a && b)
both_true true b h k = k
both_true false b h k = absurd h

below_from_sorted : (k : ObjectId) (items : List OwnItem) → AllByRecursion (λ y. id_cmp k y ≡ Less) (ids_of_items items) → T (below_all id_cmp k (keyed items))
below_from_sorted k [] h = tt
below_from_sorted k (i ∷ is) h = both_true _ _ (subst T (sym (ap is_lt h.0)) tt) (below_from_sorted k is h.1)

keyed-sorted : (items : List OwnItem) → IsStrictlySortedBy id_cmp (ids_of_items items) → T (is_sorted id_cmp (keyed items))
keyed-sorted [] s = tt
keyed-sorted (i ∷ is) s = both_true _ _ (below_from_sorted i.id is (sorted_head id_cmp i.id (ids_of_items is) s)) (keyed-sorted is (sorted_tail id_cmp i.id (ids_of_items is) s))

at-distinct : (t : ById OwnItem) (q : ObjectId) → at t q ≡ lookup (id_eq q) t
at-distinct t q = at-lookup q t ∙ ap (λ test. lookup test t) (λ i k. same_id-id_eq q k i)

-- where no id comes twice, the order doesn't matter to a look-up
same_found : (q : ObjectId) (t u : ById OwnItem) → IsPermutation t u → IsDistinct id_eq (keys_of t) → IsDistinct id_eq (keys_of u) → lookup (id_eq q) u ≡ lookup (id_eq q) t
same_found q t u moved distinct_t distinct_u = by (lookup (id_eq q) t) (lookup (id_eq q) u) refl refl
  where
    by : (o p : Option OwnItem) → lookup (id_eq q) t ≡ o → lookup (id_eq q) u ≡ p → p ≡ o
    by (Some i) p in_t in_u = sym in_u ∙ lookup-from_Contains id_eq_equiv q i u distinct_u (Contains-permutation t u (q, i) moved (Contains-from_lookup id_eq-equal q i t in_t))
    by None (Some i) in_t in_u = sym (lookup-from_Contains id_eq_equiv q i t distinct_t (Contains-permutation u t (q, i) (IsPermutation-sym t u moved) (Contains-from_lookup id_eq-equal q i u in_u))) ∙ in_t
    by None None in_t in_u = refl

-- the items of a table, in any order, and then sorted by their ids
pub listed : (now : ById CopyView) (any items : List OwnItem) → T (is_sorted id_cmp now) → IsPermutation (map own_item_of now) any → IsPermutation any items → IsSortedByKey (λ i. i.id) id_cmp items → items ≡ map own_item_of now
listed now any items in_order walked sorted up =
    let moved = IsPermutation-map (λ (i : OwnItem). (i.id, i)) (map own_item_of now) items (IsPermutation-trans (map own_item_of now) any items walked sorted) in
    let of_table = subst (IsDistinct id_eq) (sym (ids-items now)) (distinct_from_sorted now in_order) in
    let distinct = IsDistinct-IsPermutation id_eq id_eq_equiv.symm (ids_of_items (map own_item_of now)) (ids_of_items items)
    (IsPermutation-map (λ (i : OwnItem). i.id) (map own_item_of now) items (IsPermutation-trans (map own_item_of now) any items walked sorted)) of_table in
    let same = same_entries id_cmp id_cmp-IsTotalOrder id_cmp-IsAntisymmetric (keyed items) (keyed (map own_item_of now)) (keyed-sorted items (rises items up distinct)) (subst T (sym (sorted-items now)) in_order) (λ q.
    at-distinct (keyed items) q
    ∙ same_found q (keyed (map own_item_of now)) (keyed items) moved (subst (IsDistinct id_eq) (sym (keys-keyed (map own_item_of now))) of_table) (subst (IsDistinct id_eq) (sym (keys-keyed items)) distinct)
    ∙ sym (at-distinct (keyed (map own_item_of now)) q)) in
    sym (keyed-back items) ∙ ap (map (λ e. e.1)) same ∙ keyed-back (map own_item_of now)
