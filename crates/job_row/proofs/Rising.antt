-- The entries of a map in no order, and the table of them by rising id.
use Rattle.std.proofs.Common.{◌≡◌, ℕ, Bool, true, false, not, cond, List, [], ◌∷◌, map, Option, Some, None, refl, sym, ap, subst, ◌∙◌, T, is_some, length, arith}
use Rattle.std.specs.Prelude.{sum_by}
use Rattle.std.specs.List.{IsDistinct}
use Rattle.std.specs.List.Sorted.{IsPermutation}
use Rattle.std.specs.Map.{keys_of, lookup, set_value}
use Rattle.std.specs.FinMap.{is_sorted}
use Rattle.std.specs.FinMap.Entries.{is_sorted-put, find-put, is_sorted-where_key, find-where_key, same_entries, by_order}
use Rattle.std.specs.Ordering.{is_eq}
use Rattle.std.specs.declared.cmp.Ordering.{Ordering}
use Rattle.std.specs.declared.cmp.Ordering.TheVariants.{Less, Equal, Greater}
use Rattle.std.proofs.lemmas.Map.{lookup-none, lookup-set_value}
use Rattle.std.proofs.lemmas.Map.Entries.{none_past_head}
use Rattle.std.proofs.lemmas.Map.Keys.{IsDistinct-tail}
use Rattle.std.proofs.lemmas.List.Sorted.{IsPermutation-refl, IsPermutation-cons, IsPermutation-trans, IsPermutation-swap, sum_by-IsPermutation, length_permutation}
use Rattle.std.specs.Map.Calls.{RetainsPairs}
use Rattle.obj_id.specs.declared.ids.ObjectId.{ObjectId}
use Rattle.obj_id.specs.Ids.{id_cmp, id_eq, same_id}
use Rattle.store_facts.proofs.Ids.{id_cmp-IsTotalOrder, id_cmp-IsAntisymmetric, same_id-id_eq, same_id-flip, id_eq_equiv, id_eq-equal, id_eq-itself}
use Rattle.store_facts.proofs.Tests.{none_some}
use Rattle.private_store.specs.rules.Tables.{ById, at, with_entry, without_entry}
use Rattle.job_row.specs.Entries.{by_rising_id, all_changed}

module _ {X : Type 0} where
  pub at-rising : (es : List (ObjectId × X)) (q : ObjectId) → at (by_rising_id es) q ≡ lookup (id_eq q) es
  at-rising [] q = refl
  at-rising (e ∷ es) q =
      find-put id_cmp id_cmp-IsTotalOrder q e.0 e.1 (by_rising_id es)
      ∙ ap (λ b. cond b (Some e.1) (at (by_rising_id es) q)) (same_id-id_eq q e.0)
      ∙ ap (λ o. cond (id_eq q e.0) (Some e.1) o) (at-rising es q)

  pub rising-sorted : (es : List (ObjectId × X)) → T (is_sorted id_cmp (by_rising_id es))
  rising-sorted [] = tt
  rising-sorted (e ∷ es) = is_sorted-put id_cmp id_cmp-IsTotalOrder e.0 e.1 (by_rising_id es) (rising-sorted es)

  -- the table that gives at each id what the entries give
  pub rising-is : (es : List (ObjectId × X)) (t : ById X) → T (is_sorted id_cmp t) → ((q : ObjectId) → lookup (id_eq q) es ≡ at t q) → by_rising_id es ≡ t
  rising-is es t sorted same = same_entries id_cmp id_cmp-IsTotalOrder id_cmp-IsAntisymmetric (by_rising_id es) t (rising-sorted es) sorted (λ q. at-rising es q ∙ same q)

module _ {X : Type 0} (id : ObjectId) (es new : List (ObjectId × X)) where
  -- an entry has another value, or is new
  pub with-rising : (x : X) → ((q : ObjectId) → lookup (id_eq q) new ≡ cond (id_eq id q) (Some x) (lookup (id_eq q) es)) → by_rising_id new ≡ with_entry (by_rising_id es) id x
  with-rising x now =
      rising-is new _ (is_sorted-put id_cmp id_cmp-IsTotalOrder id x (by_rising_id es) (rising-sorted es)) (λ q.
      now q ∙ ap (λ o. cond (id_eq id q) (Some x) o) (sym (at-rising es q)) ∙ ap (λ b. cond b (Some x) (at (by_rising_id es) q)) (sym (same_id-id_eq id q) ∙ same_id-flip id q)
      ∙ sym (find-put id_cmp id_cmp-IsTotalOrder q id x (by_rising_id es)))

  -- an entry is gone
  pub without-rising : ((q : ObjectId) → lookup (id_eq q) new ≡ cond (id_eq id q) None (lookup (id_eq q) es)) → by_rising_id new ≡ without_entry (by_rising_id es) id
  without-rising now =
      rising-is new _ (is_sorted-where_key id_cmp (λ k. not (same_id id k)) (by_rising_id es) (rising-sorted es)) (λ q.
      now q ∙ ap (λ o. cond (id_eq id q) None o) (sym (at-rising es q)) ∙ turned (id_eq id q) _ ∙ ap (λ b. cond (not b) (at (by_rising_id es) q) None) (sym (same_id-id_eq id q))
      ∙ sym (find-where_key id_cmp (λ k. not (same_id id k)) q (λ k tied. ap (λ i. not (same_id id i)) (sym (id_cmp-IsAntisymmetric q k tied))) (by_rising_id es)))
    where
      turned : (b : Bool) (o : Option X) → cond b None o ≡ cond (not b) o None
      turned true o = refl
      turned false o = refl

-- a value is written through what the map lends
pub set-rising : {X : Type 0} (id : ObjectId) (es : List (ObjectId × X)) (x y : X) → lookup (id_eq id) es ≡ Some x → by_rising_id (set_value (id_eq id) es y) ≡ with_entry (by_rising_id es) id y
set-rising id es x y found =
    with-rising id es _ y (λ q. lookup-set_value id_eq_equiv (id_eq id) (λ a b same. ap (λ i. id_eq i b) (id_eq-equal id a same)) q y es (ap is_some found))

-- each value is changed, by its id
module _ {X : Type 0} (f : ObjectId → X → X) where
  abbrev each : List (ObjectId × X) → List (ObjectId × X)
  each es = map (λ e. (e.0, f e.0 e.1)) es

  with_entry-each : (table : ById X) (id : ObjectId) (x : X) → with_entry (each table) id (f id x) ≡ each (with_entry table id x)
  with_entry-each [] id x = refl
  with_entry-each (e ∷ es) id x = by (id_cmp id e.0) refl (with_entry-each es id x)
    where
      by : (o : Ordering) → id_cmp id e.0 ≡ o → with_entry (each es) id (f id x) ≡ each (with_entry es id x)
          → by_order o ((id, f id x) ∷ (e.0, f e.0 e.1) ∷ each es) ((e.0, f id x) ∷ each es) ((e.0, f e.0 e.1) ∷ with_entry (each es) id (f id x))
          ≡ each (by_order o ((id, x) ∷ e ∷ es) ((e.0, x) ∷ es) (e ∷ with_entry es id x))
      by Less c later = refl
      by Equal c later = ap (λ i. (e.0, f i x) ∷ each es) (id_cmp-IsAntisymmetric id e.0 c)
      by Greater c later = ap (λ t. (e.0, f e.0 e.1) ∷ t) later

  pub each-rising : (es : List (ObjectId × X)) → by_rising_id (each es) ≡ each (by_rising_id es)
  each-rising [] = refl
  each-rising (e ∷ es) = ap (λ t. with_entry t e.0 (f e.0 e.1)) (each-rising es) ∙ with_entry-each (by_rising_id es) e.0 e.1

  -- a closure that always answers `true` and writes f of each id and value, and stays as it was
  pub map_pairs_by_id : {F : Type 0} (R : F → ObjectId → X → Bool → X → F → Type 0) (g : F)
      → ((k : ObjectId) (v : X) (b : Bool) (w : X) (g' : F) → R g k v b w g' → (b ≡ true) × (w ≡ f k v) × (g' ≡ g))
      → (es left : List (ObjectId × X)) → RetainsPairs R g es left → left ≡ each es
  map_pairs_by_id R g h [] left r = r
  map_pairs_by_id R g h (e ∷ es) left r =
      let a = h e.0 e.1 r.0 r.1 r.2 r.4 in
      let rest = map_pairs_by_id R g h es r.3 (subst (λ u. RetainsPairs R u es r.3) a.2 r.5) in
      r.6 ∙ ap (λ b. cond b ((e.0, r.1) ∷ r.3) r.3) a.0 ∙ (λ i. (e.0, a.1 i) ∷ rest i)

-- each value is changed
pub changed-rising : {X : Type 0} (f : X → X) (es : List (ObjectId × X)) → by_rising_id (map (λ e. (e.0, f e.1)) es) ≡ all_changed f (by_rising_id es)
changed-rising f es = each-rising (λ id. f) es

-- where no two entries have one id, none is lost
module _ {X : Type 0} where
  new_entry : (table : ById X) (id : ObjectId) (x : X) → at table id ≡ None → IsPermutation ((id, x) ∷ table) (with_entry table id x)
  new_entry [] id x none = IsPermutation-refl ((id, x) ∷ [])
  new_entry (e ∷ es) id x none = by (id_cmp id e.0) none (new_entry es id x)
    where
      by : (o : Ordering) → cond (is_eq o) (Some e.1) (at es id) ≡ None → (at es id ≡ None → IsPermutation ((id, x) ∷ es) (with_entry es id x))
          → IsPermutation ((id, x) ∷ e ∷ es) (by_order o ((id, x) ∷ e ∷ es) ((e.0, x) ∷ es) (e ∷ with_entry es id x))
      by Less gone later = IsPermutation-refl ((id, x) ∷ e ∷ es)
      by Equal gone later = none_some e.1 (sym gone)
      by Greater gone later =
          IsPermutation-trans ((id, x) ∷ e ∷ es) (e ∷ (id, x) ∷ es) (e ∷ with_entry es id x) (IsPermutation-swap ((id, x) ∷ e ∷ es) (e ∷ (id, x) ∷ es) 0 1 (omega arith) (omega arith) refl) (IsPermutation-cons e ((id, x) ∷ es) (with_entry es id x) (later gone))

  pub rising-all : (es : List (ObjectId × X)) → IsDistinct id_eq (keys_of es) → IsPermutation es (by_rising_id es)
  rising-all [] distinct = IsPermutation-refl []
  rising-all (e ∷ es) distinct =
      let absent = lookup-none (id_eq e.0) es (none_past_head id_eq_equiv e.0 e es distinct (id_eq-itself e.0)) in
      IsPermutation-trans (e ∷ es) (e ∷ by_rising_id es) (with_entry (by_rising_id es) e.0 e.1) (IsPermutation-cons e es (by_rising_id es) (rising-all es (IsDistinct-tail id_eq e.0 (keys_of es) distinct)))
      (new_entry (by_rising_id es) e.0 e.1 (at-rising es e.0 ∙ absent))

  pub total-rising : (f : ObjectId × X → ℕ) (es : List (ObjectId × X)) → IsDistinct id_eq (keys_of es) → sum_by f (by_rising_id es) ≡ sum_by f es
  total-rising f es distinct = sum_by-IsPermutation f es (by_rising_id es) (rising-all es distinct)

  pub length-rising : (es : List (ObjectId × X)) → IsDistinct id_eq (keys_of es) → length (by_rising_id es) ≡ length es
  length-rising es distinct = length_permutation es (by_rising_id es) (rising-all es distinct)
