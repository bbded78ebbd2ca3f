-- The entry of an id in a map, by the index at which it stands.
use Rattle.std.proofs.Common.{◌≡◌, ℕ, zero, suc, Bool, true, false, cond, List, [], ◌∷◌, slice_get, position, Option, Some, None, refl, sym, ap, ◌∙◌}
use Rattle.std.specs.Prelude.{swap_remove, IfSome}
use Rattle.std.specs.Map.{keys_of, values_of, lookup, lookup_key, set_value}
use Rattle.indexmap.specs.IndexMap.{IndexMap, Updates, insert_entry, swap_remove_entry, set_value_at}
use Rattle.indexmap.proofs.MapLemmas.{Found-position, insert_entry-first, swap_remove_entry-found}
use Rattle.obj_id.specs.declared.ids.ObjectId.{ObjectId}
use Rattle.obj_id.specs.Ids.{id_eq}
use Rattle.store_facts.proofs.Ids.{id_eq-equal}
use Rattle.store_facts.proofs.Tests.{some_value, none_some}
use Rattle.private_store.specs.rules.Tables.{without_entry}
use Rattle.job_row.specs.Entries.{by_rising_id}
use Rattle.job_row.proofs.Rising.{without-rising}

module _ {X : Type 0} (id : ObjectId) (y : X) where
  insert-there : (es : List (ObjectId × X)) (x : X) → lookup (id_eq id) es ≡ Some x → insert_entry id_eq es id y ≡ set_value (id_eq id) es y
  insert-there [] x found = none_some x found
  insert-there (e ∷ es) x found = by (id_eq id e.0) found (insert-there es x)
    where
      by : (b : Bool) → cond b (Some e.1) (lookup (id_eq id) es) ≡ Some x → (lookup (id_eq id) es ≡ Some x → insert_entry id_eq es id y ≡ set_value (id_eq id) es y)
          → cond b ((e.0, y) ∷ es) (e ∷ insert_entry id_eq es id y) ≡ cond b ((e.0, y) ∷ es) (e ∷ set_value (id_eq id) es y)
      by true here rest = refl
      by false here rest = ap (λ t. e ∷ t) (rest here)

  found-set : (es : List (ObjectId × X)) (x : X) → lookup (id_eq id) es ≡ Some x → lookup (id_eq id) (set_value (id_eq id) es y) ≡ Some y
  found-set [] x found = none_some x found
  found-set (e ∷ es) x found = by (id_eq id e.0) refl found (found-set es x)
    where
      by : (b : Bool) → id_eq id e.0 ≡ b → cond b (Some e.1) (lookup (id_eq id) es) ≡ Some x → (lookup (id_eq id) es ≡ Some x → lookup (id_eq id) (set_value (id_eq id) es y) ≡ Some y)
          → lookup (id_eq id) (cond b ((e.0, y) ∷ es) (e ∷ set_value (id_eq id) es y)) ≡ Some y
      by true own here rest = ap (λ b. cond b (Some y) (lookup (id_eq id) es)) own
      by false own here rest = ap (λ b. cond b (Some e.1) (lookup (id_eq id) (set_value (id_eq id) es y))) own ∙ rest here

  keys-set : (es : List (ObjectId × X)) → keys_of (set_value (id_eq id) es y) ≡ keys_of es
  keys-set [] = refl
  keys-set (e ∷ es) = by (id_eq id e.0) (keys-set es)
    where
      by : (b : Bool) → keys_of (set_value (id_eq id) es y) ≡ keys_of es → keys_of (cond b ((e.0, y) ∷ es) (e ∷ set_value (id_eq id) es y)) ≡ e.0 ∷ keys_of es
      by true rest = refl
      by false rest = ap (λ t. e.0 ∷ t) rest

module _ {X : Type 0} where
  key_passes : (test : ObjectId → Bool) (es : List (ObjectId × X)) (k : ObjectId) → lookup_key test es ≡ Some k → test k ≡ true
  key_passes test [] k found = none_some k found
  key_passes test (e ∷ es) k found = by (test e.0) refl found (key_passes test es k)
    where
      by : (b : Bool) → test e.0 ≡ b → cond b (Some e.0) (lookup_key test es) ≡ Some k → (lookup_key test es ≡ Some k → test k ≡ true) → test k ≡ true
      by true passes here rest = ap test (sym (some_value e.0 k here)) ∙ passes
      by false passes here rest = rest here

  key_there : (es : List (ObjectId × X)) (i : ℕ) (e : ObjectId × X) → slice_get es i ≡ Some e → slice_get (keys_of es) i ≡ Some e.0
  key_there [] i e there = none_some e there
  key_there (x ∷ es) zero e there = ap (λ (o : ObjectId × X). Some o.0) (some_value x e there)
  key_there (x ∷ es) (suc i) e there = key_there es i e there

  value_there : (es : List (ObjectId × X)) (i : ℕ) (e : ObjectId × X) → slice_get es i ≡ Some e → slice_get (values_of es) i ≡ Some e.1
  value_there [] i e there = none_some e there
  value_there (x ∷ es) zero e there = ap (λ (o : ObjectId × X). Some o.1) (some_value x e there)
  value_there (x ∷ es) (suc i) e there = value_there es i e there

  none_there : (es : List (ObjectId × X)) (i : ℕ) → slice_get es i ≡ None → slice_get (values_of es) i ≡ None
  none_there [] i none = refl
  none_there (x ∷ es) zero none = none_some x (sym none)
  none_there (x ∷ es) (suc i) none = none_there es i none

-- the id's entry stands at the index, and has this value
pub record IsHere {X : Type 0} (id : ObjectId) (es : List (ObjectId × X)) (i : ℕ) (x : X) : Type 0 where
  pub index : position (id_eq id) (keys_of es) ≡ Some i
  pub found : lookup (id_eq id) es ≡ Some x

-- as look-ups of both say
pub here : {X : Type 0} (id : ObjectId) (es : List (ObjectId × X)) (i : ℕ) (x : X) (at : Option ℕ) (value : Option X)
    → at ≡ position (id_eq id) (keys_of es) → at ≡ Some i → value ≡ slice_get (values_of es) i → value ≡ Some x → IsHere id es i x
here id es i x at value places is holds of =
    let index = sym places ∙ is in
    record { index = index; found = (Found-position (id_eq id) es i index).value ∙ sym holds ∙ of }

module _ {X : Type 0} (id : ObjectId) (es : List (ObjectId × X)) (i : ℕ) (x : X) (h : IsHere id es i x) where
  -- there is an entry
  pub some_there : slice_get es i ≡ None → ⊥
  some_there none = none_some x (sym (none_there es i none) ∙ sym (Found-position (id_eq id) es i h.index).value ∙ h.found)

  -- this is the one
  pub own_key : (e : ObjectId × X) → slice_get es i ≡ Some e → id ≡ e.0
  own_key e there = id_eq-equal id e.0 (key_passes (id_eq id) es e.0 ((Found-position (id_eq id) es i h.index).key ∙ key_there es i e there))

  pub own_value : (e : ObjectId × X) → slice_get es i ≡ Some e → e.1 ≡ x
  own_value e there = some_value e.1 x (sym (value_there es i e there) ∙ sym (Found-position (id_eq id) es i h.index).value ∙ h.found)

  -- it is removed, and the last one takes its place
  pub swap-there : (e : ObjectId × X) → swap_remove es i e ≡ swap_remove_entry (id_eq id) es
  swap-there e = sym (swap_remove_entry-found (id_eq id) es i e h.index)

  pub removed-rising : {S : Type 0} (m new : IndexMap ObjectId X S) → m.entries ≡ es → (r : Option (ObjectId × X)) → r ≡ slice_get m.entries i → IfSome r (λ e. Updates id_eq m new e.0 None)
      → by_rising_id new.entries ≡ without_entry (by_rising_id es) id
  removed-rising m new are None place gone = absurd (some_there (ap (λ t. slice_get t i) (sym are) ∙ sym place))
  removed-rising m new are (Some e) place gone =
      let own = own_key e (ap (λ t. slice_get t i) (sym are) ∙ sym place) in
      without-rising id es new.entries (λ q. gone.0 q ∙ (λ j. cond (id_eq (sym own j) q) None (lookup (id_eq q) (are j))))

  -- it gets another value
  module _ (y : X) where
    pub set-there : set_value_at es i y ≡ set_value (id_eq id) es y
    set-there = sym (insert_entry-first id_eq id y es i (Found-position (id_eq id) es i h.index).first) ∙ insert-there id y es x h.found

    pub here_still : IsHere id (set_value_at es i y) i y
    here_still = record {
      index = ap (λ t. position (id_eq id) (keys_of t)) set-there ∙ ap (position (id_eq id)) (keys-set id y es) ∙ h.index;
      found = ap (lookup (id_eq id)) set-there ∙ found-set id y es x h.found;
    }
