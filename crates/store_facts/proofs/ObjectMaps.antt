-- A map by rising id, read and written, is a table by object.
use Rattle.std.proofs.Common.{◌≡◌, Bool, true, false, not, cond, List, [], ◌∷◌, Some, None, refl, sym, ap, ◌∙◌}
use Rattle.std.specs.Ordering.{is_eq, match_ordering}
use Rattle.std.specs.declared.cmp.Ordering.{Ordering}
use Rattle.std.specs.declared.cmp.Ordering.TheVariants.{Less, Equal, Greater}
use Rattle.std.specs.Cmp.{eq_by_cmp_equiv}
use Rattle.std.specs.BTreeMap.{insert_entry, is_at}
use Rattle.std.specs.FinMap.Entries.{by_order}
use Rattle.std.specs.List.Sorted.{IsStrictlySortedBy}
use Rattle.std.specs.Map.{keys_of, lookup, set_value, remove_entry}
use Rattle.std.proofs.lemmas.Map.{NonePasses, lookup-none}
use Rattle.std.proofs.lemmas.Map.Entries.{none_below_head, none_past_head}
use Rattle.std.proofs.lemmas.Map.Keys.{sorted_tail, IsDistinct-from_sorted}
use Rattle.obj_id.specs.declared.ids.ObjectId.{ObjectId}
use Rattle.obj_id.specs.Ids.{id_cmp, same_id}
use Rattle.store_facts.proofs.Ids.{id_cmp-IsTotalOrder}
use Rattle.private_store.specs.rules.Tables.{at, with_entry, without_entry}
use Rattle.store_facts.proofs.Tests.{none_some}

abbrev pub is_id : ObjectId → ObjectId → Bool
is_id id = is_at (id_cmp id)

module _ {X : Type 0} (id : ObjectId) where
  -- a look-up
  pub at-lookup : (es : List (ObjectId × X)) → at es id ≡ lookup (is_id id) es
  at-lookup [] = refl
  at-lookup (e ∷ es) = ap (λ o. cond (is_id id e.0) (Some e.1) o) (at-lookup es)

  -- a new entry
  pub with_entry-insert : (es : List (ObjectId × X)) (x : X) → insert_entry id_cmp es id x ≡ with_entry es id x
  with_entry-insert [] x = refl
  with_entry-insert (e ∷ es) x = by (id_cmp id e.0) (with_entry-insert es x)
    where
      by : (o : Ordering) → insert_entry id_cmp es id x ≡ with_entry es id x → match_ordering o ((id, x) ∷ e ∷ es) ((e.0, x) ∷ es) (e ∷ insert_entry id_cmp es id x) ≡ by_order o ((id, x) ∷ e ∷ es) ((e.0, x) ∷ es) (e ∷ with_entry es id x)
      by Less later = refl
      by Equal later = refl
      by Greater later = ap (λ t. e ∷ t) later

  -- another value of an entry
  pub with_entry-set : (es : List (ObjectId × X)) (old x : X) → IsStrictlySortedBy id_cmp (keys_of es) → lookup (is_id id) es ≡ Some old → set_value (is_id id) es x ≡ with_entry es id x
  with_entry-set [] old x sorted found = none_some old found
  with_entry-set (e ∷ es) old x sorted found = by (id_cmp id e.0) refl found (with_entry-set es old x (sorted_tail id_cmp e.0 (keys_of es) sorted))
    where
      by : (o : Ordering) → id_cmp id e.0 ≡ o → cond (is_eq o) (Some e.1) (lookup (is_id id) es) ≡ Some old → (lookup (is_id id) es ≡ Some old → set_value (is_id id) es x ≡ with_entry es id x)
          → cond (is_eq o) ((e.0, x) ∷ es) (e ∷ set_value (is_id id) es x) ≡ by_order o ((id, x) ∷ e ∷ es) ((e.0, x) ∷ es) (e ∷ with_entry es id x)
      by Less less found later = none_some old (sym (lookup-none (is_id id) es (none_below_head id_cmp-IsTotalOrder id e es sorted less).1) ∙ found)
      by Equal equal found later = refl
      by Greater greater found later = ap (λ t. e ∷ t) (later found)

  none_left : (es : List (ObjectId × X)) → NonePasses (is_id id) es → without_entry es id ≡ es
  none_left [] none = refl
  none_left (e ∷ es) none = ap (λ b. cond (not b) (e ∷ without_entry es id) (without_entry es id)) none.0 ∙ ap (λ t. e ∷ t) (none_left es none.1)

  -- an entry taken out
  pub without_entry-remove : (es : List (ObjectId × X)) → IsStrictlySortedBy id_cmp (keys_of es) → remove_entry (is_id id) es ≡ without_entry es id
  without_entry-remove [] sorted = refl
  without_entry-remove (e ∷ es) sorted = by (same_id id e.0) refl (without_entry-remove es (sorted_tail id_cmp e.0 (keys_of es) sorted))
    where
      by : (b : Bool) → same_id id e.0 ≡ b → remove_entry (is_id id) es ≡ without_entry es id → cond b es (e ∷ remove_entry (is_id id) es) ≡ cond (not b) (e ∷ without_entry es id) (without_entry es id)
      by true t later = sym (none_left es (none_past_head (eq_by_cmp_equiv id_cmp-IsTotalOrder) id e es (IsDistinct-from_sorted id_cmp (keys_of (e ∷ es)) sorted) t))
      by false t later = ap (λ u. e ∷ u) later

  -- an entry that isn't there
  pub without_entry-absent : (es : List (ObjectId × X)) → lookup (is_id id) es ≡ None → without_entry es id ≡ es
  without_entry-absent [] none = refl
  without_entry-absent (e ∷ es) none = by (same_id id e.0) none (without_entry-absent es)
    where
      by : (b : Bool) → cond b (Some e.1) (lookup (is_id id) es) ≡ None → (lookup (is_id id) es ≡ None → without_entry es id ≡ es) → cond (not b) (e ∷ without_entry es id) (without_entry es id) ≡ e ∷ es
      by true none later = none_some e.1 (sym none)
      by false none later = ap (λ t. e ∷ t) (later none)

  -- an entry taken out after a change of its value
  pub without_entry-set : (es : List (ObjectId × X)) (x : X) → without_entry (set_value (is_id id) es x) id ≡ without_entry es id
  without_entry-set [] x = refl
  without_entry-set (e ∷ es) x = by (is_id id e.0) refl (without_entry-set es x)
    where
      by : (b : Bool) → is_id id e.0 ≡ b → without_entry (set_value (is_id id) es x) id ≡ without_entry es id → without_entry (cond b ((e.0, x) ∷ es) (e ∷ set_value (is_id id) es x)) id ≡ without_entry (e ∷ es) id
      by true t later = ap (λ b. cond (not b) ((e.0, x) ∷ without_entry es id) (without_entry es id)) t ∙ sym (ap (λ b. cond (not b) (e ∷ without_entry es id) (without_entry es id)) t)
      by false t later =
          ap (λ b. cond (not b) (e ∷ without_entry (set_value (is_id id) es x) id) (without_entry (set_value (is_id id) es x) id)) t
          ∙ ap (λ u. e ∷ u) later
          ∙ sym (ap (λ b. cond (not b) (e ∷ without_entry es id) (without_entry es id)) t)
