-- A map by rising id, each with its entries, is a table of locations.
use Rattle.std.proofs.Common.{◌≡◌, ◌≢◌, ℕ, ◌==◌, Bool, true, false, cond, List, [], ◌∷◌, Option, Some, None, refl, sym, ap, subst, ◌∙◌, arith}
use Rattle.std.specs.Prelude.{unwrap_or, nat_lt, IsTrue, ◌↔◌, IfOk, OnOk, OnErr, Ok, Err}
use Rattle.std.specs.declared.result.Result.{Result}
use Rattle.memory_growth.specs.declared.OutOfMemory.{OutOfMemory}
use Rattle.std.specs.BTreeMap.{insert_entry}
use Rattle.std.specs.List.{cons_option}
use Rattle.std.specs.List.Sorted.{IsStrictlySortedBy}
use Rattle.std.specs.Map.{keys_of, lookup, set_value}
use Rattle.std.specs.Map.Calls.{RetainsPairs}
use Rattle.std.proofs.lemmas.Bool.Decides.{nat_tests}
use Rattle.std.proofs.lemmas.Map.Steps.{set_value_same}
use Rattle.obj_id.specs.declared.ids.ObjectId.{ObjectId}
use Rattle.obj_id.specs.declared.messages.Location.{Location}
use Rattle.obj_id.specs.Ids.{id_cmp}
use Rattle.private_store.specs.rules.Tables.{with_entry, without_entry}
use Rattle.private_store.specs.rules.Directory.{entries_at, entry_placed, with_entries, without_node, without_entries_at}
use Rattle.owner_directory.specs.Locations.{Locations, is_longer}
use Rattle.store_facts.proofs.ObjectMaps.{is_id, at-lookup, with_entry-insert, with_entry-set, without_entry-absent, without_entry-set}
use Rattle.store_facts.proofs.Tests.{true_false}

-- ---- an object's entries

module _ (id : ObjectId) (es : Locations) where
  pub entries_at-found : (xs : List Location) → lookup (is_id id) es ≡ Some xs → entries_at es id ≡ xs
  entries_at-found xs found = ap (λ o. unwrap_or o []) (at-lookup id es ∙ found)

  pub entries_at-absent : lookup (is_id id) es ≡ None → entries_at es id ≡ []
  entries_at-absent none = ap (λ o. unwrap_or o []) (at-lookup id es ∙ none)

  -- entries that are some
  pub with_entries-some : (xs : List Location) → (xs ≡ [] → ⊥) → with_entries es id xs ≡ with_entry es id xs
  with_entries-some [] some = absurd (some refl)
  with_entries-some (x ∷ xs) some = refl

placed_some : (new : Location) (entries : List Location) → entry_placed new entries ≡ [] → ⊥
placed_some new [] e = absurd cc
placed_some new (x ∷ xs) e = by (new.node == x.node) (nat_lt new.node x.node) e
  where
    by : (a b : Bool) → cond a (new ∷ xs) (cond b (new ∷ x ∷ xs) (x ∷ entry_placed new xs)) ≡ [] → ⊥
    by true b e = absurd cc
    by false true e = absurd cc
    by false false e = absurd cc

module _ (id : ObjectId) (es : Locations) (sorted : IsStrictlySortedBy id_cmp (keys_of es)) where
  -- an entry set among others
  pub set_found : (new : Location) (xs : List Location) → lookup (is_id id) es ≡ Some xs → set_value (is_id id) es (entry_placed new xs) ≡ with_entries es id (entry_placed new (entries_at es id))
  set_found new xs found =
      with_entry-set id es xs (entry_placed new xs) sorted found
      ∙ sym (with_entries-some id es (entry_placed new xs) (placed_some new xs))
      ∙ sym (ap (λ ys. with_entries es id (entry_placed new ys)) (entries_at-found id es xs found))

  -- the first entry of an object
  pub set_absent : (new : Location) → lookup (is_id id) es ≡ None → insert_entry id_cmp es id (entry_placed new []) ≡ with_entries es id (entry_placed new (entries_at es id))
  set_absent new none = with_entry-insert id es (new ∷ []) ∙ sym (ap (λ ys. with_entries es id (entry_placed new ys)) (entries_at-absent id es none))

  -- an entry taken out, with some left, with none left, and where there is none
  pub removed_some : (node : ℕ) (xs : List Location) → lookup (is_id id) es ≡ Some xs → (without_node node xs ≡ [] → ⊥) → set_value (is_id id) es (without_node node xs) ≡ with_entries es id (without_node node (entries_at es id))
  removed_some node xs found some =
      with_entry-set id es xs (without_node node xs) sorted found
      ∙ sym (with_entries-some id es (without_node node xs) some)
      ∙ sym (ap (λ ys. with_entries es id (without_node node ys)) (entries_at-found id es xs found))

  pub removed_last : (node : ℕ) (xs : List Location) → lookup (is_id id) es ≡ Some xs → without_node node xs ≡ [] → without_entry (set_value (is_id id) es (without_node node xs)) id ≡ with_entries es id (without_node node (entries_at es id))
  removed_last node xs found none =
      without_entry-set id es (without_node node xs)
      ∙ sym (ap (λ ys. with_entries es id (without_node node ys)) (entries_at-found id es xs found) ∙ ap (with_entries es id) none)

pub removed_absent : (id : ObjectId) (es : Locations) (node : ℕ) → lookup (is_id id) es ≡ None → es ≡ with_entries es id (without_node node (entries_at es id))
removed_absent id es node none =
    sym (ap (λ ys. with_entries es id (without_node node ys)) (entries_at-absent id es none) ∙ without_entry-absent id es none)

-- ---- the end of a job at a node

-- what is left of an object
abbrev left_of : ObjectId → List Location → Option (ObjectId × List Location)
left_of id [] = None
left_of id (entry ∷ entries) = Some (id, entry ∷ entries)

-- what `retain` leaves, where the closure takes out the node's entries and keeps what has any left
module _ {F : Type 0} (T : F → ObjectId → List Location → Bool → List Location → F → Type 0) (node : ℕ) (f : F)
    (says : (k : ObjectId) (v : List Location) (b : Bool) (w : List Location) (g : F) → T f k v b w g → (w ≡ without_node node v) × (IsTrue b ↔ (w ≢ [])) × (g ≡ f)) where
  pub retained : (es kept : Locations) → RetainsPairs T f es kept → kept ≡ without_entries_at node es
  retained [] kept h = h
  retained (e ∷ es) kept h =
      let s = says e.0 e.1 h.0 h.1 h.2 h.4 in
      h.6 ∙ by h.0 h.1 (without_node node e.1) s.0 s.1 (retained es h.3 (subst (λ g. RetainsPairs T g es h.3) s.2 h.5))
    where
      by : (b : Bool) (w v : List Location) → w ≡ v → IsTrue b ↔ (w ≢ []) → h.3 ≡ without_entries_at node es → cond b ((e.0, w) ∷ h.3) h.3 ≡ cons_option (left_of e.0 v) (without_entries_at node es)
      by true w [] same response later = absurd (response.0 refl same)
      by false w [] same response later = later
      by true w (x ∷ xs) same response later = ap (λ u. (e.0, u) ∷ h.3) same ∙ ap (λ t. (e.0, x ∷ xs) ∷ t) later
      by false w (x ∷ xs) same response later = true_false (response.1 (λ none. absurd cc))

-- a result that is what it should be
pub ok_follows : (r : Result (List Location) OutOfMemory) (xs ys : List Location) → IfOk r (λ items. items ≡ xs) → xs ≡ ys → IfOk r (λ items. items ≡ ys)
ok_follows r xs ys h e = subst (λ zs. IfOk r (λ items. items ≡ zs)) e h

-- a test that fails denies what it stands for
pub true_or_not : {P : Type 0} (b : Bool) → IsTrue b ↔ P → b ≡ false → P → ⊥
true_or_not b response fails p = true_false (sym fails ∙ response.1 p)

-- what setting an entry among others leaves: with memory for it, and without
pub set_ok : (id : ObjectId) (es t : Locations) (new : Location) (xs ys : List Location) (after : Locations) (r : Result (Unit {0}) OutOfMemory)
    → IsStrictlySortedBy id_cmp (keys_of es) → es ≡ t → lookup (is_id id) es ≡ Some xs → after ≡ set_value (is_id id) es ys
    → OnOk r (ys ≡ entry_placed new xs) → OnOk r (after ≡ with_entries t id (entry_placed new (entries_at t id)))
set_ok id es t new xs ys after (Ok u) sorted same found wrote h =
    wrote ∙ ap (set_value (is_id id) es) h ∙ set_found id es sorted new xs found ∙ ap (λ u. with_entries u id (entry_placed new (entries_at u id))) same
set_ok id es t new xs ys after (Err e) sorted same found wrote h = h

pub set_err : (id : ObjectId) (es t : Locations) (xs ys : List Location) (after : Locations) (r : Result (Unit {0}) OutOfMemory)
    → es ≡ t → lookup (is_id id) es ≡ Some xs → after ≡ set_value (is_id id) es ys → OnErr r (ys ≡ xs) → OnErr r (after ≡ t)
set_err id es t xs ys after (Ok u) same found wrote h = h
set_err id es t xs ys after (Err e) same found wrote h = wrote ∙ ap (set_value (is_id id) es) h ∙ set_value_same (is_id id) es xs found ∙ same

-- a first entry makes entries longer
pub first_is_longer : (new : Location) (entries : List Location) → entries ≡ [] → is_longer (entry_placed new entries) entries ≡ false → ⊥
first_is_longer new [] none short = let longer : is_longer (new ∷ []) [] ≡ true = grind (arith, nat_tests) in true_false (sym short ∙ longer)
first_is_longer new (entry ∷ entries) none short = absurd cc
