-- A row without one of its copies.
use Rattle.std.proofs.Common.{◌≡◌, ℕ, Bool, true, false, not, ◌&&◌, ◌||◌, cond, List, [], ◌∷◌, filter, map, take, Option, Some, None, is_some, is_none, unwrap_or, refl, sym, ap, subst, ◌∙◌, T}
use Rattle.std.specs.Prelude.{option_to_list}
use Rattle.std.specs.List.{list_all, cons_option}
use Rattle.std.specs.FinMap.Entries.{is_sorted, below_all}
use Rattle.std.specs.Option.{option_and_then}
use Rattle.obj_id.specs.declared.ids.ObjectId.{ObjectId}
use Rattle.obj_id.specs.Ids.{id_cmp, same_id}
use Rattle.store_facts.proofs.Ids.{same_id-equal, same_id-flip}
use Rattle.private_store.specs.declared.inputs.Input.{Input}
use Rattle.private_store.specs.rules.Tables.{ById, at, with_entry, without_entry, is_among}
use Rattle.private_store.specs.rules.Shape.{Copy, Change}
use Rattle.private_store.specs.rules.Room.{drop_copy}
use Rattle.private_store.specs.rules.Change.{keys_gone}
use Rattle.store_facts.proofs.Filling.{below_none}
use Rattle.store_facts.proofs.ErasedKeys.{all_found}
use Rattle.private_store.specs.rules.Copies.{extent_of}
use Rattle.private_store.specs.rules.Step.{reordered}
use Rattle.private_store.specs.rules.Contents.{Contents}
use Rattle.private_store.specs.rules.Private.{key_of}
use Rattle.store_facts.proofs.KeptLists.{any-filter}
use Rattle.store_facts.proofs.Rows.{at-drop, at-put}
use Rattle.store_facts.proofs.Tests.{none_some, some_value, true_false, true_T, and_left, and_right, both, both_left, both_right}
use Rattle.lru_evictor.specs.Orders.{AreThere, without_id}
use Rattle.row_copy.specs.CopyViews.{CopyView}
use Rattle.job_row.specs.Row.{Row, copies_of, place_of, ArePlaced}
use Rattle.row_steps.specs.Shown.{IsShown, RowGiven}
use Rattle.job_row.specs.Dropping.{dropped}
use Rattle.std.proofs.lemmas.List.{append-nil}
use Rattle.row_steps.proofs.Stepping.{TakesChange}
use Rattle.job_row.proofs.ForCallers.{found_left}
use Rattle.row_steps.specs.Beside.{SharedTables, shape_of}

-- ---- tables and orders

-- an entry that is left was there
pub left_at : {X : Type 0} (es : ById X) (id q : ObjectId) (x : X) → at (without_entry es id) q ≡ Some x → (same_id id q ≡ false) × (at es q ≡ Some x)
left_at es id q x found = by (same_id id q) refl (sym (at-drop es id q) ∙ found)
  where
    by : (b : Bool) → same_id id q ≡ b → cond (not b) (at es q) None ≡ Some x → (same_id id q ≡ false) × (at es q ≡ Some x)
    by true same e = none_some x e
    by false same e = (same, e)

pub copies-without : (id : ObjectId) (es : ById CopyView) → copies_of (without_entry es id) ≡ without_entry (copies_of es) id
copies-without id [] = refl
copies-without id (e ∷ es) = by (same_id id e.0) (copies-without id es)
  where
    by : (b : Bool) → copies_of (without_entry es id) ≡ without_entry (copies_of es) id
        → copies_of (cond (not b) (e ∷ without_entry es id) (without_entry es id)) ≡ cond (not b) ((e.0, e.1.copy) ∷ without_entry (copies_of es) id) (without_entry (copies_of es) id)
    by true h = h
    by false h = ap (λ t. (e.0, e.1.copy) ∷ t) h

-- the order of use of what is left, where nothing was used
module _ (copies : ById Copy) (id : ObjectId) where
  abbrev has_copy : ById Copy → List ObjectId → List ObjectId
  has_copy table order = filter (λ q. is_some (at table q) && true) order

  has_left : (order : List ObjectId) → has_copy (without_entry copies id) order ≡ without_id id (has_copy copies order)
  has_left [] = refl
  has_left (q ∷ order) = ap (λ o. cond (is_some o && true) (q ∷ left) left) (at-drop copies id q) ∙ by (same_id id q) refl (is_some (at copies q)) refl (has_left order)
    where
      left : List ObjectId
      left = has_copy (without_entry copies id) order

      all : List ObjectId
      all = has_copy copies order

      by : (same : Bool) → same_id id q ≡ same → (there : Bool) → is_some (at copies q) ≡ there → left ≡ without_id id all
          → cond (is_some (cond (not same) (at copies q) None) && true) (q ∷ left) left ≡ without_id id (cond (is_some (at copies q) && true) (q ∷ all) all)
      by true s true t h = h ∙ sym (ap (λ b. without_id id (cond (b && true) (q ∷ all) all)) t ∙ ap (λ b. cond (not b) (q ∷ without_id id all) (without_id id all)) s)
      by true s false t h = h ∙ sym (ap (λ b. without_id id (cond (b && true) (q ∷ all) all)) t)
      by false s true t h =
          ap (λ b. cond (b && true) (q ∷ left) left) t ∙ ap (λ ids. q ∷ ids) h
          ∙ sym (ap (λ b. without_id id (cond (b && true) (q ∷ all) all)) t ∙ ap (λ b. cond (not b) (q ∷ without_id id all) (without_id id all)) s)
      by false s false t h = ap (λ b. cond (b && true) (q ∷ left) left) t ∙ h ∙ sym (ap (λ b. without_id id (cond (b && true) (q ∷ all) all)) t)

  pub reordered-drop : (order : List ObjectId) → reordered order (without_entry copies id) None ≡ without_id id (reordered order copies None)
  reordered-drop order = append-nil (has_copy (without_entry copies id) order) ∙ has_left order ∙ sym (ap (without_id id) (append-nil (has_copy copies order)))

  -- what is left of the ids that have copies has them
  pub there_left : (order : List ObjectId) → AreThere copies order → AreThere (without_entry copies id) (without_id id order)
  there_left [] h = refl
  there_left (q ∷ order) h = by (same_id id q) refl (there_left order (both_right (is_some (at copies q)) _ h))
    where
      by : (b : Bool) → same_id id q ≡ b → AreThere (without_entry copies id) (without_id id order) → AreThere (without_entry copies id) (cond (not b) (q ∷ without_id id order) (without_id id order))
      by true s rest = rest
      by false s rest = both _ _ (ap is_some (at-drop copies id q ∙ ap (λ b. cond (not b) (at copies q) None) s) ∙ both_left (is_some (at copies q)) _ h) rest

pub among_left : (order : List ObjectId) (id q : ObjectId) → same_id id q ≡ false → is_among order q ≡ true → is_among (without_id id order) q ≡ true
among_left order id q other h =
    any-filter (same_id q) (λ x. not (same_id id x)) order (λ x t. ap (λ y. not (same_id id y)) (sym (same_id-equal q x t)) ∙ ap not other) ∙ h

-- ---- places

-- ---- device keys

-- the keys that are gone with one copy
module _ (before after : ById Copy) (id : ObjectId) (left : (q : ObjectId) → is_none (at after q) ≡ same_id id q || is_none (at before q)) where
  none_not : {Y : Type 0} (o : Option Y) → is_some o ≡ true → is_none o ≡ false
  none_not None e = true_false e
  none_not (Some y) e = refl

  -- an entry of another id keeps its key
  kept_key : (e : ObjectId × Copy) → is_some (at before e.0) ≡ true → same_id id e.0 ≡ false → cond (is_none (at after e.0)) e.1.backed None ≡ None
  kept_key e there other = ap (λ b. cond b e.1.backed None) (left e.0 ∙ (λ i. other i || none_not (at before e.0) there i))

  keys_absent : (es : ById Copy) → list_all (λ e. is_some (at before e.0)) es ≡ true → at es id ≡ None → keys_gone es after ≡ []
  keys_absent [] there none = refl
  keys_absent (e ∷ es) there none = by (same_id id e.0) refl (keys_absent es (both_right (is_some (at before e.0)) _ there)) none
    where
      by : (b : Bool) → same_id id e.0 ≡ b → (at es id ≡ None → keys_gone es after ≡ []) → cond b (Some e.1) (at es id) ≡ None → keys_gone (e ∷ es) after ≡ []
      by true s rest none = none_some e.1 (sym none)
      by false s rest none = ap (λ o. cons_option o (keys_gone es after)) (kept_key e (both_left (is_some (at before e.0)) _ there) s) ∙ rest none

  keys_one : (es : ById Copy) → list_all (λ e. is_some (at before e.0)) es ≡ true → T (is_sorted id_cmp es) → (copy : Copy) → at es id ≡ Some copy → keys_gone es after ≡ option_to_list copy.backed
  keys_one [] there sorted copy found = none_some copy found
  keys_one (e ∷ es) there sorted copy found = by (same_id id e.0) refl (keys_one es (both_right (is_some (at before e.0)) _ there) (and_right (below_all id_cmp e.0 es) _ sorted) copy) found
    where
      single : (o : Option ℕ) → cons_option o [] ≡ option_to_list o
      single None = refl
      single (Some n) = refl

      by : (b : Bool) → same_id id e.0 ≡ b → (at es id ≡ Some copy → keys_gone es after ≡ option_to_list copy.backed) → cond b (Some e.1) (at es id) ≡ Some copy → keys_gone (e ∷ es) after ≡ option_to_list copy.backed
      by true s rest found =
          ap (λ b. cons_option (cond b e.1.backed None) (keys_gone es after)) (left e.0 ∙ (λ i. s i || is_none (at before e.0)))
          ∙ ap (cons_option e.1.backed) (keys_absent es (both_right (is_some (at before e.0)) _ there)
          (ap (at es) (same_id-equal id e.0 s) ∙ below_none e.0 es (and_left (below_all id_cmp e.0 es) _ sorted)))
          ∙ single e.1.backed ∙ ap (λ (copy : Copy). option_to_list copy.backed) (some_value e.1 copy found)
      by false s rest found = ap (λ o. cons_option o (keys_gone es after)) (kept_key e (both_left (is_some (at before e.0)) _ there) s) ∙ rest found

-- a copy is changed and then removed
pub key_removed : (es : ById Copy) (id : ObjectId) (copy now : Copy) → T (is_sorted id_cmp es) → at es id ≡ Some copy → keys_gone es (without_entry (with_entry es id now) id) ≡ option_to_list copy.backed
key_removed es id copy now sorted found =
    keys_one es (without_entry (with_entry es id now) id) id left es (true_T _ (all_found es)) sorted copy found
  where
    left : (q : ObjectId) → is_none (at (without_entry (with_entry es id now) id) q) ≡ same_id id q || is_none (at es q)
    left q = ap is_none (at-drop (with_entry es id now) id q ∙ ap (λ o. cond (not (same_id id q)) o None) (at-put es id now q ∙ ap (λ b. cond b (Some now) (at es q)) (same_id-flip q id))) ∙ by (same_id id q)
      where
        by : (b : Bool) → is_none (cond (not b) (cond b (Some now) (at es q)) None) ≡ b || is_none (at es q)
        by true = refl
        by false = refl

-- a copy is removed
pub key_dropped : (es : ById Copy) (id : ObjectId) (copy : Copy) → T (is_sorted id_cmp es) → at es id ≡ Some copy → keys_gone es (without_entry es id) ≡ option_to_list copy.backed
key_dropped es id copy sorted found = keys_one es (without_entry es id) id left es (true_T _ (all_found es)) sorted copy found
  where
    left : (q : ObjectId) → is_none (at (without_entry es id) q) ≡ same_id id q || is_none (at es q)
    left q = ap is_none (at-drop es id q) ∙ by (same_id id q)
      where
        by : (b : Bool) → is_none (cond (not b) (at es q) None) ≡ b || is_none (at es q)
        by true = refl
        by false = refl

-- ---- the step

-- what was shown of a row before its copy was removed is so of it afterwards
module _ (node : ℕ) (row : Row) (beside : SharedTables) (contents : Contents) (h : IsShown row beside contents) (x : Input)
    (c : Change) (response : RowGiven) (r : Row) (after : SharedTables) (m : TakesChange node row beside contents h x c response r after) (unused : c.used ≡ None)
    (placed : ArePlaced r.window.placed (place_of r.copies)) (id : ObjectId) where
  abbrev pub change_left : List ℕ → Change
  change_left erased = record c { shape = drop_copy c.shape id; erased = erased }

  pub moves_left : (erased : List ℕ) (given : RowGiven) → given.reply ≡ response.reply → given.erased ≡ map (key_of row.job) erased → TakesChange node row beside contents h x (change_left erased) given (dropped r id) after
  moves_left erased given same keys = record {
    shape = ap (λ s. drop_copy s id) m.shape ∙ ap (λ t. record (shape_of r after) { copies = t }) (sym (copies-without id r.copies));
    order =
        ap (reordered row.order (copies_of (without_entry r.copies id))) unused
        ∙ ap (λ t. reordered row.order t None) (copies-without id r.copies)
        ∙ reordered-drop (copies_of r.copies) id row.order
        ∙ ap (without_id id) (ap (reordered row.order (copies_of r.copies)) (sym unused) ∙ m.order);
    there = subst (λ t. AreThere t (without_id id r.order)) (sym (copies-without id r.copies)) (there_left (copies_of r.copies) id r.order m.there);
    listed = λ q k found. let l = left_at r.copies id q k found in among_left r.order id q l.0 (m.listed q k l.1);
    bytes = λ q k e found lies.
        let l = left_at r.copies id q k found in
        m.bytes q k e l.1 lies
        ∙ ap (λ o. take k.copy.length (unwrap_or o [])) (sym (found_left r.window.placed r.copies placed id q e l.0 (ap (λ o. option_and_then (λ (z : CopyView). extent_of z.copy) o) l.1 ∙ lies)));
    digests = λ q k found keeps. m.digests q k (left_at r.copies id q k found).1 keeps;
    working = λ q k found. m.working q k (left_at r.copies id q k found).1;
    granted = λ q k found. m.granted q k (left_at r.copies id q k found).1;
    received = m.received;
    reply = same ∙ m.reply;
    erased = keys;
  }
