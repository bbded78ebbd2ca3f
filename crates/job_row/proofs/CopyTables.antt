-- The copies of a row as its store's table has them.
use Rattle.std.proofs.Common.{◌≡◌, Bool, true, false, not, cond, [], ◌∷◌, Some, None, option_map, ◌&&◌, refl, sym, ap, ◌∙◌, T}
use Rattle.std.specs.Ordering.{is_lt}
use Rattle.std.specs.declared.cmp.Ordering.{Ordering}
use Rattle.std.specs.declared.cmp.Ordering.TheVariants.{Less, Equal, Greater}
use Rattle.std.specs.FinMap.Entries.{by_order, is_sorted, below_all}
use Rattle.obj_id.specs.declared.ids.ObjectId.{ObjectId}
use Rattle.obj_id.specs.Ids.{id_cmp, same_id}
use Rattle.store_facts.proofs.Ids.{same_id-equal, same_id-itself}
use Rattle.store_facts.proofs.Filling.{below_none}
use Rattle.store_facts.proofs.Tests.{and_left, none_some}
use Rattle.private_store.specs.rules.Tables.{ById, at, with_entry, without_entry}
use Rattle.job_row.specs.Entries.{changed}
use Rattle.row_copy.specs.CopyViews.{CopyView}
use Rattle.job_row.specs.Row.{copies_of}
use Rattle.job_row.proofs.Changes.{changed-found}

-- ---- entries of a sorted table

module _ {X : Type 0} where
  pub at-first : (e : ObjectId × X) (es : ById X) → at (e ∷ es) e.0 ≡ Some e.1
  at-first e es = ap (λ b. cond b (Some e.1) (at es e.0)) (same_id-itself e.0)

  pub at-rest : (e : ObjectId × X) (es : ById X) → T (is_sorted id_cmp (e ∷ es)) → (q : ObjectId) (x : X) → at es q ≡ Some x → at (e ∷ es) q ≡ Some x
  at-rest e es h q x found =
      elim (same_id q e.0) as (λ b. same_id q e.0 ≡ b → cond b (Some e.1) (at es q) ≡ Some x) [
        | true ↦ λ t. none_some x (sym (below_none e.0 es (and_left _ _ h)) ∙ ap (at es) (sym (same_id-equal q e.0 t)) ∙ found)
        | false ↦ λ _. found
      ] refl

below-copies : (q : ObjectId) (es : ById CopyView) → below_all id_cmp q (copies_of es) ≡ below_all id_cmp q es
below-copies q [] = refl
below-copies q (e ∷ es) = ap (λ b. is_lt (id_cmp q e.0) && b) (below-copies q es)

pub sorted-copies : (es : ById CopyView) → is_sorted id_cmp (copies_of es) ≡ is_sorted id_cmp es
sorted-copies [] = refl
sorted-copies (e ∷ es) = λ i. below-copies e.0 es i && sorted-copies es i

-- ---- the copies

pub at-copies : (es : ById CopyView) (id : ObjectId) → at (copies_of es) id ≡ option_map (λ k. k.copy) (at es id)
at-copies [] id = refl
at-copies (e ∷ es) id = by (same_id id e.0) (at-copies es id)
  where
    by : (b : Bool) → at (copies_of es) id ≡ option_map (λ k. k.copy) (at es id) → cond b (Some e.1.copy) (at (copies_of es) id) ≡ option_map (λ k. k.copy) (cond b (Some e.1) (at es id))
    by true h = refl
    by false h = h

pub copies-with : (es : ById CopyView) (id : ObjectId) (k : CopyView) → copies_of (with_entry es id k) ≡ with_entry (copies_of es) id k.copy
copies-with [] id k = refl
copies-with (e ∷ es) id k = by (id_cmp id e.0) (copies-with es id k)
  where
    by : (o : Ordering) → copies_of (with_entry es id k) ≡ with_entry (copies_of es) id k.copy
        → copies_of (by_order o ((id, k) ∷ e ∷ es) ((e.0, k) ∷ es) (e ∷ with_entry es id k)) ≡ by_order o ((id, k.copy) ∷ (e.0, e.1.copy) ∷ copies_of es) ((e.0, k.copy) ∷ copies_of es) ((e.0, e.1.copy) ∷ with_entry (copies_of es) id k.copy)
    by Less h = refl
    by Equal h = refl
    by Greater h = ap (λ t. (e.0, e.1.copy) ∷ t) h

pub copies-without : (es : ById CopyView) (id : ObjectId) → copies_of (without_entry es id) ≡ without_entry (copies_of es) id
copies-without [] id = refl
copies-without (e ∷ es) id = by (same_id id e.0) (copies-without es id)
  where
    by : (b : Bool) → copies_of (without_entry es id) ≡ without_entry (copies_of es) id → copies_of (cond (not b) (e ∷ without_entry es id) (without_entry es id)) ≡ cond (not b) ((e.0, e.1.copy) ∷ without_entry (copies_of es) id) (without_entry (copies_of es) id)
    by true h = h
    by false h = ap (λ t. (e.0, e.1.copy) ∷ t) h

-- a copy that is there changed
pub copies-changed : (f : CopyView → CopyView) (es : ById CopyView) (id : ObjectId) (k : CopyView) → at es id ≡ Some k → copies_of (changed f es id) ≡ with_entry (copies_of es) id (f k).copy
copies-changed f es id k found = ap copies_of (changed-found f id es k found) ∙ copies-with es id (f k)

pub at-copies_found : (es : ById CopyView) (id : ObjectId) (k : CopyView) → at es id ≡ Some k → at (copies_of es) id ≡ Some k.copy
at-copies_found es id k found = at-copies es id ∙ ap (option_map (λ k. k.copy)) found

pub at-copies_none : (es : ById CopyView) (id : ObjectId) → at es id ≡ None → at (copies_of es) id ≡ None
at-copies_none es id none = at-copies es id ∙ ap (option_map (λ k. k.copy)) none
