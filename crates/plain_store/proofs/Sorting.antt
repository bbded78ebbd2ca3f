-- Entries that come by rising id are put last.
use Rattle.std.proofs.Common.{◌≡◌, [], ◌∷◌, ◌++◌, refl, sym, ap, subst, ◌∙◌, append_assoc, T}
use Rattle.std.specs.Ordering.{is_lt, ordering_reverse}
use Rattle.std.specs.declared.cmp.Ordering.TheVariants.{Less}
use Rattle.std.specs.FinMap.{is_sorted}
use Rattle.std.specs.FinMap.Entries.{below_all, by_order}
use Rattle.obj_id.specs.declared.ids.ObjectId.{ObjectId}
use Rattle.obj_id.specs.Ids.{id_cmp}
use Rattle.store_facts.proofs.Ids.{id_cmp-IsTotalOrder}
use Rattle.private_store.specs.rules.Tables.{ById, with_entry}
use Rattle.store_facts.proofs.Tests.{and_left, and_right, less_is}

module _ {X : Type 0} (k : ObjectId) (v : X) (rest : ById X) where
  below-at : (x : ObjectId) (es : ById X) → T (below_all id_cmp x (es ++ (k, v) ∷ rest)) → id_cmp x k ≡ Less
  below-at x [] h = less_is (id_cmp x k) (and_left _ _ h)
  below-at x (e ∷ es) h = below-at x es (and_right (is_lt (id_cmp x e.0)) _ h)

  put-last : (es : ById X) → T (is_sorted id_cmp (es ++ (k, v) ∷ rest)) → with_entry es k v ≡ es ++ (k, v) ∷ []
  put-last [] h = refl
  put-last (e ∷ es) h =
      let less = below-at e.0 es (and_left _ _ h) in
      ap (λ r. by_order r ((k, v) ∷ e ∷ es) ((e.0, v) ∷ es) (e ∷ with_entry es k v)) (id_cmp-IsTotalOrder.antisymm k e.0 ∙ ap ordering_reverse less)
      ∙ ap (λ xs. e ∷ xs) (put-last es (and_right (below_all id_cmp e.0 (es ++ (k, v) ∷ rest)) _ h))

  -- one more of those that are left
  pub put-more : (es left more all : ById X) → T (is_sorted id_cmp all) → left ≡ (k, v) ∷ rest → more ≡ with_entry es k v → es ++ left ≡ all → more ++ rest ≡ all
  put-more es left more all sorted starts is so =
      let whole : es ++ (k, v) ∷ rest ≡ all = sym (ap (λ xs. es ++ xs) starts) ∙ so in
      ap (λ xs. xs ++ rest) (is ∙ put-last es (subst (λ xs. T (is_sorted id_cmp xs)) (sym whole) sorted))
      ∙ append_assoc es ((k, v) ∷ []) rest
      ∙ whole
