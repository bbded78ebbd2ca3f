-- A list of nodes with one more.
use Rattle.std.proofs.Common.{◌≡◌, ◌⊎◌, ℕ, zero, suc, List, [], ◌∷◌, ◌++◌, length, Result, Ok, Err, is_ok, if◌then◌else◌, Some, refl, subst, sym, ap, ◌∙◌, inl, inr, arith}
use Rattle.std.specs.Prelude.{slice_get}
use Rattle.shared_nodes.specs.NodeLists.{AreNumbered}

module _ {A : Type 0} where
  further : (items : List A) (a : A) (i : ℕ) (b : A) → (slice_get items i ≡ Some b) ⊎ ((i ≡ length items) × (b ≡ a)) → (slice_get items i ≡ Some b) ⊎ ((suc i ≡ suc (length items)) × (b ≡ a))
  further items a i b (inl there) = inl there
  further items a i b (inr (last, same)) = inr (ap suc last, same)

  earlier_or_last : (items : List A) (a : A) (i : ℕ) (b : A) → slice_get (items ++ a ∷ []) i ≡ Some b → (slice_get items i ≡ Some b) ⊎ ((i ≡ length items) × (b ≡ a))
  earlier_or_last [] a zero b there = inr (refl, grind arith)
  earlier_or_last [] a (suc i) b there = absurd (grind arith)
  earlier_or_last (c ∷ items) a zero b there = inl there
  earlier_or_last (c ∷ items) a (suc i) b there = further items a i b (earlier_or_last items a i b there)

  pub one_more : (number : A → ℕ) (items : List A) (a : A) → AreNumbered items number → number a ≡ length items → AreNumbered (items ++ a ∷ []) number
  one_more number items a are is i b there = by_case (earlier_or_last items a i b there)
    where
      by_case : (slice_get items i ≡ Some b) ⊎ ((i ≡ length items) × (b ≡ a)) → number b ≡ i
      by_case (inl earlier) = are i b earlier
      by_case (inr (last, same)) = ap number same ∙ is ∙ sym last

  -- or as it was, if there was no memory
  pub pushed : {B E : Type 0} (number : A → ℕ) (items items1 : List A) (a : A) (r : Result B E) → AreNumbered items number → number a ≡ length items → items1 ≡ (if is_ok r then items ++ a ∷ [] else items) → AreNumbered items1 number
  pushed number items items1 a (Ok u) are is e = subst (λ l. AreNumbered l number) (sym e) (one_more number items a are is)
  pushed number items items1 a (Err u) are is e = subst (λ l. AreNumbered l number) (sym e) are
