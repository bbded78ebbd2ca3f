-- How many copies a plan can take: each is another one.
use Rattle.std.proofs.Common.{◌≡◌, suc, ◌+◌, ◌≤◌, Bool, true, false, not, cond, List, [], ◌∷◌, length, Some, None, is_some, refl, sym, ap, ◌∙◌, arith}
use Rattle.std.specs.List.{list_all, count_by}
use Rattle.obj_id.specs.declared.ids.ObjectId.{ObjectId}
use Rattle.obj_id.specs.Ids.{same_id}
use Rattle.store_facts.proofs.Ids.{same_id-itself}
use Rattle.private_store.specs.rules.Tables.{ById, at, without_entry}
use Rattle.private_store.specs.laws.Invariants.{IsOrderOfUse}
use Rattle.store_facts.proofs.Rows.{at-drop}
use Rattle.store_facts.proofs.KeptLists.{length-filter-le, count-cons, count-yes}
use Rattle.store_facts.proofs.Tests.{both, both_left, both_right, true_false}

module _ {X : Type 0} where
  -- an entry less
  shorter : (id : ObjectId) (es : ById X) → is_some (at es id) ≡ true → length (without_entry es id) + 1 ≤ length es
  shorter id [] there = true_false there
  shorter id (e ∷ es) there = by (same_id id e.0) (shorter id es) there
    where
      by : (b : Bool) → (is_some (at es id) ≡ true → length (without_entry es id) + 1 ≤ length es) → is_some (cond b (Some e.1) (at es id)) ≡ true
          → length (cond (not b) (e ∷ without_entry es id) (without_entry es id)) + 1 ≤ suc (length es)
      by true rest t = let le = length-filter-le (λ (e : ObjectId × X). not (same_id id e.0)) es in omega (arith, le)
      by false rest t = let le = rest t in omega (arith, le)

  -- ids that are in no list twice are all others than the first
  others : (id : ObjectId) (ids : List ObjectId) (es : ById X) → count_by (same_id id) ids ≡ 0 → list_all (λ q. is_some (at es q)) ids ≡ true → list_all (λ q. is_some (at (without_entry es id) q)) ids ≡ true
  others id [] es none h = refl
  others id (q ∷ ids) es none h = both _ _ here (others id ids es rest (both_right (is_some (at es q)) _ h))
    where
      counted : cond (same_id id q) 1 0 + count_by (same_id id) ids ≡ 0
      counted = sym (count-cons (same_id id) q ids) ∙ none

      rest : count_by (same_id id) ids ≡ 0
      rest = omega (arith, counted)

      differs : (b : Bool) → cond b 1 0 + count_by (same_id id) ids ≡ 0 → b ≡ false
      differs true e = absurd (omega (arith, e))
      differs false e = refl

      here : is_some (at (without_entry es id) q) ≡ true
      here =
          ap is_some (at-drop es id q) ∙ ap (λ b. is_some (cond (not b) (at es q) None)) (differs (same_id id q) counted)
          ∙ both_left (is_some (at es q)) _ h

  -- ids that stand once and have entries are no more than the entries
  pub length-once : (ids : List ObjectId) (es : ById X) → IsOrderOfUse ids → list_all (λ q. is_some (at es q)) ids ≡ true → length ids ≤ length es
  length-once [] es once h = omega arith
  length-once (id ∷ ids) es once h =
      let less = shorter id es (both_left (is_some (at es id)) _ h) in
      let rest = length-once ids (without_entry es id) tail (others id ids es none (both_right (is_some (at es id)) _ h)) in
      omega (arith, less, rest)
    where
      none : count_by (same_id id) ids ≡ 0
      none = let e = count-yes (same_id id) id ids (same_id-itself id) in let le = once id in omega (arith, e, le)

      tail : IsOrderOfUse ids
      tail q = let e = count-cons (same_id q) id ids in let le = once q in omega (arith, e, le)
