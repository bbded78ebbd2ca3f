-- A step keeps the order of use, and so every store keeps its record, as its node shows it and with stamps.
use Rattle.std.proofs.Common.{◌≡◌, ◌+◌, ◌≤◌, Bool, true, false, not, ◌&&◌, List, [], ◌∷◌, ◌++◌, filter, Option, Some, None, is_some, refl, sym, ap, subst, ◌∙◌, arith}
use Rattle.std.specs.Prelude.{count_by}
use Rattle.std.proofs.lemmas.List.{append-nil}
use Rattle.obj_id.specs.declared.ids.ObjectId.{ObjectId}
use Rattle.obj_id.specs.Ids.{same_id}
use Rattle.private_store.specs.rules.Tables.{at, is_among}
use Rattle.private_store.specs.rules.Shape.{Change}
use Rattle.private_store.specs.rules.Step.{is_used, reordered, order_after}
use Rattle.private_store.specs.laws.Invariants.{IsOrderOfUse}
use Rattle.store_facts.proofs.KeptLists.{count-append, count-no, count-yes, count_none, count-filter}
use Rattle.store_facts.proofs.KeptRows.{same_both}
use Rattle.store_facts.proofs.KeptFold.{among-filter}

pub order_keeps : (order : List ObjectId) (c : Change) → IsOrderOfUse order → IsOrderOfUse (order_after order c)
order_keeps order c once = by_use c.used
  where
    stays : Option ObjectId → ObjectId → Bool
    stays used id = is_some (at c.shape.copies id) && not (is_used used id)

    fewer : (used : Option ObjectId) (q : ObjectId) → count_by (same_id q) (filter (stays used) order) ≤ 1
    fewer used q = let k = count-filter (same_id q) (stays used) order in let o = once q in omega (arith, k, o)

    not_both : (a b c : Bool) → c ≡ true → a && (b && not c) ≡ false
    not_both true true c e = ap not e
    not_both true false c e = refl
    not_both false b c e = refl

    used_last : (id q : ObjectId) (b : Bool) → same_id q id ≡ b → count_by (same_id q) (filter (stays (Some id)) order ++ id ∷ []) ≤ 1
    used_last id q true e =
        let a = count-append (same_id q) (filter (stays (Some id)) order) (id ∷ []) in
        let none : is_among (filter (stays (Some id)) order) q ≡ false =
        among-filter (stays (Some id)) order q ∙ not_both (is_among order q) (is_some (at c.shape.copies q)) (same_id id q) (same_both id q ∙ e) in
        let z = count_none (same_id q) (filter (stays (Some id)) order) none in
        let o : count_by (same_id q) (id ∷ []) ≡ 1 + count_by (same_id q) [] = count-yes (same_id q) id [] e in
        let n : count_by (same_id q) [] ≡ 0 = refl in
        omega (arith, a, z, o, n)
    used_last id q false e =
        let a = count-append (same_id q) (filter (stays (Some id)) order) (id ∷ []) in
        let f = fewer (Some id) q in
        let o : count_by (same_id q) (id ∷ []) ≡ count_by (same_id q) [] = count-no (same_id q) id [] e in
        let n : count_by (same_id q) [] ≡ 0 = refl in
        omega (arith, a, f, o, n)

    by_use : (used : Option ObjectId) → IsOrderOfUse (reordered order c.shape.copies used)
    by_use None q = subst (λ ids. count_by (same_id q) ids ≤ 1) (sym (append-nil (filter (stays None) order))) (fewer None q)
    by_use (Some id) q = used_last id q (same_id q id) refl
