-- What the holds on a copy keep when a session's number of holds changes.
use Rattle.std.proofs.Common.{◌≡◌, ℕ, ◌+◌, ◌≤◌, Bool, true, false, not, cond, ◌==◌, List, [], ◌∷◌, filter, Some, None, unwrap_or, refl, ap, ◌∙◌, T, arith}
use Rattle.std.specs.Prelude.{sum_by, nat_lt}
use Rattle.std.specs.List.{list_all}
use Rattle.std.specs.declared.cmp.Ordering.TheVariants.{Less, Equal, Greater}
use Rattle.std.specs.Ordering.{nat_cmp, is_lt, is_eq}
use Rattle.std.specs.Cmp.{nat_cmp_total}
use Rattle.std.specs.FinMap.{find, put, is_sorted}
use Rattle.std.specs.FinMap.Entries.{below_all, by_order, is_sorted-put, is_sorted-where_key}
use Rattle.std.proofs.lemmas.Bool.{eqb-false, lt-ltb}
use Rattle.std.proofs.lemmas.List.Sums.{sum_by-cons}
use Rattle.obj_id.specs.declared.commands.CopyState.{CopyState}
use Rattle.private_store.specs.rules.Limits.{most_holds}
use Rattle.private_store.specs.rules.Marks.{without_session}
use Rattle.private_store.specs.rules.Copies.{is_sealed}
use Rattle.private_store.specs.laws.Invariants.{AreHoldsKept, are_held}
use Rattle.store_facts.proofs.KeptLists.{all-filter}
use Rattle.store_facts.proofs.Tests.{T_true, and_left, and_right, both, both_left, both_right, less_is, true_T}

abbrev sum_of : List (ℕ × ℕ) → ℕ
sum_of holds = sum_by (λ e. e.1) holds

-- a number below all is none of them
below_none : (k : ℕ) (e : ℕ × ℕ) (es : List (ℕ × ℕ)) → nat_cmp k e.0 ≡ Less → T (below_all nat_cmp e.0 es) → find nat_cmp k es ≡ None
below_none k e [] l h = refl
below_none k e (f ∷ es) l h =
    let less : nat_cmp k f.0 ≡ Less = nat_cmp_total.trans k e.0 f.0 l (less_is (nat_cmp e.0 f.0) (and_left _ _ h)) in
    ap (λ r. cond (is_eq r) (Some f.1) (find nat_cmp k es)) less ∙ below_none k e es l (and_right (is_lt (nat_cmp e.0 f.0)) _ h)

sum-put : (k v : ℕ) (es : List (ℕ × ℕ)) → T (is_sorted nat_cmp es) → sum_of (put nat_cmp k v es) + unwrap_or (find nat_cmp k es) 0 ≡ sum_of es + v
sum-put k v [] h = let s = sum_by-cons {X = ℕ × ℕ} (λ e. e.1) (k, v) [] in let z : sum_of [] ≡ 0 = refl in omega (arith, s, z)
sum-put k v (e ∷ es) h =
    let c = sum_by-cons (λ (x : ℕ × ℕ). x.1) e es in
    elim (nat_cmp k e.0) as (λ r. nat_cmp k e.0 ≡ r → sum_of (by_order r ((k, v) ∷ e ∷ es) ((e.0, v) ∷ es) (e ∷ put nat_cmp k v es)) + unwrap_or (cond (is_eq r) (Some e.1) (find nat_cmp k es)) 0 ≡ sum_of (e ∷ es) + v) [
      | Less ↦ λ l.
          let s = sum_by-cons (λ (x : ℕ × ℕ). x.1) (k, v) (e ∷ es) in
          let n : unwrap_or (find nat_cmp k es) 0 ≡ 0 = ap (λ o. unwrap_or o 0) (below_none k e es l (and_left _ _ h)) in
          omega (arith, s, n)
      | Equal ↦ λ _. let s = sum_by-cons (λ (x : ℕ × ℕ). x.1) (e.0, v) es in omega (arith, s, c)
      | Greater ↦ λ _. let s = sum_by-cons (λ (x : ℕ × ℕ). x.1) e (put nat_cmp k v es) in let i = sum-put k v es (and_right (below_all nat_cmp e.0 es) _ h) in omega (arith, s, c, i)
    ] refl

sum-filter : (p : ℕ × ℕ → Bool) (es : List (ℕ × ℕ)) → sum_of (filter p es) ≤ sum_of es
sum-filter p [] = omega arith
sum-filter p (e ∷ es) =
    let i = sum-filter p es in
    let c = sum_by-cons (λ (x : ℕ × ℕ). x.1) e es in
    elim (p e) as (λ b. sum_of (cond b (e ∷ filter p es) (filter p es)) ≤ sum_of (e ∷ es)) [
      | true ↦ let s = sum_by-cons (λ (x : ℕ × ℕ). x.1) e (filter p es) in omega (arith, i, c, s)
      | false ↦ omega (arith, i, c)
    ]

abbrev positive : ℕ × ℕ → Bool
positive e = nat_lt 0 e.1

positive-put : (k v : ℕ) (es : List (ℕ × ℕ)) → nat_lt 0 v ≡ true → list_all positive es ≡ true → list_all positive (put nat_cmp k v es) ≡ true
positive-put k v [] h a = both _ _ h refl
positive-put k v (e ∷ es) h a =
    elim (nat_cmp k e.0) as (λ r. list_all positive (by_order r ((k, v) ∷ e ∷ es) ((e.0, v) ∷ es) (e ∷ put nat_cmp k v es)) ≡ true) [
      | Less ↦ both _ _ h a
      | Equal ↦ both _ _ h (both_right (positive e) (list_all positive es) a)
      | Greater ↦ both _ _ (both_left (positive e) (list_all positive es) a) (positive-put k v es h (both_right (positive e) (list_all positive es) a))
    ]

abbrev with_number : List (ℕ × ℕ) → ℕ → ℕ → List (ℕ × ℕ)
with_number holds session n = cond (n == 0) (without_session holds session) (put nat_cmp session n holds)

held_before : (p : ℕ × ℕ → Bool) (holds : List (ℕ × ℕ)) → are_held (filter p holds) ≡ true → are_held holds ≡ true
held_before p [] t = t
held_before p (e ∷ es) t = refl

-- a session has n holds
pub holds_keep : (state : CopyState) (holds : List (ℕ × ℕ)) (session n : ℕ) → AreHoldsKept state holds → ((n == 0) ≡ false → is_sealed state ≡ true) → n + sum_of holds ≤ most_holds + unwrap_or (find nat_cmp session holds) 0 → AreHoldsKept state (with_number holds session n)
holds_keep state holds session n h s le = by_number (n == 0) refl
  where
    by_number : (b : Bool) → (n == 0) ≡ b → AreHoldsKept state (cond b (without_session holds session) (put nat_cmp session n holds))
    by_number true e = record {
      held = λ t. h.held (held_before (λ e. not (e.0 == session)) holds t);
      sessions = both _ _ (true_T _ (is_sorted-where_key nat_cmp (λ x. not (x == session)) holds (T_true _ (both_left _ _ h.sessions)))) (all-filter positive (λ e. not (e.0 == session)) holds (both_right (is_sorted nat_cmp holds) (list_all positive holds) h.sessions));
      few_holds = let k = sum-filter (λ e. not (e.0 == session)) holds in let f = h.few_holds in omega (arith, k, f);
    }
    by_number false e = record {
      held = λ _. s e;
      sessions = both _ _ (true_T _ (is_sorted-put nat_cmp nat_cmp_total session n holds (T_true _ (both_left _ _ h.sessions))))
          (positive-put session n holds (lt-ltb 0 n (let ne = eqb-false n 0 e in omega (arith, ne))) (both_right (is_sorted nat_cmp holds) (list_all positive holds) h.sessions));
      few_holds = let k = sum-put session n holds (T_true _ (both_left _ _ h.sessions)) in omega (arith, k, le);
    }
