-- A change of one row, made for each id of a list.
use Rattle.std.proofs.Common.{◌≡◌, ℕ, ◌≤◌, Bool, true, false, cond, ◌&&◌, ◌||◌, List, [], ◌∷◌, length, filter, fold, Option, Some, is_some, refl, sym, ap, subst, ◌∙◌, T}
use Rattle.std.specs.FinMap.{is_sorted}
use Rattle.obj_id.specs.declared.ids.ObjectId.{ObjectId}
use Rattle.obj_id.specs.Ids.{id_cmp, same_id}
use Rattle.private_store.specs.rules.Tables.{ById, at, is_among, ids_of}
use Rattle.private_store.specs.rules.Shape.{Copy}
use Rattle.store_facts.proofs.KeptRows.{IsRowChange}
use Rattle.store_facts.proofs.Ids.{same_id-equal, same_id-itself}
use Rattle.store_facts.proofs.Tests.{or_left, or_right}

-- what passes a filter
pub among-filter : (p : ObjectId → Bool) (ids : List ObjectId) (q : ObjectId) → is_among (filter p ids) q ≡ is_among ids q && p q
among-filter p [] q = refl
among-filter p (id ∷ ids) q =
    elim (p id) as (λ b. p id ≡ b → is_among (cond b (id ∷ filter p ids) (filter p ids)) q ≡ (same_id q id || is_among ids q) && p q) [
      | true ↦ λ e. ap (λ b. same_id q id || b) (among-filter p ids q) ∙ here (same_id q id) refl e (is_among ids q)
      | false ↦ λ e. among-filter p ids q ∙ there (same_id q id) refl e (is_among ids q)
    ] refl
  where
    here : (b : Bool) → same_id q id ≡ b → p id ≡ true → (c : Bool) → b || (c && p q) ≡ (b || c) && p q
    here true t e c = sym (ap p (same_id-equal q id t) ∙ e)
    here false t e c = refl

    there : (b : Bool) → same_id q id ≡ b → p id ≡ false → (c : Bool) → c && p q ≡ (b || c) && p q
    there true t e true = refl
    there true t e false = sym (ap p (same_id-equal q id t) ∙ e)
    there false t e c = refl

-- the ids of a table are those that have an entry
pub among-ids : {X : Type 0} (copies : ById X) (q : ObjectId) → is_among (ids_of copies) q ≡ is_some (at copies q)
among-ids [] q = refl
among-ids (e ∷ es) q = elim (same_id q e.0) as (λ b. b || is_among (ids_of es) q ≡ is_some (cond b (Some e.1) (at es q))) [ true ↦ refl | false ↦ among-ids es q ]

-- each visit of a row that is still to be visited leaves it as it is to be
pub record Visits (most : ℕ) (f : ById Copy → ObjectId → ById Copy) (Before After : ObjectId → Option Copy → Type 0) (copies : ById Copy) (id : ObjectId) : Type 0 where
  pub row : Option Copy
  pub change : IsRowChange most copies id row (f copies id)
  pub again : Before id row
  pub done : After id row

pub record AreVisited (most : ℕ) (After : ObjectId → Option Copy → Type 0) (copies : ById Copy) : Type 0 where
  pub in_order : T (is_sorted id_cmp copies)
  pub each : (q : ObjectId) → After q (at copies q)
  pub few : length copies ≤ most

module _ (most : ℕ) (f : ById Copy → ObjectId → ById Copy) (Before After : ObjectId → Option Copy → Type 0)
    (visit : (copies : ById Copy) (id : ObjectId) → T (is_sorted id_cmp copies) → length copies ≤ most → Before id (at copies id) → Visits most f Before After copies id) where
  pub visited : (ids : List ObjectId) (copies : ById Copy) → T (is_sorted id_cmp copies) → length copies ≤ most
      → ((q : ObjectId) → is_among ids q ≡ true → Before q (at copies q)) → ((q : ObjectId) → is_among ids q ≡ false → After q (at copies q))
      → AreVisited most After (fold f copies ids)
  visited [] copies h n before after = record { in_order = h; each = λ q. after q refl; few = n }
  visited (id ∷ ids) copies h n before after =
      let v = visit copies id h n (before id (or_left (same_id id id) (is_among ids id) (same_id-itself id))) in
      visited ids (f copies id) v.change.in_order v.change.few
      (λ q t. subst (Before q) (sym (v.change.rows q))
      (elim (same_id q id) as (λ b. same_id q id ≡ b → Before q (cond b v.row (at copies q))) [
        | true ↦ λ s. subst (λ x. Before x v.row) (sym (same_id-equal q id s)) v.again
        | false ↦ λ s. before q (or_right (same_id q id) (is_among ids q) t)
      ] refl))
      (λ q t. subst (After q) (sym (v.change.rows q))
      (elim (same_id q id) as (λ b. same_id q id ≡ b → After q (cond b v.row (at copies q))) [
        | true ↦ λ s. subst (λ x. After x v.row) (sym (same_id-equal q id s)) v.done
        | false ↦ λ s. after q (ap (λ b. b || is_among ids q) s ∙ t)
      ] refl))
