-- The checks of a command, as equations that `simp` and `grind` take.
use Rattle.std.proofs.Common.{◌≡◌, ℕ, Bool, true, false, ◌==◌, List, [], ◌∷◌, Option, Some, None, cond, refl, sym, ap, subst, T}
use Rattle.std.specs.Option.{option_and_then}
use Rattle.obj_id.specs.declared.ids.ObjectId.{ObjectId}
use Rattle.obj_id.specs.declared.refusals.Refusal.{Refusal}
use Rattle.private_store.specs.rules.Tables.{at}
use Rattle.private_store.specs.rules.Shape.{Copy, Shape, Change, Fetch}
use Rattle.private_store.specs.rules.Copies.{visible}
use Rattle.private_store.specs.rules.Change.{refused, checked, needing}
use Rattle.private_store.specs.rules.Events.{fetch_of}
use Rattle.store_facts.proofs.Tests.{none_some, some_value}

pub checked-nil : (store : Shape) (c : Change) → checked store [] c ≡ c
unfolding checked
checked-nil store c = refl

pub checked-true : (store : Shape) (b : Bool) (r : Refusal) (cs : List (Bool × Refusal)) (c : Change) → b ≡ true → checked store ((b, r) ∷ cs) c ≡ refused store r
unfolding checked
checked-true store true r cs c e = refl
checked-true store false r cs c e = absurd (subst T (sym e) tt)

pub checked-false : (store : Shape) (b : Bool) (r : Refusal) (cs : List (Bool × Refusal)) (c : Change) → b ≡ false → checked store ((b, r) ∷ cs) c ≡ checked store cs c
unfolding checked
checked-false store false r cs c e = refl
checked-false store true r cs c e = absurd (subst T e tt)

pub needing-none : {X : Type 0} (store : Shape) (o : Option X) (r : Refusal) (f : X → Change) → o ≡ None → needing store o r f ≡ refused store r
unfolding needing
needing-none store o r f e = ap (λ p. needing store p r f) e

pub needing-some : {X : Type 0} (store : Shape) (o : Option X) (x : X) (r : Refusal) (f : X → Change) → o ≡ Some x → needing store o r f ≡ f x
unfolding needing
needing-some store o x r f e = ap (λ p. needing store p r f) e

-- ---- what holds of a change with checks, where each that was passed had not held

abbrev pub Fails : List (Bool × Refusal) → Type 0
Fails [] = Unit {0}
Fails (check ∷ checks) = (check.0 ≡ false) × Fails checks

pub checked_past : (P : Change → Type 0) (store : Shape) (checks : List (Bool × Refusal)) (rest : Change) → ((r : Refusal) → P (refused store r)) → (Fails checks → P rest) → P (checked store checks rest)
unfolding checked
checked_past P store [] rest h k = k tt
checked_past P store (check ∷ checks) rest h k =
    elim check.0 as (λ b. check.0 ≡ b → P (cond b (refused store check.1) (checked store checks rest))) [
      | true ↦ λ _. h check.1
      | false ↦ λ e. checked_past P store checks rest h (λ fails. k (e, fails))
    ] refl

-- and without what had failed
pub checked_has : (P : Change → Type 0) (store : Shape) (checks : List (Bool × Refusal)) (rest : Change) → ((r : Refusal) → P (refused store r)) → P rest → P (checked store checks rest)
unfolding checked
checked_has P store [] rest h k = k
checked_has P store (check ∷ checks) rest h k =
    elim check.0 as (λ b. P (cond b (refused store check.1) (checked store checks rest))) [ true ↦ h check.1 | false ↦ checked_has P store checks rest h k ]

pub needing_has : {X : Type 0} (P : Change → Type 0) (store : Shape) (o : Option X) (r : Refusal) (f : X → Change) → P (refused store r) → ((x : X) → o ≡ Some x → P (f x)) → P (needing store o r f)
unfolding needing
needing_has P store None r f h k = h
needing_has P store (Some x) r f h k = k x refl

-- ---- what a look-up found

pub visible_at : (store : Shape) (id : ObjectId) (copy : Copy) → visible store id ≡ Some copy → at store.copies id ≡ Some copy
visible_at store id copy e = seen (at store.copies id) e
  where
    seen : (o : Option Copy) → option_and_then (λ c. cond c.doomed None (Some c)) o ≡ Some copy → o ≡ Some copy
    seen None e = e
    seen (Some c) e = elim c.doomed as (λ b. cond b None (Some c) ≡ Some copy → Some c ≡ Some copy) [ true ↦ λ e. none_some copy e | false ↦ λ e. e ] e

pub fetch_found : (store : Shape) (id : ObjectId) (number : ℕ) (p : Copy × Fetch) → fetch_of store id number ≡ Some p → (at store.copies id ≡ Some p.0) × (p.0.fetch ≡ Some p.1)
fetch_found store id number p e = by_copy (at store.copies id) e
  where
    by_number : (copy : Copy) (fetch : Fetch) (b : Bool) → copy.fetch ≡ Some fetch → ◌≡◌ {A = Option (Copy × Fetch)} (cond b (Some (copy, fetch)) None) (Some p) → (Some copy ≡ Some p.0) × (p.0.fetch ≡ Some p.1)
    by_number copy fetch true f e =
        let is : ◌≡◌ {A = Copy × Fetch} (copy, fetch) p = some_value (copy, fetch) p e in
        (ap (λ x. Some x.0) is, subst (λ x. x.0.fetch ≡ Some x.1) is f)
    by_number copy fetch false f e = none_some p e

    by_fetch : (copy : Copy) (o : Option Fetch) → copy.fetch ≡ o → ◌≡◌ {A = Option (Copy × Fetch)} (option_and_then (λ fetch. cond (fetch.number == number) (Some (copy, fetch)) None) o) (Some p) → (Some copy ≡ Some p.0) × (p.0.fetch ≡ Some p.1)
    by_fetch copy None f e = none_some p e
    by_fetch copy (Some fetch) f e = by_number copy fetch (fetch.number == number) f e

    by_copy : (o : Option Copy) → ◌≡◌ {A = Option (Copy × Fetch)} (option_and_then (λ copy. option_and_then (λ fetch. cond (fetch.number == number) (Some (copy, fetch)) None) copy.fetch) o) (Some p) → (o ≡ Some p.0) × (p.0.fetch ≡ Some p.1)
    by_copy None e = none_some p e
    by_copy (Some copy) e = by_fetch copy copy.fetch refl e
