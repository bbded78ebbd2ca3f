-- The order of ids is a total order, and ids that are the same are equal.
use Rattle.std.proofs.Common.{◌≡◌, true, false, refl, sym, ap, ◌∙◌}
use Rattle.std.specs.Cmp.{IsEquivalence, IsTotalOrder, both_tied, tied_itself, unsigned_ties}
use Rattle.std.specs.Cmp.Lexicographic.{lists_ties}
use Rattle.std.specs.FinMap.{IsAntisymmetric, nat_cmp-IsAntisymmetric, slice_cmp-IsAntisymmetric}
use Rattle.std.specs.Ordering.{is_eq, nat_cmp, ordering_then}
use Rattle.std.specs.declared.cmp.Ordering.{Ordering}
use Rattle.std.specs.declared.cmp.Ordering.TheVariants.{Less, Equal, Greater}
use Rattle.std.proofs.lemmas.Cmp.{and_equiv, nat_cmp_total, nat_eq_equiv, nat_list_cmp_total, nat_list_eq_equiv, on_equiv, on_total, then_total}
use Rattle.obj_id.specs.Ids.{id_cmp, id_eq, same_id, same_task, task_cmp}
use Rattle.obj_id.specs.declared.ids.ObjectId.{ObjectId}
use Rattle.obj_id.specs.declared.ids.TaskNo.{TaskNo}

-- two orders one after the other tie where both do
then_tied : (r s : Ordering) → ordering_then r s ≡ Equal → (r ≡ Equal) × (s ≡ Equal)
then_tied Less s h = cc
then_tied Equal s h = (refl, h)
then_tied Greater s h = cc

tied : (r : Ordering) → is_eq r ≡ true → r ≡ Equal
tied Less h = cc
tied Equal h = refl
tied Greater h = cc

-- the order of ids is a total order
pub id_cmp-IsTotalOrder : IsTotalOrder id_cmp
id_cmp-IsTotalOrder =
    then_total (on_total (λ (a : ObjectId). a.task.0) nat_list_cmp_total)
    (then_total (on_total (λ (a : ObjectId). a.job.0) nat_cmp_total) (on_total (λ (a : ObjectId). a.index) nat_cmp_total))

-- only equal tasks tie
pub task_cmp-IsAntisymmetric : IsAntisymmetric task_cmp
task_cmp-IsAntisymmetric a b h =
    let bytes = slice_cmp-IsAntisymmetric nat_cmp-IsAntisymmetric a.0 b.0 h in
    λ i. record { 0 = bytes i }

-- only equal ids tie
pub id_cmp-IsAntisymmetric : IsAntisymmetric id_cmp
id_cmp-IsAntisymmetric a b h =
    let outer = then_tied _ _ h in
    let inner = then_tied _ _ outer.1 in
    let task = task_cmp-IsAntisymmetric a.task b.task outer.0 in
    let job = nat_cmp-IsAntisymmetric a.job.0 b.job.0 inner.0 in
    let index = nat_cmp-IsAntisymmetric a.index b.index inner.1 in
    λ i. record { task = task i; job = record { 0 = job i }; index = index i }

-- tasks that are the same are equal
pub same_task-equal : (a b : TaskNo) → same_task a b ≡ true → a ≡ b
same_task-equal a b h = task_cmp-IsAntisymmetric a b (tied _ h)

-- ids that are the same are equal
pub same_id-equal : (a b : ObjectId) → same_id a b ≡ true → a ≡ b
same_id-equal a b h = id_cmp-IsAntisymmetric a b (tied _ h)

-- an id is the same as itself
pub same_id-itself : (a : ObjectId) → same_id a a ≡ true
same_id-itself a = ap is_eq (tied_itself id_cmp-IsTotalOrder a)

-- where one id is not the other, the other is not the one
pub same_id-not_back : (a b : ObjectId) → same_id a b ≡ false → same_id b a ≡ false
same_id-not_back a b e =
    elim (same_id b a) as (λ t. same_id b a ≡ t → t ≡ false) [
      | true ↦ λ t. sym (same_id-itself a) ∙ ap (λ x. same_id a x) (sym (same_id-equal b a t)) ∙ e
      | false ↦ λ t. refl
    ] refl

pub same_id-flip : (a b : ObjectId) → same_id a b ≡ same_id b a
same_id-flip a b =
    elim (same_id a b) as (λ t. same_id a b ≡ t → t ≡ same_id b a) [
      | true ↦ λ t. sym (same_id-itself a) ∙ ap (λ x. same_id x a) (same_id-equal a b t)
      | false ↦ λ t. sym (same_id-not_back a b t)
    ] refl

-- the order ties where `==` holds
pub same_id-id_eq : (a b : ObjectId) → same_id a b ≡ id_eq a b
same_id-id_eq a b =
    sym (both_tied _ _ (task_cmp a.task b.task) _ (lists_ties nat_cmp unsigned_ties a.task.0 b.task.0)
    (both_tied _ _ (nat_cmp a.job.0 b.job.0) (nat_cmp a.index b.index) (unsigned_ties a.job.0 b.job.0) (unsigned_ties a.index b.index)))

-- `==` is an equivalence
pub id_eq_equiv : IsEquivalence id_eq
id_eq_equiv =
    and_equiv (on_equiv (λ (a : ObjectId). a.task.0) nat_list_eq_equiv)
    (and_equiv (on_equiv (λ (a : ObjectId). a.job.0) nat_eq_equiv) (on_equiv (λ (a : ObjectId). a.index) nat_eq_equiv))

-- ids for which `==` holds are equal
pub id_eq-equal : (a b : ObjectId) → id_eq a b ≡ true → a ≡ b
id_eq-equal a b h = same_id-equal a b (same_id-id_eq a b ∙ h)

-- an id is `==` to itself
pub id_eq-itself : (a : ObjectId) → id_eq a a ≡ true
id_eq-itself a = id_eq_equiv.refl a
