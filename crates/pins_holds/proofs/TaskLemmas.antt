-- Tasks in a set: its words and the private store's are the same.
use Rattle.std.proofs.Common.{◌≡◌, ◌≤◌, Bool, true, false, not, cond, ◌||◌, List, [], ◌∷◌, ◌++◌, length, filter, refl, sym, ap, subst, ◌∙◌, arith}
use Rattle.std.specs.List.{list_any, AllByRecursion, IsDistinct}
use Rattle.std.specs.Set.{remove_key}
use Rattle.std.specs.Prelude.{nat_eq}
use Rattle.std.specs.Cmp.{unsigned_ties}
use Rattle.std.specs.Cmp.Lexicographic.{pointwise, lists_ties}
use Rattle.obj_id.specs.declared.ids.TaskNo.{TaskNo}
use Rattle.obj_id.specs.Ids.{same_task}
use Rattle.store_facts.proofs.Ids.{same_task-equal}
use Rattle.obj_id.specs.declared.commands.Kind.{Kind}
use Rattle.pins_holds.specs.Pinned.{are_borrowing, IsPinned}

-- the `==` of tasks
abbrev pub task_eq : TaskNo → TaskNo → Bool
task_eq a b = pointwise nat_eq a.0 b.0

-- the order ties where `==` holds
pub task_eq-same : (a b : TaskNo) → task_eq a b ≡ same_task a b
task_eq-same a b = lists_ties _ unsigned_ties a.0 b.0

pub any_task : (t : TaskNo) (ts : List TaskNo) → list_any (task_eq t) ts ≡ list_any (same_task t) ts
any_task t [] = refl
any_task t (x ∷ ts) = (λ i. task_eq-same t x i || any_task t ts i)

-- where no task is t, all stay
all_stay : (t : TaskNo) (ts : List TaskNo) → AllByRecursion (λ x. task_eq t x ≡ false) ts → filter (λ x. not (same_task t x)) ts ≡ ts
all_stay t [] h = refl
all_stay t (x ∷ ts) h =
    ap (λ b. cond (not b) (x ∷ filter (λ y. not (same_task t y)) ts) (filter (λ y. not (same_task t y)) ts)) (sym (task_eq-same t x) ∙ h.0)
    ∙ ap (λ r. x ∷ r) (all_stay t ts h.1)

-- taking a task out takes it out wherever it stands
pub remove_key-filter : (t : TaskNo) (ts : List TaskNo) → IsDistinct task_eq ts → remove_key (task_eq t) ts ≡ filter (λ x. not (same_task t x)) ts
unfolding IsDistinct
remove_key-filter t [] h = refl
remove_key-filter t (x ∷ ts) h =
    let rest = remove_key-filter t ts h.1 in
    ap (λ b. cond b ts (x ∷ remove_key (task_eq t) ts)) (task_eq-same t x)
    ∙ (elim (same_task t x) as (λ b. same_task t x ≡ b → cond b ts (x ∷ remove_key (task_eq t) ts) ≡ cond (not b) (x ∷ filter (λ y. not (same_task t y)) ts) (filter (λ y. not (same_task t y)) ts)) [
      | true ↦ λ q. sym (all_stay t ts (subst (λ y. AllByRecursion (λ z. task_eq y z ≡ false) ts) (sym (same_task-equal t x q)) h.0))
      | false ↦ λ _. ap (λ r. x ∷ r) rest
    ]) refl

-- a task that isn't there comes last
pub insert_key-new : (t : TaskNo) (ts : List TaskNo) → list_any (same_task t) ts ≡ false → cond (list_any (task_eq t) ts) ts (ts ++ t ∷ []) ≡ ts ++ t ∷ []
insert_key-new t ts h = ap (λ b. cond b ts (ts ++ t ∷ [])) (any_task t ts ∙ h)

pub negated : (b : Bool) {x : Bool} → not b ≡ x → b ≡ not x
negated true e = ap not e
negated false e = ap not e

-- whether other tasks are among these, by the first
pub other_first : (t x : TaskNo) (ts : List TaskNo) → task_eq t x ≡ false → are_borrowing (filter (λ y. not (same_task t y)) (x ∷ ts)) ≡ true
other_first t x ts h =
    ap (λ b. are_borrowing (cond (not b) (x ∷ filter (λ y. not (same_task t y)) ts) (filter (λ y. not (same_task t y)) ts))) (sym (task_eq-same t x) ∙ h)

pub other_later : (t x : TaskNo) (ts : List TaskNo) → task_eq t x ≡ true → are_borrowing (filter (λ y. not (same_task t y)) (x ∷ ts)) ≡ are_borrowing (filter (λ y. not (same_task t y)) ts)
other_later t x ts h =
    ap (λ b. are_borrowing (cond (not b) (x ∷ filter (λ y. not (same_task t y)) ts) (filter (λ y. not (same_task t y)) ts))) (sym (task_eq-same t x) ∙ h)

length-filter-le : (p : TaskNo → Bool) (ts : List TaskNo) → length (filter p ts) ≤ length ts
length-filter-le p [] = omega arith
length-filter-le p (x ∷ ts) =
    let i = length-filter-le p ts in
    elim (p x) as (λ b. length (cond b (x ∷ filter p ts) (filter p ts)) ≤ length (x ∷ ts)) [ true ↦ omega arith | false ↦ omega arith ]

-- a task that leaves breaks nothing
pub without_keeps : (kind : Kind) (pinned : Bool) (t : TaskNo) (ts new : List TaskNo) → IsPinned kind pinned ts → new ≡ filter (λ x. not (same_task t x)) ts → IsPinned kind pinned new
without_keeps kind pinned t ts new h is = subst (IsPinned kind pinned) (sym is) (record {
  secondary = λ s. ((h.secondary s).0, ap (filter (λ x. not (same_task t x))) (h.secondary s).1);
  few_borrowers = let l = length-filter-le (λ x. not (same_task t x)) ts in let few = h.few_borrowers in omega arith;
})
