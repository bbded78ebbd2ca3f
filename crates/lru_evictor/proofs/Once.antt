-- Each id stands in an order once, and so it does among those that a walk chooses.
use Rattle.std.proofs.Common.{◌≡◌, ℕ, ◌≤◌, Bool, true, false, ◌&&◌, cond, List, [], ◌∷◌, ◌++◌, map, filter, reverse, refl, ap, ◌∙◌, arith}
use Rattle.std.specs.Prelude.{nat_lt}
use Rattle.std.specs.Map.{keys_of}
use Rattle.std.specs.List.{count_by, list_all, IsDistinct, AllByRecursion}
use Rattle.std.proofs.lemmas.Map.Keys.{IsDistinct-head, IsDistinct-tail}
use Rattle.obj_id.specs.declared.ids.ObjectId.{ObjectId}
use Rattle.obj_id.specs.Ids.{id_eq, same_id}
use Rattle.store_facts.proofs.Ids.{same_id-id_eq, same_id-equal}
use Rattle.private_store.specs.laws.Invariants.{IsOrderOfUse}
use Rattle.store_facts.proofs.KeptLists.{count-append, count-filter, count-yes, count-no}
use Rattle.use_tree.specs.declared.classes.VictimClass.{VictimClass}
use Rattle.use_tree.specs.declared.uses.Use.{Use}
use Rattle.use_tree.specs.Classes.{has}
use Rattle.lru_evictor.specs.Indexed.{chosen_ids, use_of}
use Rattle.lru_evictor.specs.declared.index.OrderSlot.{OrderSlot}
use Rattle.lru_evictor.proofs.CacheOrders.{reverse-cons}
use Rattle.lru_evictor.proofs.Shortest.{Begins}

-- ---- ids that are apart

none_same : (id k : ObjectId) (ks : List ObjectId) → same_id id k ≡ true → AllByRecursion (λ y. id_eq k y ≡ false) ks → count_by (same_id id) ks ≡ 0
none_same id k [] same apart = refl
none_same id k (y ∷ ks) same apart =
    count-no (same_id id) y ks (ap (λ x. same_id x y) (same_id-equal id k same) ∙ same_id-id_eq k y ∙ apart.0) ∙ none_same id k ks same apart.1

pub once-distinct : (ks : List ObjectId) → IsDistinct id_eq ks → IsOrderOfUse ks
once-distinct [] distinct id = omega arith
once-distinct (k ∷ ks) distinct id = by (same_id id k) refl (once-distinct ks (IsDistinct-tail id_eq k ks distinct) id)
  where
    by : (b : Bool) → same_id id k ≡ b → count_by (same_id id) ks ≤ 1 → count_by (same_id id) (k ∷ ks) ≤ 1
    by true same rest =
        let one = count-yes (same_id id) k ks same in
        let none = none_same id k ks same (IsDistinct-head id_eq k ks distinct) in
        omega (arith, one, none)
    by false other rest =
        let here = count-no (same_id id) k ks other in
        omega (arith, here, rest)

pub uses-ids : (es : List (ObjectId × OrderSlot)) → map (λ (u : Use). u.id) (map use_of es) ≡ keys_of es
uses-ids [] = refl
uses-ids (e ∷ es) = ap (λ ids. e.0 ∷ ids) (uses-ids es)

-- ---- those that a walk chooses

count-reverse : {X : Type 0} (p : X → Bool) (xs : List X) → count_by p (reverse xs) ≡ count_by p xs
count-reverse p [] = refl
count-reverse p (x ∷ xs) =
    let turned = ap (count_by p) (reverse-cons x xs) ∙ count-append p (reverse xs) (x ∷ []) in
    let rest = count-reverse p xs in
    let whole = count-append p (x ∷ []) xs in
    omega (arith, turned, rest, whole)

count-filtered : (p : ObjectId → Bool) (q : Use → Bool) (us : List Use) → count_by p (map (λ u. u.id) (filter q us)) ≤ count_by p (map (λ u. u.id) us)
count-filtered p q [] = omega arith
count-filtered p q (u ∷ us) = by (q u) (count-filtered p q us)
  where
    by : (b : Bool) → count_by p (map (λ u. u.id) (filter q us)) ≤ count_by p (map (λ u. u.id) us) → count_by p (map (λ u. u.id) (cond b (u ∷ filter q us) (filter q us))) ≤ count_by p (u.id ∷ map (λ u. u.id) us)
    by true rest =
        let less = count-append p (u.id ∷ []) (map (λ u. u.id) (filter q us)) in
        let more = count-append p (u.id ∷ []) (map (λ u. u.id) us) in
        omega (arith, less, more, rest)
    by false rest =
        let more = count-append p (u.id ∷ []) (map (λ u. u.id) us) in
        omega (arith, more, rest)

count-begins : {X : Type 0} (p : X → Bool) (ys xs : List X) → Begins ys xs → count_by p ys ≤ count_by p xs
count-begins p ys xs begins =
    let all = ap (count_by p) begins.is in
    let parts = count-append p ys begins.rest in
    omega (arith, all, parts)

pub chosen-once : (us : List Use) (class : VictimClass) (b : ℕ) (test : ObjectId → Bool) (ids : List ObjectId) → IsOrderOfUse (map (λ u. u.id) us) → Begins ids (filter test (chosen_ids class b us)) → IsOrderOfUse ids
chosen-once us class b test ids once begins id =
    let is_chosen : Use → Bool = λ u. nat_lt u.turn b && has class u.classes in
    let first = count-begins (same_id id) ids (filter test (chosen_ids class b us)) begins in
    let tested = count-filter (same_id id) test (chosen_ids class b us) in
    let turned = count-reverse (same_id id) (map (λ u. u.id) (filter is_chosen us)) in
    let kept = count-filtered (same_id id) is_chosen us in
    let one = once id in
    omega (arith, first, tested, turned, kept, one)

-- ---- what passes a test

all-filtered : {X : Type 0} (p : X → Bool) (xs : List X) → list_all p (filter p xs) ≡ true
all-filtered p [] = refl
all-filtered p (x ∷ xs) = by (p x) refl (all-filtered p xs)
  where
    by : (b : Bool) → p x ≡ b → list_all p (filter p xs) ≡ true → list_all p (cond b (x ∷ filter p xs) (filter p xs)) ≡ true
    by true t rest = ap (λ b. b && list_all p (filter p xs)) t ∙ rest
    by false t rest = rest

all-begins : {X : Type 0} (p : X → Bool) (ys rest : List X) → list_all p (ys ++ rest) ≡ true → list_all p ys ≡ true
all-begins p [] rest t = refl
all-begins p (y ∷ ys) rest t = by (p y) (all-begins p ys rest) t
  where
    by : (b : Bool) → (list_all p (ys ++ rest) ≡ true → list_all p ys ≡ true) → b && list_all p (ys ++ rest) ≡ true → b && list_all p ys ≡ true
    by true on t = on t
    by false on t = t

pub passes-begins : {X : Type 0} (p : X → Bool) (xs ys : List X) → Begins ys (filter p xs) → list_all p ys ≡ true
passes-begins p xs ys begins = all-begins p ys begins.rest (ap (list_all p) begins.is ∙ all-filtered p xs)
