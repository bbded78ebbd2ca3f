-- What the works of a store keep while one is asked for, and while one ends.
use Rattle.std.proofs.Common.{◌≡◌, ℕ, ◌+◌, ◌≤◌, ◌<◌, Bool, true, false, not, ◌&&◌, ◌||◌, List, [], ◌∷◌, ◌++◌, length, filter, Some, refl, sym, ap, subst, ◌∙◌, arith}
use Rattle.std.specs.Prelude.{◌==◌, ◌^◌, count_by, nat_lt, nat_le}
use Rattle.std.specs.List.{list_any, list_all, find}
use Rattle.std.proofs.lemmas.Bool.{leb-true, le-leb, eqb-true, lt-ltb}
use Rattle.std.proofs.lemmas.List.Folds.{list_any-append, list_all-append}
use Rattle.std.proofs.lemmas.List.{length_push}
use Rattle.obj_id.specs.declared.ids.ObjectId.{ObjectId}
use Rattle.obj_id.specs.Ids.{same_id}
use Rattle.private_store.specs.rules.Limits.{most_works, most_copies}
use Rattle.private_store.specs.rules.Tables.{ById}
use Rattle.private_store.specs.rules.Shape.{Copy, WorkInFlight, GrantGiven, Shape}
use Rattle.private_store.specs.rules.Room.{asked}
use Rattle.private_store.specs.laws.Invariants.{IsCopyKept, has_work}
use Rattle.store_facts.proofs.KeptCopy.{SameFor}
use Rattle.store_facts.proofs.KeptLists.{count-append, count-yes, count-no, count_none, count-filter, length-filter-le, all-filter, all_weaker, any-taken, none-taken}
use Rattle.store_facts.proofs.KeptRows.{IsRowChange, AreWorksKept, IsLiveKept, rows_moved}
use Rattle.store_facts.proofs.Tests.{both, both_left, both_right, or_left, or_right}
use Rattle.store_facts.proofs.Ids.{same_id-equal, same_id-itself}

or_nothing : (a b : Bool) → b ≡ false → a || (b || false) ≡ a
or_nothing true b e = refl
or_nothing false true e = e
or_nothing false false e = refl

pub pushed_no : {X : Type 0} (p : X → Bool) (xs : List X) (x : X) → p x ≡ false → list_any p (xs ++ x ∷ []) ≡ list_any p xs
pushed_no p xs x e = list_any-append p xs (x ∷ []) ∙ or_nothing (list_any p xs) (p x) e

pub pushed_yes : {X : Type 0} (p : X → Bool) (xs : List X) (x : X) → p x ≡ true → list_any p (xs ++ x ∷ []) ≡ true
pushed_yes p xs x e = list_any-append p xs (x ∷ []) ∙ or_right (list_any p xs) (p x || false) (or_left (p x) false e)

-- ---- a work is asked for

-- the work that is asked for next
abbrev pub next_work : ℕ → ObjectId → Bool → WorkInFlight
next_work asked id writes = record { number = asked + 1; id = id; writes = writes }

pub same_asked : (works : List WorkInFlight) (asked : ℕ) (given : List GrantGiven) (id : ObjectId) (writes : Bool) (q : ObjectId) → same_id q id ≡ false → SameFor (works ++ next_work asked id writes ∷ []) works given given q
same_asked works asked given id writes q e = record {
  work = pushed_no (λ w. same_id q w.id) works (next_work asked id writes) e;
  write = pushed_no (λ w. same_id q w.id && w.writes) works (next_work asked id writes) (ap (λ b. b && writes) e);
  read = pushed_no (λ w. same_id q w.id && not w.writes) works (next_work asked id writes) (ap (λ b. b && not writes) e);
  grant = refl;
}

number_above : (works : List WorkInFlight) (asked n : ℕ) → list_all (λ w. nat_lt 0 w.number && nat_le w.number asked) works ≡ true → asked < n → list_any (λ w. w.number == n) works ≡ false
number_above [] asked n h lt = refl
number_above (w ∷ works) asked n h lt =
    let le : w.number ≤ asked = leb-true w.number asked (both_right (nat_lt 0 w.number) (nat_le w.number asked) (both_left _ _ h)) in
    elim (w.number == n) as (λ b. (w.number == n) ≡ b → b || list_any (λ w. w.number == n) works ≡ false) [
      | true ↦ λ e. let is : w.number ≡ n = eqb-true w.number n e in absurd (omega (arith, is, le, lt))
      | false ↦ λ e. number_above works asked n (both_right (nat_lt 0 w.number && nat_le w.number asked) _ h) lt
    ] refl

one_more : (p : WorkInFlight → Bool) (works : List WorkInFlight) (w : WorkInFlight) → count_by p works ≤ 1 → (p w ≡ true → list_any p works ≡ false) → count_by p (works ++ w ∷ []) ≤ 1
one_more p works w n k =
    let a = count-append p works (w ∷ []) in
    elim (p w) as (λ b. p w ≡ b → count_by p (works ++ w ∷ []) ≤ 1) [
      | true ↦ λ e. let z = count_none p works (k e) in let o : count_by p (w ∷ []) ≡ 1 + count_by p [] = count-yes p w [] e in let i : count_by p [] ≡ 0 = refl in omega (arith, a, z, o, i)
      | false ↦ λ e. let o : count_by p (w ∷ []) ≡ count_by p [] = count-no p w [] e in let i : count_by p [] ≡ 0 = refl in omega (arith, a, o, i)
    ] refl

pub works_asked_keep : (works : List WorkInFlight) (asked : ℕ) (id : ObjectId) (writes : Bool) → AreWorksKept works asked → has_work works id ≡ false → length works < most_works → asked + 1 < 2 ^ 64
    → AreWorksKept (works ++ next_work asked id writes ∷ []) (asked + 1)
works_asked_keep works asked id writes h free few end =
    let w = next_work asked id writes in
    record {
      one_work = λ q. one_more (λ x. same_id q x.id) works w (h.one_work q) (λ e. subst (λ x. has_work works x ≡ false) (sym (same_id-equal q id e)) free);
      numbers_used = list_all-append (λ x. nat_lt 0 x.number && nat_le x.number (asked + 1)) works (w ∷ [])
          ∙ both _ _ (all_weaker _ _ works (λ x e. let le : x.number ≤ asked = leb-true x.number asked (both_right (nat_lt 0 x.number) (nat_le x.number asked) e) in
          both _ _ (both_left (nat_lt 0 x.number) (nat_le x.number asked) e) (le-leb x.number (asked + 1) (omega (arith, le)))) h.numbers_used)
          (both (nat_lt 0 (asked + 1) && nat_le (asked + 1) (asked + 1)) true (both _ _ (lt-ltb 0 (asked + 1) (omega arith)) (le-leb (asked + 1) (asked + 1) (omega arith))) refl);
      one_number = λ n. one_more (λ x. x.number == n) works w (h.one_number n) (λ e. let is : asked + 1 ≡ n = eqb-true (asked + 1) n e in number_above works asked n h.numbers_used (omega (arith, is)));
      numbers_end = end;
      few = let l = length_push works w in omega (arith, l, few);
    }

-- a copy changes, and a work is asked for on it
pub ask_keeps : {store : Shape} → IsLiveKept store → (id : ObjectId) (copy : Copy) (new : ById Copy) (writes : Bool) → IsRowChange most_copies store.copies id (Some copy) new
    → has_work store.works id ≡ false → length store.works < most_works → store.works_asked + 1 < 2 ^ 64
    → IsCopyKept store.job (store.works ++ next_work store.works_asked id writes ∷ []) store.given store.ended_tasks id copy
    → IsLiveKept (asked writes (record store { copies = new }) id)
ask_keeps {store} h id copy new writes c free few end k = record {
  live = h.live;
  quota = h.quota;
  rows = rows_moved {o = Some copy} h.rows c (same_asked store.works store.works_asked store.given id writes) k;
  works = works_asked_keep store.works store.works_asked id writes h.works free few end;
  grants = h.grants;
  fetches = h.fetches;
  ended = h.ended;
}

-- ---- a work ends

module _ (works : List WorkInFlight) (asked number : ℕ) (w : WorkInFlight) (h : AreWorksKept works asked) (found : find (λ x. x.number == number) works ≡ Some w) where
  abbrev pub rest_of : List WorkInFlight
  rest_of = filter (λ x. not (x.number == number)) works

  pub rest_keep : AreWorksKept rest_of asked
  rest_keep =
      record {
        one_work = λ q. let k = count-filter (λ x. same_id q x.id) (λ x. not (x.number == number)) works in let l = h.one_work q in omega (arith, k, l);
        numbers_used = all-filter _ _ works h.numbers_used;
        one_number = λ n. let k = count-filter (λ x. x.number == n) (λ x. not (x.number == number)) works in let l = h.one_number n in omega (arith, k, l);
        numbers_end = h.numbers_end;
        few = let k = length-filter-le (λ x. not (x.number == number)) works in let l = h.few in omega (arith, k, l);
      }

  -- what it stood on has no other
  pub rest_free : has_work rest_of w.id ≡ false
  rest_free = none-taken (λ x. x.number == number) (λ x. same_id w.id x.id) works w found (h.one_work w.id) (same_id-itself w.id)

  pub same_rest : (given : List GrantGiven) (q : ObjectId) → same_id q w.id ≡ false → SameFor rest_of works given given q
  same_rest given q e = record {
    work = any-taken (λ x. x.number == number) (λ x. same_id q x.id) works w found (h.one_number number) e;
    write = any-taken (λ x. x.number == number) (λ x. same_id q x.id && x.writes) works w found (h.one_number number) (ap (λ b. b && w.writes) e);
    read = any-taken (λ x. x.number == number) (λ x. same_id q x.id && not x.writes) works w found (h.one_number number) (ap (λ b. b && not w.writes) e);
    grant = refl;
  }
