-- Works in their turns: filtered, changed, and added to.
use Rattle.std.proofs.Common.{◌≡◌, ℕ, ◌+◌, Bool, true, false, not, cond, List, [], ◌∷◌, ◌++◌, map, filter, refl, sym, ap, ◌∙◌, arith}
use Rattle.std.specs.Prelude.{nat_le, nat_lt, ◌&&◌, if◌then◌else◌}
use Rattle.std.specs.List.{list_all}
use Rattle.std.proofs.lemmas.Bool.Decides.{nat_tests}
use Rattle.obj_id.specs.declared.ids.JobNo.{JobNo}
use Rattle.obj_id.specs.declared.ids.ObjectId.{ObjectId}
use Rattle.obj_id.specs.declared.works.WorkKind.{WorkKind}
use Rattle.store_facts.proofs.Tests.{both, both_left, both_right, not_true}
use Rattle.spill_work.specs.declared.row.Timed.{Timed}
use Rattle.spill_work.specs.Turns.{works_placed, onto, timed, is_before}
use Rattle.spill_work.proofs.Filters.{all_filter, all_weaker, append_nothing}

-- what stands before t, and what stands after it
abbrev before : Timed → Timed → Bool
before t u = nat_le u.turn t.turn

abbrev after : Timed → Timed → Bool
after t u = not (nat_le u.turn t.turn)

abbrev from : ℕ → Timed → Bool
from turn t = nat_le turn t.turn

abbrev pub sorted : List Timed → Bool
sorted [] = true
sorted (t ∷ ts) = list_all (from t.turn) ts && sorted ts

other_way : (a b : ℕ) → nat_le a b ≡ false → nat_le b a ≡ true
other_way a b h = grind (arith, nat_tests)

later : (a b c : ℕ) → nat_le a b ≡ false → nat_le a c ≡ true → nat_le b c ≡ true
later a b c h k = grind (arith, nat_tests)

later_than : (a b c : ℕ) → nat_le a b ≡ false → nat_le a c ≡ true → not (nat_le c b) ≡ true
later_than a b c h k = grind (arith, nat_tests)

apart : (a b c : ℕ) → nat_lt a b ≡ true → nat_le b c ≡ true → not (nat_le c a) ≡ true
apart a b c h k = grind (arith, nat_tests)

past : (a c : ℕ) → nat_le (a + 1) c ≡ true → not (nat_le c a) ≡ true
past a c k = grind (arith, nat_tests)

at_most : (a b : ℕ) → nat_lt a b ≡ true → nat_le a b ≡ true
at_most a b h = grind (arith, nat_tests)

one_later : (a b : ℕ) → nat_lt a b ≡ true → nat_lt a (b + 1) ≡ true
one_later a b h = grind (arith, nat_tests)

one_on : (a b : ℕ) → nat_le (a + 1) b ≡ true → nat_le a b ≡ true
one_on a b h = grind (arith, nat_tests)

itself : (a : ℕ) → nat_le a a ≡ true
itself a = grind (arith, nat_tests)

all_placed : (p : Timed → Bool) (t : Timed) (us : List Timed) → p t ≡ true → list_all p us ≡ true → list_all p (works_placed t us) ≡ true
all_placed p t [] h a = both (p t) true h refl
all_placed p t (u ∷ us) h a =
    elim (nat_le u.turn t.turn) as (λ b. list_all p (if b then u ∷ works_placed t us else t ∷ u ∷ us) ≡ true) [
      | true ↦ both (p u) (list_all p (works_placed t us)) (both_left (p u) (list_all p us) a) (all_placed p t us h (both_right (p u) (list_all p us) a))
      | false ↦ both (p t) (p u && list_all p us) h a
    ]

pub all_onto : (p : Timed → Bool) (ts us : List Timed) → list_all p ts ≡ true → list_all p us ≡ true → list_all p (onto ts us) ≡ true
all_onto p [] us h a = a
all_onto p (t ∷ ts) us h a = all_placed p t (onto ts us) (both_left (p t) (list_all p ts) h) (all_onto p ts us (both_right (p t) (list_all p ts) h) a)

sorted_placed : (t : Timed) (us : List Timed) → sorted us ≡ true → sorted (works_placed t us) ≡ true
sorted_placed t [] s = refl
sorted_placed t (u ∷ us) s =
    let rising = both_left (list_all (from u.turn) us) (sorted us) s in
    let rest = both_right (list_all (from u.turn) us) (sorted us) s in
    (elim (nat_le u.turn t.turn) as (λ b. nat_le u.turn t.turn ≡ b → sorted (if b then u ∷ works_placed t us else t ∷ u ∷ us) ≡ true) [
      | true ↦ λ e. both (list_all (from u.turn) (works_placed t us)) (sorted (works_placed t us)) (all_placed (from u.turn) t us e rising) (sorted_placed t us rest)
      | false ↦ λ e. both (nat_le t.turn u.turn && list_all (from t.turn) us) (list_all (from u.turn) us && sorted us)
          (both (nat_le t.turn u.turn) (list_all (from t.turn) us) (other_way u.turn t.turn e) (all_weaker (from u.turn) (from t.turn) (λ v h. later u.turn t.turn v.turn e h) us rising)) s
    ]) refl

pub sorted_onto : (ts us : List Timed) → sorted us ≡ true → sorted (onto ts us) ≡ true
sorted_onto [] us s = s
sorted_onto (t ∷ ts) us s = sorted_placed t (onto ts us) (sorted_onto ts us s)

placed_first : (t : Timed) (us : List Timed) → list_all (after t) us ≡ true → works_placed t us ≡ t ∷ us
placed_first t [] h = refl
placed_first t (u ∷ us) h = ap (λ b. if b then u ∷ works_placed t us else t ∷ u ∷ us) (not_true (nat_le u.turn t.turn) (both_left (after t u) (list_all (after t) us) h))

-- ---- a filter

filter_placed : (q : Timed → Bool) (t : Timed) (us : List Timed) → sorted us ≡ true → filter q (works_placed t us) ≡ (if q t then works_placed t (filter q us) else filter q us)
filter_placed q t [] s = elim (q t) as (λ b. cond b (t ∷ []) [] ≡ (if b then t ∷ [] else [])) [ true ↦ refl | false ↦ refl ]
filter_placed q t (u ∷ us) s =
    let rising = both_left (list_all (from u.turn) us) (sorted us) s in
    let rest = filter_placed q t us (both_right (list_all (from u.turn) us) (sorted us) s) in
    let left = filter q us in
    (elim (nat_le u.turn t.turn) as (λ b. nat_le u.turn t.turn ≡ b
    → filter q (if b then u ∷ works_placed t us else t ∷ u ∷ us) ≡ (if q t then works_placed t (cond (q u) (u ∷ left) left) else cond (q u) (u ∷ left) left)) [
      | true ↦ λ e. elim (q u) as (λ c. cond c (u ∷ filter q (works_placed t us)) (filter q (works_placed t us)) ≡ (if q t then works_placed t (cond c (u ∷ left) left) else cond c (u ∷ left) left)) [
        | true ↦
            ap (λ r. u ∷ r) rest
            ∙ elim (q t) as (λ d. u ∷ (if d then works_placed t left else left) ≡ (if d then works_placed t (u ∷ left) else u ∷ left)) [
              | true ↦ sym (ap (λ b. if b then u ∷ works_placed t left else t ∷ u ∷ left) e)
              | false ↦ refl
            ]
        | false ↦ rest
      ]
      | false ↦ λ e.
          let all : list_all (after t) (u ∷ us) ≡ true =
          both (after t u) (list_all (after t) us) (ap not e) (all_weaker (from u.turn) (after t) (λ v h. later_than u.turn t.turn v.turn e h) us rising) in
          let first : works_placed t (filter q (u ∷ us)) ≡ t ∷ filter q (u ∷ us) = placed_first t (filter q (u ∷ us)) (all_filter (after t) q (u ∷ us) all) in
          elim (q t) as (λ d. cond d (t ∷ filter q (u ∷ us)) (filter q (u ∷ us)) ≡ (if d then works_placed t (filter q (u ∷ us)) else filter q (u ∷ us))) [
            | true ↦ sym first
            | false ↦ refl
          ]
    ]) refl

pub filter_onto : (q : Timed → Bool) (ts us : List Timed) → sorted us ≡ true → filter q (onto ts us) ≡ onto (filter q ts) (filter q us)
filter_onto q [] us s = refl
filter_onto q (t ∷ ts) us s =
    filter_placed q t (onto ts us) (sorted_onto ts us s)
    ∙ elim (q t) as (λ b. (if b then works_placed t (filter q (onto ts us)) else filter q (onto ts us)) ≡ onto (cond b (t ∷ filter q ts) (filter q ts)) (filter q us)) [
      | true ↦ ap (works_placed t) (filter_onto q ts us s)
      | false ↦ filter_onto q ts us s
    ]

-- ---- a change that keeps the turns

module _ (f : Timed → Timed) (keeps : (t : Timed) → (f t).turn ≡ t.turn) where
  map_placed : (t : Timed) (us : List Timed) → map f (works_placed t us) ≡ works_placed (f t) (map f us)
  map_placed t [] = refl
  map_placed t (u ∷ us) =
      (elim (nat_le u.turn t.turn) as (λ b. map f (if b then u ∷ works_placed t us else t ∷ u ∷ us) ≡ (if b then f u ∷ works_placed (f t) (map f us) else f t ∷ f u ∷ map f us)) [
        | true ↦ ap (λ r. f u ∷ r) (map_placed t us)
        | false ↦ refl
      ])
      ∙ sym (λ i. if nat_le (keeps u i) (keeps t i) then f u ∷ works_placed (f t) (map f us) else f t ∷ f u ∷ map f us)

  pub map_onto : (ts us : List Timed) → map f (onto ts us) ≡ onto (map f ts) (map f us)
  map_onto [] us = refl
  map_onto (t ∷ ts) us = map_placed t (onto ts us) ∙ ap (works_placed (f t)) (map_onto ts us)

-- ---- more works

placed_between : (t : Timed) (us ms : List Timed) → list_all (before t) us ≡ true → list_all (after t) ms ≡ true → works_placed t (us ++ ms) ≡ us ++ t ∷ ms
placed_between t [] ms h k = placed_first t ms k
placed_between t (u ∷ us) ms h k =
    ap (λ b. if b then u ∷ works_placed t (us ++ ms) else t ∷ u ∷ (us ++ ms)) (both_left (before t u) (list_all (before t) us) h)
    ∙ ap (λ r. u ∷ r) (placed_between t us ms (both_right (before t u) (list_all (before t) us) h) k)

placed_before : (t : Timed) (us ms : List Timed) → list_all (after t) ms ≡ true → works_placed t (us ++ ms) ≡ works_placed t us ++ ms
placed_before t [] ms k = placed_first t ms k
placed_before t (u ∷ us) ms k = elim (nat_le u.turn t.turn) as (λ b. (if b then u ∷ works_placed t (us ++ ms) else t ∷ u ∷ (us ++ ms)) ≡ (if b then u ∷ works_placed t us else t ∷ u ∷ us) ++ ms) [
  | true ↦ ap (λ r. u ∷ r) (placed_before t us ms k)
  | false ↦ refl
]

pub onto_before : (turn : ℕ) (ts us ms : List Timed) → list_all (is_before turn) ts ≡ true → list_all (from turn) ms ≡ true → onto ts (us ++ ms) ≡ onto ts us ++ ms
onto_before turn [] us ms h k = refl
onto_before turn (t ∷ ts) us ms h k =
    ap (works_placed t) (onto_before turn ts us ms (both_right (is_before turn t) (list_all (is_before turn) ts) h) k)
    ∙ placed_before t (onto ts us) ms (all_weaker (from turn) (after t) (λ m g. apart t.turn turn m.turn (both_left (is_before turn t) (list_all (is_before turn) ts) h) g) ms k)

pub onto_append : (ts us vs : List Timed) → onto (ts ++ us) vs ≡ onto ts (onto us vs)
onto_append [] us vs = refl
onto_append (t ∷ ts) us vs = ap (works_placed t) (onto_append ts us vs)

module _ (job : JobNo) (kind : WorkKind) where
  pub timed_from : (last turn : ℕ) (ids : List ObjectId) → list_all (from turn) (timed job kind last turn ids) ≡ true
  timed_from last turn [] = refl
  timed_from last turn (id ∷ ids) =
      both (nat_le turn turn) (list_all (from turn) (timed job kind (last + 1) (turn + 1) ids)) (itself turn)
      (all_weaker (from (turn + 1)) (from turn) (λ m h. one_on turn m.turn h) (timed job kind (last + 1) (turn + 1) ids) (timed_from (last + 1) (turn + 1) ids))

  pub onto_timed : (last turn : ℕ) (ids : List ObjectId) (us : List Timed) → list_all (is_before turn) us ≡ true → onto (timed job kind last turn ids) us ≡ us ++ timed job kind last turn ids
  onto_timed last turn [] us h = sym (append_nothing us)
  onto_timed last turn (id ∷ ids) us h =
      let next = timed job kind (last + 1) (turn + 1) ids in
      let t : Timed = record { turn = turn; work = record { asked = record { job = job; number = last + 1; id = id; kind = kind }; taken = false } } in
      ap (works_placed t) (onto_timed (last + 1) (turn + 1) ids us (all_weaker (is_before turn) (is_before (turn + 1)) (λ u g. one_later u.turn turn g) us h))
      ∙ placed_between t us next (all_weaker (is_before turn) (before t) (λ u g. at_most u.turn turn g) us h)
      (all_weaker (from (turn + 1)) (after t) (λ m g. past turn m.turn g) next (timed_from (last + 1) (turn + 1) ids))
