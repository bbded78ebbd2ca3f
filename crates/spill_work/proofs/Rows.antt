-- Rows of works by their job, and what a change of one row does to the order asked.
use Rattle.std.proofs.Common.{◌≡◌, ℕ, ◌+◌, suc, Bool, true, false, not, cond, List, [], ◌∷◌, ◌++◌, map, filter, length, Option, Some, None, refl, sym, ap, subst, ◌∙◌, arith}
use Rattle.std.specs.Prelude.{nat_lt, ◌&&◌, ◌==◌, if◌then◌else◌, unwrap_or, find, is_some, IsSome}
use Rattle.std.specs.Prelude.{OnErr, Ok, Err}
use Rattle.std.specs.declared.result.Result.{Result}
use Rattle.std.specs.List.{list_all, IsDistinct, AllByRecursion}
use Rattle.std.specs.Map.{lookup, set_value, remove_entry, keys_of}
use Rattle.std.specs.Option.{option_map}
use Rattle.std.specs.Cmp.{IsEquivalence}
use Rattle.std.proofs.lemmas.Bool.Decides.{nat_tests}
use Rattle.std.proofs.lemmas.Cmp.{nat_eq_equiv, on_equiv}
use Rattle.std.proofs.lemmas.List.{map-append}
use Rattle.std.proofs.lemmas.Map.{lookup-set_value, lookup-remove_entry}
use Rattle.std.proofs.lemmas.Map.Keys.{IsDistinct-head, IsDistinct-tail}
use Rattle.obj_id.specs.declared.ids.JobNo.{JobNo}
use Rattle.obj_id.specs.declared.ids.ObjectId.{ObjectId}
use Rattle.obj_id.specs.declared.works.WorkKind.{WorkKind}
use Rattle.store_facts.proofs.Tests.{both, both_left, both_right}
use Rattle.spill_work.specs.declared.queue.Queued.{Queued}
use Rattle.spill_work.specs.declared.row.Timed.{Timed}
use Rattle.spill_work.specs.Line.{same_work_job, is_of, is_at, numbered}
use Rattle.spill_work.specs.Turns.{Rows, row_of, with_row, all_of, onto, in_turn, works_in, timed, is_timed_of, holds_own, is_before, has_number, with_mark, marked_at, taken, AreRows}
use Rattle.spill_work.proofs.Filters.{filter_append, filter_swap, filter_within, filter_of_all, filter_of_none, all_append, all_filter, all_weaker, all_passing, append_nothing, filter_changed, unchanged, filter_map, all_map}
use Rattle.spill_work.proofs.InTurn.{all_onto, filter_onto, map_onto, onto_before, onto_append, timed_from, onto_timed}

same_job_equiv : IsEquivalence same_work_job
same_job_equiv = on_equiv (λ (a : JobNo). a.0) nat_eq_equiv

itself : (job : JobNo) → same_work_job job job ≡ true
itself job = same_job_equiv.refl job

some_value : {A : Type 0} (x y : A) → Some x ≡ Some y → x ≡ y
some_value x y e = cc

abbrev list_of : List Timed → List Timed
list_of ts = ts

-- what holds anyway holds of a refusal
pub on_err : {T : Type 0} {E : Type 0} {P : Type 0} (r : Result T E) → P → OnErr r P
on_err (Ok x) p = tt
on_err (Err e) p = p

-- ---- every row changed

abbrev pub each_row : (List Timed → List Timed) → Rows → Rows
each_row f rows = map (λ e. (e.0, f e.1)) rows

module _ (f : List Timed → List Timed) (nothing : f [] ≡ []) where
  pub row_of-each : (rows : Rows) (job : JobNo) → row_of (each_row f rows) job ≡ f (row_of rows job)
  row_of-each [] job = sym nothing
  row_of-each (e ∷ rows) job =
      elim (same_work_job job e.0) as (λ b. unwrap_or (cond b (Some (f e.1)) (lookup (same_work_job job) (each_row f rows))) [] ≡ f (unwrap_or (cond b (Some e.1) (lookup (same_work_job job) rows)) [])) [
        | true ↦ refl
        | false ↦ row_of-each rows job
      ]

  all_of-each : ((xs ys : List Timed) → f (xs ++ ys) ≡ f xs ++ f ys) → (rows : Rows) → all_of (each_row f rows) ≡ f (all_of rows)
  all_of-each splits [] = sym nothing
  all_of-each splits (e ∷ rows) = ap (λ r. f e.1 ++ r) (all_of-each splits rows) ∙ sym (splits e.1 (all_of rows))

-- a change that leaves other jobs' rows
module _ (job : JobNo) (f : List Timed → List Timed) (others : (e : JobNo × List Timed) → same_work_job job e.0 ≡ false → holds_own e ≡ true → f e.1 ≡ e.1) where
  none_changed : (rows : Rows) → list_all holds_own rows ≡ true → AllByRecursion (λ y. same_work_job job y ≡ false) (keys_of rows) → each_row f rows ≡ rows
  none_changed [] own none = refl
  none_changed (e ∷ rows) own none =
      (λ i. (e.0, others e none.0 (both_left (holds_own e) (list_all holds_own rows) own) i) ∷ none_changed rows (both_right (holds_own e) (list_all holds_own rows) own) none.1 i)

  apart_from : (k : JobNo) (keys : List JobNo) → same_work_job job k ≡ true → AllByRecursion (λ y. same_work_job k y ≡ false) keys → AllByRecursion (λ y. same_work_job job y ≡ false) keys
  apart_from k [] hit none = tt
  apart_from k (y ∷ keys) hit none = (numbers job.0 k.0 y.0 hit none.0, apart_from k keys hit none.1)
    where
      numbers : (a b c : ℕ) → (a == b) ≡ true → (b == c) ≡ false → (a == c) ≡ false
      numbers a b c h k = grind (arith, nat_tests)

  pub set_each : (rows : Rows) (row : List Timed) → IsDistinct same_work_job (keys_of rows) → list_all holds_own rows ≡ true → lookup (same_work_job job) rows ≡ Some row
      → set_value (same_work_job job) rows (f row) ≡ each_row f rows
  set_each [] row distinct own had = absurd cc
  set_each (e ∷ rows) row distinct own had =
      let own_here = both_left (holds_own e) (list_all holds_own rows) own in
      let own_rest = both_right (holds_own e) (list_all holds_own rows) own in
      (elim (same_work_job job e.0) as (λ b. same_work_job job e.0 ≡ b → cond b (Some e.1) (lookup (same_work_job job) rows) ≡ Some row
      → cond b ((e.0, f row) ∷ rows) (e ∷ set_value (same_work_job job) rows (f row)) ≡ (e.0, f e.1) ∷ each_row f rows) [
        | true ↦ λ t at. (λ i. (e.0, f (sym (some_value e.1 row at) i)) ∷ sym (none_changed rows own_rest (apart_from e.0 (keys_of rows) t (IsDistinct-head same_work_job e.0 (keys_of rows) distinct))) i)
        | false ↦ λ t at. (λ i. (e.0, sym (others e t own_here) i) ∷ set_each rows row (IsDistinct-tail same_work_job e.0 (keys_of rows) distinct) own_rest at i)
      ]) refl had

-- a change of all works, which keeps whose they are and their turns
module _ (f : List Timed → List Timed)
    (nothing : f [] ≡ [])
    (splits : (xs ys : List Timed) → f (xs ++ ys) ≡ f xs ++ f ys)
    (in_place : (ts : List Timed) → f (onto ts []) ≡ onto (f ts) [])
    (apart : (job : JobNo) (xs : List Timed) → f (filter (is_timed_of job) xs) ≡ filter (is_timed_of job) (f xs))
    (owned : (job : JobNo) (xs : List Timed) → list_all (is_timed_of job) xs ≡ true → list_all (is_timed_of job) (f xs) ≡ true)
    (timely : (turn : ℕ) (xs : List Timed) → list_all (is_before turn) xs ≡ true → list_all (is_before turn) (f xs) ≡ true) where
  pub line-each : (rows : Rows) → in_turn (each_row f rows) ≡ f (in_turn rows)
  line-each rows = ap (λ ts. onto ts []) (all_of-each f nothing splits rows) ∙ sym (in_place (all_of rows))

  own-each : (rows : Rows) → list_all holds_own rows ≡ true → list_all holds_own (each_row f rows) ≡ true
  own-each [] own = refl
  own-each (e ∷ rows) own =
      both (holds_own (e.0, f e.1)) (list_all holds_own (each_row f rows)) (owned e.0 e.1 (both_left (holds_own e) (list_all holds_own rows) own))
      (own-each rows (both_right (holds_own e) (list_all holds_own rows) own))

  pub are_rows-each : (rows : Rows) (turn : ℕ) → AreRows rows turn → AreRows (each_row f rows) turn
  are_rows-each rows turn h = record {
    own = own-each rows h.own;
    in_order = λ job. row_of-each f nothing rows job ∙ ap f (h.in_order job) ∙ apart job (in_turn rows) ∙ ap (filter (is_timed_of job)) (sym (line-each rows));
    turns = ap (list_all (is_before turn)) (all_of-each f nothing splits rows) ∙ timely turn (all_of rows) h.turns;
  }

-- ---- one work

abbrev pub timed_at : JobNo → ℕ → Timed → Bool
timed_at job number t = is_at job number t.work

abbrev pub stays : JobNo → ℕ → Timed → Bool
stays job number t = not (timed_at job number t)

abbrev pub timed_mark : JobNo → ℕ → Timed → Timed
timed_mark job number t = if timed_at job number t then record t { work = taken t.work } else t

abbrev works : List Timed → List Queued
works ts = map (λ t. t.work) ts

map_alike : {X Y : Type 0} (p : X → Bool) (f g : X → Y) → ((x : X) → p x ≡ true → f x ≡ g x) → (xs : List X) → list_all p xs ≡ true → map f xs ≡ map g xs
map_alike p f g h [] a = refl
map_alike p f g h (x ∷ xs) a = λ i. h x (both_left (p x) (list_all p xs) a) i ∷ map_alike p f g h xs (both_right (p x) (list_all p xs) a) i

filter_alike : {X : Type 0} (p q r : X → Bool) → ((x : X) → p x ≡ true → q x ≡ r x) → (xs : List X) → list_all p xs ≡ true → filter q xs ≡ filter r xs
filter_alike p q r h [] a = refl
filter_alike p q r h (x ∷ xs) a =
    λ i. cond (h x (both_left (p x) (list_all p xs) a) i) (x ∷ filter_alike p q r h xs (both_right (p x) (list_all p xs) a) i) (filter_alike p q r h xs (both_right (p x) (list_all p xs) a) i)

map_map : {X Y Z : Type 0} (g : Y → Z) (f : X → Y) (xs : List X) → map g (map f xs) ≡ map (λ x. g (f x)) xs
map_map g f [] = refl
map_map g f (x ∷ xs) = ap (λ r. g (f x) ∷ r) (map_map g f xs)

length_map : {X Y : Type 0} (f : X → Y) (xs : List X) → length (map f xs) ≡ length xs
length_map f [] = refl
length_map f (x ∷ xs) = ap (λ n. suc n) (length_map f xs)

find_map : {X Y : Type 0} (g : X → Y) (p : Y → Bool) (xs : List X) → find p (map g xs) ≡ option_map g (find (λ x. p (g x)) xs)
find_map g p [] = refl
find_map g p (x ∷ xs) = elim (p (g x)) as (λ b. cond b (Some (g x)) (find p (map g xs)) ≡ option_map g (cond b (Some x) (find (λ x. p (g x)) xs))) [
  | true ↦ refl
  | false ↦ find_map g p xs
]

find_both : {X : Type 0} (p q : X → Bool) (xs : List X) → find (λ x. p x && q x) xs ≡ find q (filter p xs)
find_both p q [] = refl
find_both p q (x ∷ xs) = elim (p x) as (λ b. cond (b && q x) (Some x) (find (λ x. p x && q x) xs) ≡ find q (cond b (x ∷ filter p xs) (filter p xs))) [
  | true ↦ ap (λ r. cond (q x) (Some x) r) (find_both p q xs)
  | false ↦ find_both p q xs
]

other_number : (a b c : ℕ) → (a == b) ≡ false → (b == c) ≡ true → (a == c) ≡ false
other_number a b c h k = grind (arith, nat_tests)

same_number : (a b c : ℕ) → (a == b) ≡ true → (b == c) ≡ true → (a == c) ≡ true
same_number a b c h k = grind (arith, nat_tests)

and_false : (a b : Bool) → a ≡ false → (a && b) ≡ false
and_false a b h = ap (λ x. x && b) h

module _ (job : JobNo) (number : ℕ) where
  -- the job's own are all at the job
  own_at : (t : Timed) → is_timed_of job t ≡ true → has_number number t ≡ timed_at job number t
  own_at t h = sym (ap (λ b. b && has_number number t) h)

  -- another job's isn't
  not_at : (k : JobNo) (t : Timed) → same_work_job job k ≡ false → is_timed_of k t ≡ true → timed_at job number t ≡ false
  not_at k t apart of = and_false (is_timed_of job t) (has_number number t) (other_number job.0 k.0 t.work.asked.job.0 apart of)

  mark_turn : (t : Timed) → (timed_mark job number t).turn ≡ t.turn
  mark_turn t = elim (timed_at job number t) as (λ b. (if b then record t { work = taken t.work } else t).turn ≡ t.turn) [ true ↦ refl | false ↦ refl ]

  mark_job : (k : JobNo) (t : Timed) → is_timed_of k (timed_mark job number t) ≡ is_timed_of k t
  mark_job k t = elim (timed_at job number t) as (λ b. is_timed_of k (if b then record t { work = taken t.work } else t) ≡ is_timed_of k t) [ true ↦ refl | false ↦ refl ]

  mark_work : (t : Timed) → (timed_mark job number t).work ≡ marked_at job number t.work
  mark_work t = elim (timed_at job number t) as (λ b. (if b then record t { work = taken t.work } else t).work ≡ (if b then taken t.work else t.work)) [ true ↦ refl | false ↦ refl ]

  mark_before : (turn : ℕ) (t : Timed) → is_before turn t ≡ true → is_before turn (timed_mark job number t) ≡ true
  mark_before turn t h = ap (λ n. nat_lt n turn) (mark_turn t) ∙ h

  module _ (rows : Rows) (turn : ℕ) (h : AreRows rows turn) where
    own_row : list_all (is_timed_of job) (row_of rows job) ≡ true
    own_row = ap (list_all (is_timed_of job)) (h.in_order job) ∙ all_passing (is_timed_of job) (in_turn rows)

    part_is : filter (is_of job) (works_in rows) ≡ works (row_of rows job)
    part_is = filter_map (λ (t : Timed). t.work) (is_of job) (in_turn rows) ∙ ap works (sym (h.in_order job))

    -- what they ask
    pub asked_is : map (λ (t : Timed). t.work.asked) (row_of rows job) ≡ map (λ (w : Queued). w.asked) (filter (is_of job) (works_in rows))
    asked_is = each (row_of rows job) ∙ sym (ap (map (λ (w : Queued). w.asked)) part_is)
      where
        each : (ts : List Timed) → map (λ (t : Timed). t.work.asked) ts ≡ map (λ (w : Queued). w.asked) (works ts)
        each [] = refl
        each (t ∷ ts) = ap (λ r. t.work.asked ∷ r) (each ts)

    pub count_is : length (row_of rows job) ≡ length (filter (is_of job) (works_in rows))
    count_is = sym (length_map (λ (t : Timed). t.work) (row_of rows job)) ∙ sym (ap length part_is)

    pub taken_is : length (filter (λ (t : Timed). t.work.taken) (row_of rows job)) ≡ length (filter (λ (w : Queued). w.taken) (filter (is_of job) (works_in rows)))
    taken_is =
        sym (length_map (λ (t : Timed). t.work) (filter (λ (t : Timed). t.work.taken) (row_of rows job)))
        ∙ sym (ap length (filter_map (λ (t : Timed). t.work) (λ (w : Queued). w.taken) (row_of rows job)))
        ∙ sym (ap (λ ws. length (filter (λ (w : Queued). w.taken) ws)) part_is)

    pub work_is : option_map (λ (t : Timed). t.work) (find (has_number number) (row_of rows job)) ≡ find (is_at job number) (works_in rows)
    work_is =
        ap (λ r. option_map (λ (t : Timed). t.work) (find (has_number number) r)) (h.in_order job)
        ∙ sym (ap (option_map (λ (t : Timed). t.work)) (find_both (is_timed_of job) (has_number number) (in_turn rows)))
        ∙ sym (find_map (λ (t : Timed). t.work) (is_at job number) (in_turn rows))

    -- a job without a row has no works
    none_at : row_of rows job ≡ [] → list_all (λ t. not (timed_at job number t)) (in_turn rows) ≡ true
    none_at none = absent (in_turn rows) (sym (h.in_order job) ∙ none)
      where
        absent : (ts : List Timed) → filter (is_timed_of job) ts ≡ [] → list_all (λ t. not (timed_at job number t)) ts ≡ true
        absent [] e = refl
        absent (t ∷ ts) e =
            (elim (is_timed_of job t) as (λ b. cond b (t ∷ filter (is_timed_of job) ts) (filter (is_timed_of job) ts) ≡ [] → (not (b && has_number number t) && list_all (λ t. not (timed_at job number t)) ts) ≡ true) [
              | true ↦ λ e. absurd cc
              | false ↦ λ e. absent ts e
            ]) e

    module _ (distinct : IsDistinct same_work_job (keys_of rows)) (row new : List Timed) (had : lookup (same_work_job job) rows ≡ Some row) where
      row_is : row_of rows job ≡ row
      row_is = ap (λ o. unwrap_or o []) had

      abbrev marks : List Timed → List Timed
      marks ts = map (timed_mark job number) ts

      abbrev keeps : List Timed → List Timed
      keeps ts = filter (stays job number) ts

      marks_job : (k : JobNo) (xs : List Timed) → list_all (is_timed_of k) xs ≡ true → list_all (is_timed_of k) (marks xs) ≡ true
      marks_job k xs a = all_map (timed_mark job number) (is_timed_of k) xs ∙ all_weaker (is_timed_of k) (λ t. is_timed_of k (timed_mark job number t)) (λ t e. mark_job k t ∙ e) xs a

      marks_turn : (n : ℕ) (xs : List Timed) → list_all (is_before n) xs ≡ true → list_all (is_before n) (marks xs) ≡ true
      marks_turn n xs a = all_map (timed_mark job number) (is_before n) xs ∙ all_weaker (is_before n) (λ t. is_before n (timed_mark job number t)) (mark_before n) xs a

      marks_others : (e : JobNo × List Timed) → same_work_job job e.0 ≡ false → holds_own e ≡ true → marks e.1 ≡ e.1
      marks_others e apart own =
          unchanged (timed_at job number) (timed_mark job number) (λ t none. ap (λ b. if b then record t { work = taken t.work } else t) none) e.1
          (all_weaker (is_timed_of e.0) (λ t. not (timed_at job number t)) (λ t of. ap not (not_at e.0 t apart of)) e.1 own)

      keeps_others : (e : JobNo × List Timed) → same_work_job job e.0 ≡ false → holds_own e ≡ true → keeps e.1 ≡ e.1
      keeps_others e apart own =
          filter_of_all (stays job number) e.1 (all_weaker (is_timed_of e.0) (stays job number) (λ t of. ap not (not_at e.0 t apart of)) e.1 own)

      marked_rows : new ≡ map (with_mark number) row → set_value (same_work_job job) rows new ≡ each_row marks rows
      marked_rows e =
          ap (set_value (same_work_job job) rows)
          (e ∙ map_alike (is_timed_of job) (with_mark number) (timed_mark job number) (λ t of. ap (λ b. if b then record t { work = taken t.work } else t) (own_at t of)) row
          (ap (list_all (is_timed_of job)) (sym row_is) ∙ own_row))
          ∙ set_each job marks marks_others rows row distinct h.own had

      kept_rows : new ≡ filter (λ t. not (has_number number t)) row → set_value (same_work_job job) rows new ≡ each_row keeps rows
      kept_rows e =
          ap (set_value (same_work_job job) rows)
          (e ∙ filter_alike (is_timed_of job) (λ t. not (has_number number t)) (stays job number) (λ t of. ap not (own_at t of)) row
          (ap (list_all (is_timed_of job)) (sym row_is) ∙ own_row))
          ∙ set_each job keeps keeps_others rows row distinct h.own had

      pub mark_kept : new ≡ map (with_mark number) row → AreRows (set_value (same_work_job job) rows new) turn
      mark_kept e =
          subst (λ r. AreRows r turn) (sym (marked_rows e))
          (are_rows-each marks refl (map-append (timed_mark job number)) (λ ts. map_onto (timed_mark job number) mark_turn ts []) (λ k xs. sym (filter_changed (is_timed_of k) (timed_mark job number) (mark_job k) xs)) marks_job marks_turn rows turn h)

      pub mark_is : new ≡ map (with_mark number) row → works_in (set_value (same_work_job job) rows new) ≡ map (marked_at job number) (works_in rows)
      mark_is e =
          ap works_in (marked_rows e)
          ∙ ap works (line-each marks refl (map-append (timed_mark job number)) (λ ts. map_onto (timed_mark job number) mark_turn ts []) (λ k xs. sym (filter_changed (is_timed_of k) (timed_mark job number) (mark_job k) xs)) marks_job marks_turn rows)
          ∙ map_map (λ (t : Timed). t.work) (timed_mark job number) (in_turn rows)
          ∙ (λ i. map (λ t. mark_work t i) (in_turn rows))
          ∙ sym (map_map (marked_at job number) (λ (t : Timed). t.work) (in_turn rows))

      pub out_kept : new ≡ filter (λ t. not (has_number number t)) row → AreRows (set_value (same_work_job job) rows new) turn
      out_kept e =
          subst (λ r. AreRows r turn) (sym (kept_rows e))
          (are_rows-each keeps refl (filter_append (stays job number)) (λ ts. filter_onto (stays job number) ts [] refl) (λ k xs. filter_swap (stays job number) (is_timed_of k) xs)
          (λ k xs a. all_filter (is_timed_of k) (stays job number) xs a) (λ n xs a. all_filter (is_before n) (stays job number) xs a) rows turn h)

      pub out_is : new ≡ filter (λ t. not (has_number number t)) row → works_in (set_value (same_work_job job) rows new) ≡ filter (λ w. not (is_at job number w)) (works_in rows)
      out_is e =
          ap works_in (kept_rows e)
          ∙ ap works (line-each keeps refl (filter_append (stays job number)) (λ ts. filter_onto (stays job number) ts [] refl) (λ k xs. filter_swap (stays job number) (is_timed_of k) xs)
          (λ k xs a. all_filter (is_timed_of k) (stays job number) xs a) (λ n xs a. all_filter (is_before n) (stays job number) xs a) rows)
          ∙ sym (filter_map (λ (t : Timed). t.work) (λ w. not (is_at job number w)) (in_turn rows))

    -- if there is no row
    pub no_mark : row_of rows job ≡ [] → works_in rows ≡ map (marked_at job number) (works_in rows)
    no_mark none = sym (unchanged (is_at job number) (marked_at job number) (λ w miss. ap (λ b. if b then taken w else w) miss) (works_in rows)
        (all_map (λ (t : Timed). t.work) (λ w. not (is_at job number w)) (in_turn rows) ∙ none_at none))

    pub none_out : row_of rows job ≡ [] → works_in rows ≡ filter (λ w. not (is_at job number w)) (works_in rows)
    none_out none = sym (filter_of_all (λ w. not (is_at job number w)) (works_in rows) (all_map (λ (t : Timed). t.work) (λ w. not (is_at job number w)) (in_turn rows) ∙ none_at none))

-- ---- a row that leaves, and one that comes

module _ (job : JobNo) where
  abbrev foreign : Timed → Bool
  foreign t = not (is_timed_of job t)

  is_foreign : (k : JobNo) (t : Timed) → same_work_job job k ≡ false → is_timed_of k t ≡ true → foreign t ≡ true
  is_foreign k t apart of = ap not (other_number job.0 k.0 t.work.asked.job.0 apart of)

  is_own : (k : JobNo) (t : Timed) → same_work_job job k ≡ true → is_timed_of k t ≡ true → not (foreign t) ≡ true
  is_own k t same of = ap (λ b. not (not b)) (same_number job.0 k.0 t.work.asked.job.0 same of)

  stay_all : (rows : Rows) → list_all holds_own rows ≡ true → AllByRecursion (λ y. same_work_job job y ≡ false) (keys_of rows) → filter foreign (all_of rows) ≡ all_of rows
  stay_all [] own none = refl
  stay_all (e ∷ rows) own none =
      filter_append foreign e.1 (all_of rows)
      ∙ (λ i. filter_of_all foreign e.1 (all_weaker (is_timed_of e.0) foreign (λ t of. is_foreign e.0 t none.0 of) e.1 (both_left (holds_own e) (list_all holds_own rows) own)) i
      ++ stay_all rows (both_right (holds_own e) (list_all holds_own rows) own) none.1 i)

  all_of-removed : (rows : Rows) → IsDistinct same_work_job (keys_of rows) → list_all holds_own rows ≡ true → all_of (remove_entry (same_work_job job) rows) ≡ filter foreign (all_of rows)
  all_of-removed [] distinct own = refl
  all_of-removed (e ∷ rows) distinct own =
      let own_here = both_left (holds_own e) (list_all holds_own rows) own in
      let own_rest = both_right (holds_own e) (list_all holds_own rows) own in
      (elim (same_work_job job e.0) as (λ b. same_work_job job e.0 ≡ b → all_of (cond b rows (e ∷ remove_entry (same_work_job job) rows)) ≡ filter foreign (e.1 ++ all_of rows)) [
        | true ↦ λ t.
            sym (stay_all rows own_rest (apart_from job (λ x. x) (λ e _ _. refl) e.0 (keys_of rows) t (IsDistinct-head same_work_job e.0 (keys_of rows) distinct)))
            ∙ ap (λ xs. xs ++ filter foreign (all_of rows)) (sym (filter_of_none foreign e.1 (all_weaker (is_timed_of e.0) (λ x. not (foreign x)) (λ x of. is_own e.0 x t of) e.1 own_here)))
            ∙ sym (filter_append foreign e.1 (all_of rows))
        | false ↦ λ t.
            (λ i. sym (filter_of_all foreign e.1 (all_weaker (is_timed_of e.0) foreign (λ x of. is_foreign e.0 x t of) e.1 own_here)) i
            ++ all_of-removed rows (IsDistinct-tail same_work_job e.0 (keys_of rows) distinct) own_rest i)
            ∙ sym (filter_append foreign e.1 (all_of rows))
      ]) refl

  own-removed : (rows : Rows) → list_all holds_own rows ≡ true → list_all holds_own (remove_entry (same_work_job job) rows) ≡ true
  own-removed [] own = refl
  own-removed (e ∷ rows) own =
      let own_rest = both_right (holds_own e) (list_all holds_own rows) own in
      elim (same_work_job job e.0) as (λ b. list_all holds_own (cond b rows (e ∷ remove_entry (same_work_job job) rows)) ≡ true) [
        | true ↦ own_rest
        | false ↦ both (holds_own e) (list_all holds_own (remove_entry (same_work_job job) rows)) (both_left (holds_own e) (list_all holds_own rows) own) (own-removed rows own_rest)
      ]

  module _ (rows : Rows) (turn : ℕ) (h : AreRows rows turn) where
    module _ (distinct : IsDistinct same_work_job (keys_of rows)) where
      abbrev left : Rows
      left = remove_entry (same_work_job job) rows

      line_left : in_turn left ≡ filter foreign (in_turn rows)
      line_left = ap (λ ts. onto ts []) (all_of-removed rows distinct h.own) ∙ sym (filter_onto foreign (all_of rows) [] refl)

      row_left : (k : JobNo) → row_of left k ≡ filter (is_timed_of k) (in_turn left)
      row_left k =
          ap (λ o. unwrap_or o []) (lookup-remove_entry same_job_equiv (same_work_job job) (same_job_equiv.congr job) k rows distinct)
          ∙ (elim (same_work_job job k) as (λ b. same_work_job job k ≡ b → unwrap_or (cond b None (lookup (same_work_job k) rows)) [] ≡ filter (is_timed_of k) (filter foreign (in_turn rows))) [
            | true ↦ λ same. sym (filter_of_none (is_timed_of k) (filter foreign (in_turn rows))
                (all_weaker foreign (λ t. not (is_timed_of k t)) (λ t f. not_own k t same f) (filter foreign (in_turn rows)) (all_passing foreign (in_turn rows))))
            | false ↦ λ apart. h.in_order k ∙ sym (filter_within (is_timed_of k) foreign (λ t of. is_foreign k t apart of) (in_turn rows)) ∙ sym (filter_swap (is_timed_of k) foreign (in_turn rows))
          ]) refl
          ∙ ap (filter (is_timed_of k)) (sym line_left)
        where
          not_own : (k : JobNo) (t : Timed) → same_work_job job k ≡ true → foreign t ≡ true → not (is_timed_of k t) ≡ true
          not_own k t same f = numbers job.0 k.0 t.work.asked.job.0 same f
            where
              numbers : (a b c : ℕ) → (a == b) ≡ true → not (a == c) ≡ true → not (b == c) ≡ true
              numbers a b c x y = grind (arith, nat_tests)

      pub removed_kept : AreRows left turn
      removed_kept = record {
        own = own-removed rows h.own;
        in_order = row_left;
        turns = ap (list_all (is_before turn)) (all_of-removed rows distinct h.own) ∙ all_filter (is_before turn) foreign (all_of rows) h.turns;
      }

      pub removed_is : works_in left ≡ filter (λ w. not (is_of job w)) (works_in rows)
      removed_is = ap works line_left ∙ sym (filter_map (λ (t : Timed). t.work) (λ w. not (is_of job w)) (in_turn rows))

    -- a row that has nothing
    module _ (none : lookup (same_work_job job) rows ≡ None) where
      abbrev more : Rows
      more = rows ++ (job, []) ∷ []

      all_of-more : (rs : Rows) → all_of (rs ++ (job, []) ∷ []) ≡ all_of rs
      all_of-more [] = refl
      all_of-more (e ∷ rs) = ap (λ r. e.1 ++ r) (all_of-more rs)

      own-more : (rs : Rows) → list_all holds_own rs ≡ true → list_all holds_own (rs ++ (job, []) ∷ []) ≡ true
      own-more rs own = all_append holds_own rs ((job, []) ∷ []) ∙ both (list_all holds_own rs) true own refl

      row_of-more : (k : JobNo) (rs : Rows) → row_of (rs ++ (job, []) ∷ []) k ≡ row_of rs k
      row_of-more k [] = elim (same_work_job k job) as (λ b. unwrap_or {T = List Timed} (cond b (Some []) None) [] ≡ []) [ true ↦ refl | false ↦ refl ]
      row_of-more k (e ∷ rs) = elim (same_work_job k e.0) as (λ b. unwrap_or (cond b (Some e.1) (lookup (same_work_job k) (rs ++ (job, []) ∷ []))) [] ≡ unwrap_or (cond b (Some e.1) (lookup (same_work_job k) rs)) []) [
        | true ↦ refl
        | false ↦ row_of-more k rs
      ]

      pub entered_kept : AreRows more turn
      entered_kept = record {
        own = own-more rows h.own;
        in_order = λ k. row_of-more k rows ∙ h.in_order k ∙ ap (λ ts. filter (is_timed_of k) (onto ts [])) (sym (all_of-more rows));
        turns = ap (list_all (is_before turn)) (all_of-more rows) ∙ h.turns;
      }

      pub entered_is : works_in more ≡ works_in rows
      entered_is = ap (λ ts. works (onto ts [])) (all_of-more rows)

    pub row_kept : AreRows (with_row job rows) turn
    row_kept =
        (elim (lookup (same_work_job job) rows) as (λ o. lookup (same_work_job job) rows ≡ o → AreRows (if is_some o then rows else rows ++ (job, []) ∷ []) turn) [
          | Some row ↦ λ e. h
          | None ↦ λ e. entered_kept e
        ]) refl

    pub row_unseen : works_in (with_row job rows) ≡ works_in rows
    row_unseen =
        (elim (lookup (same_work_job job) rows) as (λ o. lookup (same_work_job job) rows ≡ o → works_in (if is_some o then rows else rows ++ (job, []) ∷ []) ≡ works_in rows) [
          | Some row ↦ λ e. refl
          | None ↦ λ e. entered_is e
        ]) refl

  pub row_there : (rows : Rows) → lookup (same_work_job job) (with_row job rows) ≡ None → ⊥
  row_there rows =
      (elim (lookup (same_work_job job) rows) as (λ o. lookup (same_work_job job) rows ≡ o → lookup (same_work_job job) (if is_some o then rows else rows ++ (job, []) ∷ []) ≡ None → ⊥) [
        | Some row ↦ λ e none. let both_ways = sym e ∙ none in cc
        | None ↦ λ e. last rows
      ]) refl
    where
      last : (rs : Rows) → lookup (same_work_job job) (rs ++ (job, []) ∷ []) ≡ None → ⊥
      last [] none = let hit = ap (λ b. cond b (Some (list_of [])) None) (sym (itself job)) ∙ none in cc
      last (r ∷ rs) none =
          (elim (same_work_job job r.0) as (λ b. cond b (Some r.1) (lookup (same_work_job job) (rs ++ (job, []) ∷ [])) ≡ None → ⊥) [
            | true ↦ λ e. cc
            | false ↦ λ e. last rs e
          ]) none

-- ---- more works of a job

module _ (job : JobNo) (kind : WorkKind) where
  timed_own : (last turn : ℕ) (ids : List ObjectId) → list_all (is_timed_of job) (timed job kind last turn ids) ≡ true
  timed_own last turn [] = refl
  timed_own last turn (id ∷ ids) = both (same_work_job job job) (list_all (is_timed_of job) (timed job kind (last + 1) (turn + 1) ids)) (itself job) (timed_own (last + 1) (turn + 1) ids)

  timed_works : (last turn : ℕ) (ids : List ObjectId) → works (timed job kind last turn ids) ≡ numbered job kind last ids
  timed_works last turn [] = refl
  timed_works last turn (id ∷ ids) = ap (λ r. record { asked = record { job = job; number = last + 1; id = id; kind = kind }; taken = false } ∷ r) (timed_works (last + 1) (turn + 1) ids)

  timed_before : (last turn : ℕ) (ids : List ObjectId) → list_all (is_before (turn + length ids)) (timed job kind last turn ids) ≡ true
  timed_before last turn [] = refl
  timed_before last turn (id ∷ ids) =
      both (nat_lt turn (turn + suc (length ids))) (list_all (is_before (turn + suc (length ids))) (timed job kind (last + 1) (turn + 1) ids)) (first turn (length ids))
      (subst (λ n. list_all (is_before n) (timed job kind (last + 1) (turn + 1) ids) ≡ true) (on turn (length ids)) (timed_before (last + 1) (turn + 1) ids))
    where
      first : (a n : ℕ) → nat_lt a (a + suc n) ≡ true
      first a n = grind (arith, nat_tests)

      on : (a n : ℕ) → a + 1 + n ≡ a + suc n
      on a n = omega arith

  module _ (last turn : ℕ) (ids : List ObjectId) where
    abbrev ms : List Timed
    ms = timed job kind last turn ids

    abbrev with_more : Rows → List Timed → Rows
    with_more rows row = set_value (same_work_job job) rows (row ++ ms)

    before_left : (e : JobNo × List Timed) (rows : Rows) → list_all (is_before turn) (e.1 ++ all_of rows) ≡ true → (list_all (is_before turn) e.1 ≡ true) × (list_all (is_before turn) (all_of rows) ≡ true)
    before_left e rows a =
        let b = sym (all_append (is_before turn) e.1 (all_of rows)) ∙ a in
        (both_left (list_all (is_before turn) e.1) (list_all (is_before turn) (all_of rows)) b, both_right (list_all (is_before turn) e.1) (list_all (is_before turn) (all_of rows)) b)

    line_more : (rows : Rows) (row : List Timed) → lookup (same_work_job job) rows ≡ Some row → list_all (is_before turn) (all_of rows) ≡ true → in_turn (with_more rows row) ≡ in_turn rows ++ ms
    line_more [] row had a = absurd cc
    line_more (e ∷ rows) row had a =
        let here = (before_left e rows a).0 in
        let rest = (before_left e rows a).1 in
        (elim (same_work_job job e.0) as (λ b. cond b (Some e.1) (lookup (same_work_job job) rows) ≡ Some row
        → in_turn (cond b ((e.0, row ++ ms) ∷ rows) (e ∷ set_value (same_work_job job) rows (row ++ ms))) ≡ in_turn (e ∷ rows) ++ ms) [
          | true ↦ λ at.
              ap (λ r. in_turn ((e.0, r ++ ms) ∷ rows)) (sym (some_value e.1 row at))
              ∙ onto_append (e.1 ++ ms) (all_of rows) []
              ∙ onto_append e.1 ms (in_turn rows)
              ∙ ap (onto e.1) (onto_timed job kind last turn ids (in_turn rows) (all_onto (is_before turn) (all_of rows) [] rest refl))
              ∙ onto_before turn e.1 (in_turn rows) ms here (timed_from job kind last turn ids)
              ∙ ap (λ r. r ++ ms) (sym (onto_append e.1 (all_of rows) []))
          | false ↦ λ at.
              onto_append e.1 (all_of (with_more rows row)) []
              ∙ ap (onto e.1) (line_more rows row at rest)
              ∙ onto_before turn e.1 (in_turn rows) ms here (timed_from job kind last turn ids)
              ∙ ap (λ r. r ++ ms) (sym (onto_append e.1 (all_of rows) []))
        ]) had

    own_more : (rows : Rows) (row : List Timed) → lookup (same_work_job job) rows ≡ Some row → list_all holds_own rows ≡ true → list_all holds_own (with_more rows row) ≡ true
    own_more [] row had own = refl
    own_more (e ∷ rows) row had own =
        let own_here = both_left (holds_own e) (list_all holds_own rows) own in
        let own_rest = both_right (holds_own e) (list_all holds_own rows) own in
        (elim (same_work_job job e.0) as (λ b. same_work_job job e.0 ≡ b → cond b (Some e.1) (lookup (same_work_job job) rows) ≡ Some row
        → list_all holds_own (cond b ((e.0, row ++ ms) ∷ rows) (e ∷ set_value (same_work_job job) rows (row ++ ms))) ≡ true) [
          | true ↦ λ t at.
              both (list_all (is_timed_of e.0) (row ++ ms)) (list_all holds_own rows)
              (all_append (is_timed_of e.0) row ms
              ∙ both (list_all (is_timed_of e.0) row) (list_all (is_timed_of e.0) ms) (ap (list_all (is_timed_of e.0)) (sym (some_value e.1 row at)) ∙ own_here)
              (all_weaker (is_timed_of job) (is_timed_of e.0) (λ x of. same_number e.0.0 job.0 x.work.asked.job.0 (back job.0 e.0.0 t) of) ms (timed_own last turn ids))) own_rest
          | false ↦ λ t at. both (holds_own e) (list_all holds_own (with_more rows row)) own_here (own_more rows row at own_rest)
        ]) refl had
      where
        back : (a b : ℕ) → (a == b) ≡ true → (b == a) ≡ true
        back a b h = grind (arith, nat_tests)

    all_before : (rows : Rows) (row : List Timed) → lookup (same_work_job job) rows ≡ Some row → list_all (is_before turn) (all_of rows) ≡ true
        → list_all (is_before (turn + length ids)) (all_of (with_more rows row)) ≡ true
    all_before [] row had a = refl
    all_before (e ∷ rows) row had a =
        let here = weaker e.1 (before_left e rows a).0 in
        let rest = (before_left e rows a).1 in
        let p = is_before (turn + length ids) in
        (elim (same_work_job job e.0) as (λ b. cond b (Some e.1) (lookup (same_work_job job) rows) ≡ Some row
        → list_all p (all_of (cond b ((e.0, row ++ ms) ∷ rows) (e ∷ set_value (same_work_job job) rows (row ++ ms)))) ≡ true) [
          | true ↦ λ at.
              all_append p (row ++ ms) (all_of rows)
              ∙ both (list_all p (row ++ ms)) (list_all p (all_of rows))
              (all_append p row ms ∙ both (list_all p row) (list_all p ms) (ap (list_all p) (sym (some_value e.1 row at)) ∙ here) (timed_before last turn ids)) (weaker (all_of rows) rest)
          | false ↦ λ at. all_append p e.1 (all_of (with_more rows row)) ∙ both (list_all p e.1) (list_all p (all_of (with_more rows row))) here (all_before rows row at rest)
        ]) had
      where
        on : (a t n : ℕ) → nat_lt a t ≡ true → nat_lt a (t + n) ≡ true
        on a t n h = grind (arith, nat_tests)

        weaker : (xs : List Timed) → list_all (is_before turn) xs ≡ true → list_all (is_before (turn + length ids)) xs ≡ true
        weaker xs a = all_weaker (is_before turn) (is_before (turn + length ids)) (λ t h. on t.turn turn (length ids) h) xs a

    module _ (rows : Rows) (row : List Timed) (had : lookup (same_work_job job) rows ≡ Some row) (h : AreRows rows turn) where
      row_more : (k : JobNo) → row_of (with_more rows row) k ≡ filter (is_timed_of k) (in_turn (with_more rows row))
      row_more k =
          ap (λ o. unwrap_or o []) (lookup-set_value same_job_equiv (same_work_job job) (same_job_equiv.congr job) k (row ++ ms) rows (some (lookup (same_work_job job) rows) had))
          ∙ (elim (same_work_job job k) as (λ b. same_work_job job k ≡ b → unwrap_or (cond b (Some (row ++ ms)) (lookup (same_work_job k) rows)) [] ≡ filter (is_timed_of k) (in_turn rows) ++ filter (is_timed_of k) ms) [
            | true ↦ λ same.
                let equal : job ≡ k = ap (λ n. record { 0 = n }) (numbers job.0 k.0 same) in
                (λ i. (sym (ap (λ o. unwrap_or o []) had) ∙ h.in_order job ∙ ap (λ j. filter (is_timed_of j) (in_turn rows)) equal) i
                ++ (sym (filter_of_all (is_timed_of job) ms (timed_own last turn ids)) ∙ ap (λ j. filter (is_timed_of j) ms) equal) i)
            | false ↦ λ apart.
                h.in_order k ∙ sym (append_nothing (filter (is_timed_of k) (in_turn rows)))
                ∙ ap (λ r. filter (is_timed_of k) (in_turn rows) ++ r) (sym (filter_of_none (is_timed_of k) ms
                (all_weaker (is_timed_of job) (λ t. not (is_timed_of k t)) (λ t of. ap not (other_number k.0 job.0 t.work.asked.job.0 (back job.0 k.0 apart) of)) ms (timed_own last turn ids))))
          ]) refl
          ∙ sym (ap (filter (is_timed_of k)) (line_more rows row had h.turns) ∙ filter_append (is_timed_of k) (in_turn rows) ms)
        where
          some : (o : Option (List Timed)) → o ≡ Some row → IsSome o
          some o e = rw e refl

          numbers : (a b : ℕ) → (a == b) ≡ true → a ≡ b
          numbers a b x = grind (arith, nat_tests)

          back : (a b : ℕ) → (a == b) ≡ false → (b == a) ≡ false
          back a b x = grind (arith, nat_tests)

      pub more_kept : AreRows (with_more rows row) (turn + length ids)
      more_kept = record {
        own = own_more rows row had h.own;
        in_order = row_more;
        turns = all_before rows row had h.turns;
      }

      pub more_is : works_in (with_more rows row) ≡ works_in rows ++ numbered job kind last ids
      more_is = ap works (line_more rows row had h.turns) ∙ map-append (λ (t : Timed). t.work) (in_turn rows) ms ∙ ap (λ r. works_in rows ++ r) (timed_works last turn ids)
