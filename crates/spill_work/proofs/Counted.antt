-- What a change of the line leaves of its numbers.
use Rattle.std.proofs.Common.{◌≡◌, ℕ, ◌+◌, ◌≤◌, zero, suc, Bool, true, false, not, cond, List, [], ◌∷◌, ◌++◌, map, filter, length, Option, Some, None, unwrap_or, refl, sym, ap, subst, ◌∙◌, arith}
use Rattle.std.specs.Prelude.{nat_le, ◌&&◌, ◌||◌, ◌==◌, if◌then◌else◌, OnOk, Ok}
use Rattle.std.specs.declared.result.Result.{Result}
use Rattle.std.specs.List.{list_all, list_any}
use Rattle.std.specs.Map.{lookup}
use Rattle.std.proofs.lemmas.Bool.Decides.{nat_tests}
use Rattle.obj_id.specs.declared.ids.JobNo.{JobNo}
use Rattle.obj_id.specs.declared.ids.ObjectId.{ObjectId}
use Rattle.obj_id.specs.declared.works.WorkKind.{WorkKind}
use Rattle.store_facts.proofs.Tests.{both, both_left, both_right, not_true, or_false_left, or_false_right, neither}
use Rattle.spill_work.specs.declared.queue.Queued.{Queued}
use Rattle.spill_work.specs.Line.{same_work_job, is_of, is_at, marked_taken, numbered}
use Rattle.spill_work.specs.Numbers.{last_number_of, AreFresh, entry_of, is_numbered, are_numbered, AreWorksNumbered}
use Rattle.spill_work.specs.Turns.{taken, marked_at}
use Rattle.spill_work.proofs.Filters.{filter_append, filter_swap, filter_within, filter_of_all, filter_of_none, all_weaker, all_passing, append_nothing, filter_changed}

-- ---- no two works of a job have one number

and_filter : {X : Type 0} (p q : X → Bool) (xs : List X) → filter (λ x. p x && q x) xs ≡ filter q (filter p xs)
and_filter p q [] = refl
and_filter p q (x ∷ xs) = elim (p x) as (λ b. cond (b && q x) (x ∷ filter (λ x. p x && q x) xs) (filter (λ x. p x && q x) xs) ≡ filter q (cond b (x ∷ filter p xs) (filter p xs))) [
  | true ↦ ap (λ r. cond (q x) (x ∷ r) r) (and_filter p q xs)
  | false ↦ and_filter p q xs
]

same_test : (a b c : ℕ) → (a == b) ≡ true → (c == a) ≡ (c == b)
same_test a b c h = grind (arith, nat_tests)

none_numbered : (a b : ℕ) → (a == b) ≡ true → (ws : List Queued) → list_any (is_numbered a) ws ≡ false → filter (is_numbered b) ws ≡ []
none_numbered a b same [] n = refl
none_numbered a b same (w ∷ ws) n =
    ap (λ t. cond t (w ∷ filter (is_numbered b) ws) (filter (is_numbered b) ws)) (sym (same_test a b w.asked.number same) ∙ or_false_left (is_numbered a w) (list_any (is_numbered a) ws) n)
    ∙ none_numbered a b same ws (or_false_right (is_numbered a w) (list_any (is_numbered a) ws) n)

one_number : (last number : ℕ) (ws : List Queued) → are_numbered last ws ≡ true → length (filter (is_numbered number) ws) ≤ 1
one_number last number [] h = omega arith
one_number last number (w ∷ ws) h =
    let head = both_left (nat_le w.asked.number last && not (list_any (is_numbered w.asked.number) ws)) (are_numbered last ws) h in
    let rest = one_number last number ws (both_right (nat_le w.asked.number last && not (list_any (is_numbered w.asked.number) ws)) (are_numbered last ws) h) in
    (elim (is_numbered number w) as (λ b. is_numbered number w ≡ b → length (cond b (w ∷ filter (is_numbered number) ws) (filter (is_numbered number) ws)) ≤ 1) [
      | true ↦ λ e.
          let none : length (filter (is_numbered number) ws) ≡ 0 =
          ap length (none_numbered w.asked.number number e ws (not_true (list_any (is_numbered w.asked.number) ws) (both_right (nat_le w.asked.number last) (not (list_any (is_numbered w.asked.number) ws)) head))) in
          omega arith
      | false ↦ λ e. rest
    ]) refl

module _ (works : List Queued) (used : List (JobNo × ℕ)) (h : AreWorksNumbered works used) where
  pub one_at : (job : JobNo) (number : ℕ) → length (filter (is_at job number) works) ≤ 1
  one_at job number = subst (λ ws. length ws ≤ 1) (sym (and_filter (is_of job) (is_numbered number) works)) (one_number (last_number_of used job) number (filter (is_of job) works) (h.numbers job))

pub from_ok : {T : Type 0} {E : Type 0} {P : Type 0} (r : Result T E) (x : T) → r ≡ Ok x → OnOk r P → P
from_ok {P = P} r x e h = subst (λ r. OnOk r P) e h

-- ---- a work is taken

module _ (job : JobNo) (number : ℕ) where
  unmarked : (ws : List Queued) → length (filter (is_at job number) ws) ≤ 0 → map (marked_at job number) ws ≡ ws
  unmarked [] h = refl
  unmarked (w ∷ ws) h =
      (elim (is_at job number w) as (λ b. length (cond b (w ∷ filter (is_at job number) ws) (filter (is_at job number) ws)) ≤ 0
      → (if b then taken w else w) ∷ map (marked_at job number) ws ≡ w ∷ ws) [
        | true ↦ λ e. absurd (omega arith)
        | false ↦ λ e. ap (λ r. w ∷ r) (unmarked ws e)
      ]) h

  -- the one and only
  pub marked_is : (ws : List Queued) → length (filter (is_at job number) ws) ≤ 1 → map (marked_at job number) ws ≡ marked_taken job number ws
  marked_is [] h = refl
  marked_is (w ∷ ws) h =
      (elim (is_at job number w) as (λ b. length (cond b (w ∷ filter (is_at job number) ws) (filter (is_at job number) ws)) ≤ 1
      → (if b then taken w else w) ∷ map (marked_at job number) ws ≡ (if b then record w { taken = true } ∷ ws else w ∷ marked_taken job number ws)) [
        | true ↦ λ e. ap (λ r. taken w ∷ r) (unmarked ws (less (filter (is_at job number) ws) e))
        | false ↦ λ e. ap (λ r. w ∷ r) (marked_is ws e)
      ]) h
    where
      less : (ys : List Queued) → length (w ∷ ys) ≤ 1 → length ys ≤ 0
      less ys h = omega arith

  mark_asked : (w : Queued) → (marked_at job number w).asked ≡ w.asked
  mark_asked w = elim (is_at job number w) as (λ b. (if b then taken w else w).asked ≡ w.asked) [ true ↦ refl | false ↦ refl ]

  any_marked : (n : ℕ) (ws : List Queued) → list_any (is_numbered n) (map (marked_at job number) ws) ≡ list_any (is_numbered n) ws
  any_marked n [] = refl
  any_marked n (w ∷ ws) = λ i. (mark_asked w i).number == n || any_marked n ws i

  numbered_marked : (last : ℕ) (ws : List Queued) → are_numbered last (map (marked_at job number) ws) ≡ are_numbered last ws
  numbered_marked last [] = refl
  numbered_marked last (w ∷ ws) =
      (λ i. (nat_le (mark_asked w i).number last && not (any_marked (mark_asked w i).number ws i)) && numbered_marked last ws i)

  pub marked_kept : (works : List Queued) (used : List (JobNo × ℕ)) → AreWorksNumbered works used → AreWorksNumbered (map (marked_at job number) works) used
  marked_kept works used h = record {
    numbers = λ k. ap (are_numbered (last_number_of used k)) (filter_changed (is_of k) (marked_at job number) (λ w. ap (λ a. same_work_job k a.job) (mark_asked w)) works)
        ∙ numbered_marked (last_number_of used k) (filter (is_of k) works) ∙ h.numbers k;
    fresh = h.fresh;
  }

-- ---- works leave

any_filter : (n : ℕ) (p : Queued → Bool) (ws : List Queued) → list_any (is_numbered n) ws ≡ false → list_any (is_numbered n) (filter p ws) ≡ false
any_filter n p [] h = refl
any_filter n p (w ∷ ws) h =
    let rest = any_filter n p ws (or_false_right (is_numbered n w) (list_any (is_numbered n) ws) h) in
    elim (p w) as (λ b. list_any (is_numbered n) (cond b (w ∷ filter p ws) (filter p ws)) ≡ false) [
      | true ↦ neither (is_numbered n w) (list_any (is_numbered n) (filter p ws)) (or_false_left (is_numbered n w) (list_any (is_numbered n) ws) h) rest
      | false ↦ rest
    ]

numbered_filter : (last : ℕ) (p : Queued → Bool) (ws : List Queued) → are_numbered last ws ≡ true → are_numbered last (filter p ws) ≡ true
numbered_filter last p [] h = refl
numbered_filter last p (w ∷ ws) h =
    let own = nat_le w.asked.number last in
    let others = list_any (is_numbered w.asked.number) ws in
    let head = both_left (own && not others) (are_numbered last ws) h in
    let rest = numbered_filter last p ws (both_right (own && not others) (are_numbered last ws) h) in
    let left = list_any (is_numbered w.asked.number) (filter p ws) in
    elim (p w) as (λ b. are_numbered last (cond b (w ∷ filter p ws) (filter p ws)) ≡ true) [
      | true ↦ both (own && not left) (are_numbered last (filter p ws))
          (both own (not left) (both_left own (not others) head) (ap not (any_filter w.asked.number p ws (not_true others (both_right own (not others) head))))) rest
      | false ↦ rest
    ]

pub finished_kept : (job : JobNo) (number : ℕ) (works : List Queued) (used : List (JobNo × ℕ)) → AreWorksNumbered works used → AreWorksNumbered (filter (λ w. not (is_at job number w)) works) used
finished_kept job number works used h = record {
  numbers = λ k. ap (are_numbered (last_number_of used k)) (filter_swap (is_of k) (λ w. not (is_at job number w)) works)
      ∙ numbered_filter (last_number_of used k) (λ w. not (is_at job number w)) (filter (is_of k) works) (h.numbers k);
  fresh = h.fresh;
}

-- ---- the numbers used

equal_numbers : (a b : ℕ) → (a == b) ≡ true → a ≡ b
equal_numbers a b x = grind (arith, nat_tests)

one_job : (job k : JobNo) → same_work_job job k ≡ true → job ≡ k
one_job job k same = ap (λ n. record { 0 = n }) (equal_numbers job.0 k.0 same)

fresh_after : (job : JobNo) (old new : List (JobNo × ℕ)) (entry : Option ℕ) → lookup (same_work_job job) new ≡ entry → (unwrap_or entry 0 ≡ 0 → entry ≡ None)
    → ((k : JobNo) → same_work_job job k ≡ false → lookup (same_work_job k) new ≡ lookup (same_work_job k) old) → AreFresh old → AreFresh new
fresh_after job old new entry own some others h k none = (elim (same_work_job job k) as (λ b. same_work_job job k ≡ b → lookup (same_work_job k) new ≡ None) [
  | true ↦ λ same. subst (λ j. unwrap_or (lookup (same_work_job j) new) 0 ≡ 0 → lookup (same_work_job j) new ≡ None) (one_job job k same)
      (λ gone. own ∙ some (ap (λ o. unwrap_or o 0) (sym own) ∙ gone)) none
  | false ↦ λ apart. others k apart ∙ h k (ap (λ o. unwrap_or o 0) (sym (others k apart)) ∙ none)
]) refl

other_job : (a b c : ℕ) → (a == b) ≡ false → (b == c) ≡ true → (a == c) ≡ false
other_job a b c h k = grind (arith, nat_tests)

same_jobs : (a b c : ℕ) → (a == b) ≡ true → not (a == c) ≡ true → not (b == c) ≡ true
same_jobs a b c h k = grind (arith, nat_tests)

pub dropped_kept : (job : JobNo) (works : List Queued) (old new : List (JobNo × ℕ)) → AreWorksNumbered works old
    → lookup (same_work_job job) new ≡ None → ((k : JobNo) → same_work_job job k ≡ false → lookup (same_work_job k) new ≡ lookup (same_work_job k) old)
    → AreWorksNumbered (filter (λ w. not (is_of job w)) works) new
dropped_kept job works old new h own others = record {
  numbers = λ k. (elim (same_work_job job k) as (λ b. same_work_job job k ≡ b → are_numbered (last_number_of new k) (filter (is_of k) (filter (λ w. not (is_of job w)) works)) ≡ true) [
    | true ↦ λ same. ap (are_numbered (last_number_of new k)) (filter_of_none (is_of k) (filter (λ w. not (is_of job w)) works)
        (all_weaker (λ w. not (is_of job w)) (λ w. not (is_of k w)) (λ w f. same_jobs job.0 k.0 w.asked.job.0 same f) (filter (λ w. not (is_of job w)) works) (all_passing (λ w. not (is_of job w)) works)))
    | false ↦ λ apart.
        ap (are_numbered (last_number_of new k)) (filter_swap (is_of k) (λ w. not (is_of job w)) works ∙ filter_within (is_of k) (λ w. not (is_of job w)) (λ w of. ap not (other_job job.0 k.0 w.asked.job.0 apart of)) works)
        ∙ ap (λ o. are_numbered (unwrap_or o 0) (filter (is_of k) works)) (others k apart) ∙ h.numbers k
  ]) refl;
  fresh = fresh_after job old new None own (λ _. refl) others h.fresh;
}

-- ---- the last work is taken back

module _ (job : JobNo) (last : ℕ) where
  before_last : (ws : List Queued) → list_all (is_of job) ws ≡ true → are_numbered (last + 1) ws ≡ true → are_numbered last (filter (λ w. not (is_at job (last + 1) w)) ws) ≡ true
  before_last [] of h = refl
  before_last (w ∷ ws) of h =
      let others = list_any (is_numbered w.asked.number) ws in
      let left = filter (λ w. not (is_at job (last + 1) w)) ws in
      let head = both_left (nat_le w.asked.number (last + 1) && not others) (are_numbered (last + 1) ws) h in
      let rest = before_last ws (both_right (is_of job w) (list_all (is_of job) ws) of) (both_right (nat_le w.asked.number (last + 1) && not others) (are_numbered (last + 1) ws) h) in
      subst (λ b. are_numbered last (cond (not (b && w.asked.number == last + 1)) (w ∷ left) left) ≡ true) (sym (both_left (is_of job w) (list_all (is_of job) ws) of))
      ((elim (w.asked.number == last + 1) as (λ b. (w.asked.number == last + 1) ≡ b → are_numbered last (cond (not b) (w ∷ left) left) ≡ true) [
        | true ↦ λ _. rest
        | false ↦ λ apart. both (nat_le w.asked.number last && not (list_any (is_numbered w.asked.number) left)) (are_numbered last left)
            (both (nat_le w.asked.number last) (not (list_any (is_numbered w.asked.number) left)) (below w.asked.number last (both_left (nat_le w.asked.number (last + 1)) (not others) head) apart)
            (ap not (any_filter w.asked.number (λ w. not (is_at job (last + 1) w)) ws (not_true others (both_right (nat_le w.asked.number (last + 1)) (not others) head))))) rest
      ]) refl)
    where
      below : (a b : ℕ) → nat_le a (b + 1) ≡ true → (a == b + 1) ≡ false → nat_le a b ≡ true
      below a b h k = grind (arith, nat_tests)

  pub taken_back_kept : (works : List Queued) (old new : List (JobNo × ℕ)) → AreWorksNumbered works old → last_number_of old job ≡ last + 1
      → lookup (same_work_job job) new ≡ entry_of last → ((k : JobNo) → same_work_job job k ≡ false → lookup (same_work_job k) new ≡ lookup (same_work_job k) old)
      → AreWorksNumbered (filter (λ w. not (is_at job (last + 1) w)) works) new
  taken_back_kept works old new h was own others =
      let left = filter (λ w. not (is_at job (last + 1) w)) works in
      record {
        numbers = λ k. (elim (same_work_job job k) as (λ b. same_work_job job k ≡ b → are_numbered (last_number_of new k) (filter (is_of k) left) ≡ true) [
          | true ↦ λ same. subst (λ j. are_numbered (last_number_of new j) (filter (is_of j) left) ≡ true) (one_job job k same)
              (ap (λ o. are_numbered (unwrap_or o 0) (filter (is_of job) left)) own
              ∙ ap (λ n. are_numbered n (filter (is_of job) left)) (entry_is last)
              ∙ ap (are_numbered last) (filter_swap (is_of job) (λ w. not (is_at job (last + 1) w)) works)
              ∙ before_last (filter (is_of job) works) (all_passing (is_of job) works) (ap (λ n. are_numbered n (filter (is_of job) works)) (sym was) ∙ h.numbers job))
          | false ↦ λ apart.
              ap (are_numbered (last_number_of new k)) (filter_swap (is_of k) (λ w. not (is_at job (last + 1) w)) works
              ∙ filter_of_all (λ w. not (is_at job (last + 1) w)) (filter (is_of k) works)
              (all_weaker (is_of k) (λ w. not (is_at job (last + 1) w)) (λ w of. ap (λ b. not (b && w.asked.number == last + 1)) (other_job job.0 k.0 w.asked.job.0 apart of)) (filter (is_of k) works) (all_passing (is_of k) works)))
              ∙ ap (λ o. are_numbered (unwrap_or o 0) (filter (is_of k) works)) (others k apart) ∙ h.numbers k
        ]) refl;
        fresh = fresh_after job old new (entry_of last) own (fresh_entry last) others h.fresh;
      }
    where
      not_none : (n : ℕ) → (suc n == 0) ≡ false
      not_none n = grind (arith, nat_tests)

      entry_is : (n : ℕ) → unwrap_or (entry_of n) 0 ≡ n
      entry_is zero = refl
      entry_is (suc n) = ap (λ b. unwrap_or (if b then None else Some (suc n)) 0) (not_none n)

      fresh_entry : (n : ℕ) → unwrap_or (entry_of n) 0 ≡ 0 → entry_of n ≡ None
      fresh_entry zero h = refl
      fresh_entry (suc n) h = absurd (let last = entry_is (suc n) in omega (arith, h, last))

-- ---- works come

module _ (job : JobNo) (kind : WorkKind) where
  numbered_own : (last : ℕ) (ids : List ObjectId) → list_all (is_of job) (numbered job kind last ids) ≡ true
  numbered_own last [] = refl
  numbered_own last (id ∷ ids) = both (same_work_job job job) (list_all (is_of job) (numbered job kind (last + 1) ids)) (itself job.0) (numbered_own (last + 1) ids)
    where
      itself : (n : ℕ) → (n == n) ≡ true
      itself n = grind (arith, nat_tests)

  none_before : (n last : ℕ) (ids : List ObjectId) → nat_le n last ≡ true → list_any (is_numbered n) (numbered job kind last ids) ≡ false
  none_before n last [] h = refl
  none_before n last (id ∷ ids) h = neither (last + 1 == n) (list_any (is_numbered n) (numbered job kind (last + 1) ids)) (after n last h) (none_before n (last + 1) ids (still n last h))
    where
      after : (a b : ℕ) → nat_le a b ≡ true → (b + 1 == a) ≡ false
      after a b h = grind (arith, nat_tests)

      still : (a b : ℕ) → nat_le a b ≡ true → nat_le a (b + 1) ≡ true
      still a b h = grind (arith, nat_tests)

  none_twice : (last : ℕ) (ids : List ObjectId) → are_numbered (last + length ids) (numbered job kind last ids) ≡ true
  none_twice last [] = refl
  none_twice last (id ∷ ids) =
      let next = numbered job kind (last + 1) ids in
      both (nat_le (last + 1) (last + suc (length ids)) && not (list_any (is_numbered (last + 1)) next)) (are_numbered (last + suc (length ids)) next)
      (both (nat_le (last + 1) (last + suc (length ids))) (not (list_any (is_numbered (last + 1)) next)) (within last (length ids)) (ap not (none_before (last + 1) (last + 1) ids (itself (last + 1)))))
      (subst (λ n. are_numbered n next ≡ true) (on last (length ids)) (none_twice (last + 1) ids))
    where
      itself : (n : ℕ) → nat_le n n ≡ true
      itself n = grind (arith, nat_tests)

      within : (a n : ℕ) → nat_le (a + 1) (a + suc n) ≡ true
      within a n = grind (arith, nat_tests)

      on : (a n : ℕ) → a + 1 + n ≡ a + suc n
      on a n = omega arith

  any_append : (n : ℕ) (xs ys : List Queued) → list_any (is_numbered n) xs ≡ false → list_any (is_numbered n) ys ≡ false → list_any (is_numbered n) (xs ++ ys) ≡ false
  any_append n [] ys h k = k
  any_append n (x ∷ xs) ys h k =
      neither (is_numbered n x) (list_any (is_numbered n) (xs ++ ys)) (or_false_left (is_numbered n x) (list_any (is_numbered n) xs) h) (any_append n xs ys (or_false_right (is_numbered n x) (list_any (is_numbered n) xs) h) k)

  more_numbered : (last : ℕ) (ids : List ObjectId) (ws : List Queued) → are_numbered last ws ≡ true → are_numbered (last + length ids) (ws ++ numbered job kind last ids) ≡ true
  more_numbered last ids [] h = none_twice last ids
  more_numbered last ids (w ∷ ws) h =
      let own = nat_le w.asked.number last in
      let others = list_any (is_numbered w.asked.number) ws in
      let next = numbered job kind last ids in
      let head = both_left (own && not others) (are_numbered last ws) h in
      let rest = more_numbered last ids ws (both_right (own && not others) (are_numbered last ws) h) in
      both (nat_le w.asked.number (last + length ids) && not (list_any (is_numbered w.asked.number) (ws ++ next))) (are_numbered (last + length ids) (ws ++ next))
      (both (nat_le w.asked.number (last + length ids)) (not (list_any (is_numbered w.asked.number) (ws ++ next))) (still w.asked.number last (length ids) (both_left own (not others) head))
      (ap not (any_append w.asked.number ws next (not_true others (both_right own (not others) head)) (none_before w.asked.number last ids (both_left own (not others) head))))) rest
    where
      still : (a b n : ℕ) → nat_le a b ≡ true → nat_le a (b + n) ≡ true
      still a b n h = grind (arith, nat_tests)

  pub more_kept : (works : List Queued) (old new : List (JobNo × ℕ)) (ids : List ObjectId) → AreWorksNumbered works old
      → lookup (same_work_job job) new ≡ Some (last_number_of old job + length ids) → 1 ≤ length ids
      → ((k : JobNo) → same_work_job job k ≡ false → lookup (same_work_job k) new ≡ lookup (same_work_job k) old)
      → AreWorksNumbered (works ++ numbered job kind (last_number_of old job) ids) new
  more_kept works old new ids h own some others =
      let last = last_number_of old job in
      let next = numbered job kind last ids in
      record {
        numbers = λ k. (elim (same_work_job job k) as (λ b. same_work_job job k ≡ b → are_numbered (last_number_of new k) (filter (is_of k) (works ++ next)) ≡ true) [
          | true ↦ λ same.
              let equal : job ≡ k = one_job job k same in
              subst (λ j. are_numbered (last_number_of new j) (filter (is_of j) (works ++ next)) ≡ true) equal
              (ap (are_numbered (last_number_of new job)) (filter_append (is_of job) works next ∙ ap (λ r. filter (is_of job) works ++ r) (filter_of_all (is_of job) next (numbered_own last ids)))
              ∙ ap (λ o. are_numbered (unwrap_or o 0) (filter (is_of job) works ++ next)) own ∙ more_numbered last ids (filter (is_of job) works) (h.numbers job))
          | false ↦ λ apart.
              ap (are_numbered (last_number_of new k)) (filter_append (is_of k) works next
              ∙ ap (λ r. filter (is_of k) works ++ r) (filter_of_none (is_of k) next (all_weaker (is_of job) (λ w. not (is_of k w)) (λ w of. ap not (other_job k.0 job.0 w.asked.job.0 (back job.0 k.0 apart) of)) next (numbered_own last ids)))
              ∙ append_nothing (filter (is_of k) works))
              ∙ ap (λ o. are_numbered (unwrap_or o 0) (filter (is_of k) works)) (others k apart) ∙ h.numbers k
        ]) refl;
        fresh = fresh_after job old new (Some (last_number_of old job + length ids)) own (λ none. absurd (omega (arith, some, none))) others h.fresh;
      }
    where
      back : (a b : ℕ) → (a == b) ≡ false → (b == a) ≡ false
      back a b x = grind (arith, nat_tests)
