-- What a change of the line leaves to each job.
use Rattle.std.proofs.Common.{◌≡◌, ℕ, ◌+◌, ◌≤◌, zero, suc, Bool, true, false, not, cond, ◌&&◌, ◌==◌, List, [], ◌∷◌, ◌++◌, map, filter, length, Option, Some, None, refl, sym, ap, subst, ◌∙◌, arith}
use Rattle.std.specs.Prelude.{find, if◌then◌else◌, unwrap_or}
use Rattle.std.specs.Map.{lookup, set_value, remove_entry}
use Rattle.indexmap.specs.IndexMap.{insert_entry}
use Rattle.std.proofs.lemmas.Bool.Decides.{nat_tests}
use Rattle.obj_id.specs.declared.ids.JobNo.{JobNo}
use Rattle.obj_id.specs.declared.ids.ObjectId.{ObjectId}
use Rattle.obj_id.specs.declared.works.WorkKind.{WorkKind}
use Rattle.private_store.specs.rules.Shape.{WorkInFlight}
use Rattle.store_facts.proofs.Tests.{both, some_value}
use Rattle.spill_work.specs.declared.queue.Queued.{Queued}
use Rattle.spill_work.specs.Line.{WorkLine, same_work_job, is_of, is_at, shown, marked_taken, used_by, numbered, numbered_works, TakesBack, AsksAll, MarksTaken, Finishes, Drops}
use Rattle.obj_id.specs.Works.{is_write}
use Rattle.spill_work.proofs.Filters.{filter_append, all_stay, append_nothing}

-- the job's part of the line
abbrev pub part : List Queued → JobNo → List WorkInFlight
part works job = map (λ work. shown work.asked) (filter (is_of job) works)

itself : (n : ℕ) → (n == n) ≡ true
itself n = grind (arith, nat_tests)

eqb_symmetric : (a k : ℕ) → (a == k) ≡ (k == a)
eqb_symmetric a k = grind (arith, nat_tests)

-- what a job has stays under a filter that keeps its works
pub part-filter : (p : Queued → Bool) (job : JobNo) (works : List Queued) → ((w : Queued) → is_of job w ≡ true → p w ≡ true) → part (filter p works) job ≡ part works job
part-filter p job [] keeps = refl
part-filter p job (x ∷ xs) keeps =
    let rest = part-filter p job xs keeps in
    (elim (is_of job x) as (λ b. is_of job x ≡ b → part (cond (p x) (x ∷ filter p xs) (filter p xs)) job ≡ map (λ (q : Queued). shown q.asked) (cond b (x ∷ filter (is_of job) xs) (filter (is_of job) xs))) [
      | true ↦ λ e. ap (λ b. part (cond b (x ∷ filter p xs) (filter p xs)) job) (keeps x e)
          ∙ ap (λ b. map (λ (q : Queued). shown q.asked) (cond b (x ∷ filter (is_of job) (filter p xs)) (filter (is_of job) (filter p xs)))) e
          ∙ ap (λ r. shown x.asked ∷ r) rest
      | false ↦ λ e. elim (p x) as (λ b. part (cond b (x ∷ filter p xs) (filter p xs)) job ≡ part xs job) [
        | true ↦ ap (λ b. map (λ (q : Queued). shown q.asked) (cond b (x ∷ filter (is_of job) (filter p xs)) (filter (is_of job) (filter p xs)))) e ∙ rest
        | false ↦ rest
      ]
    ]) refl

numbers_apart : (a b c : ℕ) → (b == c) ≡ true → (a == b) ≡ false → (a == c) ≡ false
numbers_apart a b c same apart = grind (arith, nat_tests)

-- to another job nothing leaves
pub part-finished_other : (job other : JobNo) (number : ℕ) (works : List Queued) → same_work_job job other ≡ false → part (filter (λ w. not (is_at job number w)) works) other ≡ part works other
part-finished_other job other number works apart =
    part-filter (λ w. not (is_at job number w)) other works
    (λ w of. ap (λ b. not (b && w.asked.number == number)) (numbers_apart job.0 other.0 w.asked.job.0 of apart))

pub part-dropped_other : (job other : JobNo) (works : List Queued) → same_work_job job other ≡ false → part (filter (λ w. not (is_of job w)) works) other ≡ part works other
part-dropped_other job other works apart =
    part-filter (λ w. not (is_of job w)) other works (λ w of. ap not (numbers_apart job.0 other.0 w.asked.job.0 of apart))

-- of the job that ends nothing stays
pub part-dropped : (job : JobNo) (works : List Queued) → part (filter (λ w. not (is_of job w)) works) job ≡ []
part-dropped job [] = refl
part-dropped job (x ∷ xs) =
    (elim (is_of job x) as (λ b. is_of job x ≡ b → part (cond (not b) (x ∷ filter (λ w. not (is_of job w)) xs) (filter (λ w. not (is_of job w)) xs)) job ≡ []) [
      | true ↦ λ _. part-dropped job xs
      | false ↦ λ e. ap (λ b. map (λ (q : Queued). shown q.asked) (cond b (x ∷ filter (is_of job) (filter (λ w. not (is_of job w)) xs)) (filter (is_of job) (filter (λ w. not (is_of job w)) xs)))) e ∙ part-dropped job xs
    ]) refl

-- the job's work leaves the job's part
pub part-finished : (job : JobNo) (number : ℕ) (works : List Queued) → part (filter (λ w. not (is_at job number w)) works) job ≡ filter (λ (v : WorkInFlight). not (v.number == number)) (part works job)
part-finished job number [] = refl
part-finished job number (x ∷ xs) =
    let rest = part-finished job number xs in
    let left = filter (λ (w : Queued). not (is_at job number w)) xs in
    (elim (is_of job x) as (λ b. is_of job x ≡ b → part (cond (not (b && x.asked.number == number)) (x ∷ filter (λ w. not (is_at job number w)) xs) (filter (λ w. not (is_at job number w)) xs)) job
    ≡ filter (λ (v : WorkInFlight). not (v.number == number)) (map (λ (q : Queued). shown q.asked) (cond b (x ∷ filter (is_of job) xs) (filter (is_of job) xs)))) [
      | true ↦ λ e. elim (x.asked.number == number) as (λ n. part (cond (not n) (x ∷ filter (λ w. not (is_at job number w)) xs) (filter (λ w. not (is_at job number w)) xs)) job
          ≡ cond (not n) (shown x.asked ∷ filter (λ (v : WorkInFlight). not (v.number == number)) (part xs job)) (filter (λ (v : WorkInFlight). not (v.number == number)) (part xs job))) [
            | true ↦ rest
            | false ↦ ap (λ b. map (λ (q : Queued). shown q.asked) (cond b (x ∷ filter (is_of job) left) (filter (is_of job) left))) e ∙ ap (λ r. shown x.asked ∷ r) rest
          ]
      | false ↦ λ e. ap (λ b. map (λ (q : Queued). shown q.asked) (cond b (x ∷ filter (is_of job) left) (filter (is_of job) left))) e ∙ rest
    ]) refl

-- the work that is found in the line is found in the job's part
pub find-part : (job : JobNo) (number : ℕ) (works : List Queued) (w : Queued) → find (is_at job number) works ≡ Some w → find (λ (v : WorkInFlight). v.number == number) (part works job) ≡ Some (shown w.asked)
find-part job number [] w at = cc
find-part job number (x ∷ xs) w at =
    let rest = find-part job number xs w in
    (elim (is_of job x) as (λ b. cond (b && x.asked.number == number) (Some x) (find (is_at job number) xs) ≡ Some w
    → find (λ (v : WorkInFlight). v.number == number) (map (λ (q : Queued). shown q.asked) (cond b (x ∷ filter (is_of job) xs) (filter (is_of job) xs))) ≡ Some (shown w.asked)) [
      | true ↦ elim (x.asked.number == number) as (λ n. cond n (Some x) (find (is_at job number) xs) ≡ Some w
          → cond n (Some (shown x.asked)) (find (λ (v : WorkInFlight). v.number == number) (part xs job)) ≡ Some (shown w.asked)) [
            | true ↦ λ is. ap (λ o. Some (shown (unwrap_or o x).asked)) is
            | false ↦ rest
          ]
      | false ↦ rest
    ]) at

-- marking a work as taken shows to no job
pub part-marked : (job : JobNo) (number : ℕ) (other : JobNo) (works : List Queued) → part (marked_taken job number works) other ≡ part works other
part-marked job number other [] = refl
part-marked job number other (x ∷ xs) =
    elim (is_at job number x) as (λ b. part (if b then record x { taken = true } ∷ xs else x ∷ marked_taken job number xs) other ≡ part (x ∷ xs) other) [
      | true ↦ elim (is_of other x) as (λ b. map (λ (q : Queued). shown q.asked) (cond b (record x { taken = true } ∷ filter (is_of other) xs) (filter (is_of other) xs))
          ≡ map (λ (q : Queued). shown q.asked) (cond b (x ∷ filter (is_of other) xs) (filter (is_of other) xs))) [ true ↦ refl | false ↦ refl ]
      | false ↦ elim (is_of other x) as (λ b. map (λ (q : Queued). shown q.asked) (cond b (x ∷ filter (is_of other) (marked_taken job number xs)) (filter (is_of other) (marked_taken job number xs)))
          ≡ map (λ (q : Queued). shown q.asked) (cond b (x ∷ filter (is_of other) xs) (filter (is_of other) xs))) [
            | true ↦ ap (λ r. shown x.asked ∷ r) (part-marked job number other xs)
            | false ↦ part-marked job number other xs
          ]
    ]

-- ---- the changes of the line

pub marks_taken : (old new : WorkLine) (job : JobNo) (number : ℕ) → new ≡ record old { works = marked_taken job number old.works } → MarksTaken old job number new
marks_taken old new job number is = record { line = is; same = λ other. ap (λ l. part l.works other) is ∙ part-marked job number other old.works }

pub finishes : (old new : WorkLine) (job : JobNo) (number : ℕ) (w : Queued) → find (is_at job number) old.works ≡ Some w → w.taken ≡ true
    → new ≡ record old { works = filter (λ v. not (is_at job number v)) old.works } → Finishes old job number w.asked new
finishes old new job number w at taken is = record {
  found = at ∙ ap (λ t. Some (record w { taken = t })) taken;
  line = is;
  own_work = find-part job number old.works w at;
  own_works = ap (λ l. part l.works job) is ∙ part-finished job number old.works;
  others = λ other apart. ap (λ l. part l.works other) is ∙ part-finished_other job other number old.works apart;
}

pub drops : (old new : WorkLine) (job : JobNo) → new.works ≡ filter (λ v. not (is_of job v)) old.works → used_by new job ≡ 0
    → ((other : JobNo) → same_work_job job other ≡ false → used_by new other ≡ used_by old other) → Drops old job new
drops old new job works own others = record {
  works = works;
  own_works = ap (λ ws. part ws job) works ∙ part-dropped job old.works;
  own_used = own;
  others = λ other apart. record { works = ap (λ ws. part ws other) works ∙ part-dropped_other job other old.works apart; used = others other apart };
}

-- ---- works on several objects

module _ (job : JobNo) (kind : WorkKind) where
  pub part-numbered : (last : ℕ) (ids : List ObjectId) (works : List Queued) → part (works ++ numbered job kind last ids) job ≡ part works job ++ numbered_works kind last ids
  part-numbered last ids [] = alone last ids
    where
      alone : (last : ℕ) (ids : List ObjectId) → part (numbered job kind last ids) job ≡ numbered_works kind last ids
      alone last [] = refl
      alone last (id ∷ ids) =
          ap (λ b. map (λ (q : Queued). shown q.asked) (cond b (record { asked = record { job = job; number = last + 1; id = id; kind = kind }; taken = false } ∷ filter (is_of job) (numbered job kind (last + 1) ids)) (filter (is_of job) (numbered job kind (last + 1) ids)))) (itself job.0)
          ∙ ap (λ r. record { number = last + 1; id = id; writes = is_write kind } ∷ r) (alone (last + 1) ids)
  part-numbered last ids (x ∷ xs) =
      let rest = part-numbered last ids xs in
      elim (is_of job x) as (λ b. map (λ (q : Queued). shown q.asked) (cond b (x ∷ filter (is_of job) (xs ++ numbered job kind last ids)) (filter (is_of job) (xs ++ numbered job kind last ids)))
      ≡ map (λ (q : Queued). shown q.asked) (cond b (x ∷ filter (is_of job) xs) (filter (is_of job) xs)) ++ numbered_works kind last ids) [
        | true ↦ ap (λ r. shown x.asked ∷ r) rest
        | false ↦ rest
      ]

  pub part-numbered_other : (other : JobNo) → same_work_job job other ≡ false → (last : ℕ) (ids : List ObjectId) (works : List Queued) → part (works ++ numbered job kind last ids) other ≡ part works other
  part-numbered_other other apart last ids [] = none last ids
    where
      none : (last : ℕ) (ids : List ObjectId) → part (numbered job kind last ids) other ≡ []
      none last [] = refl
      none last (id ∷ ids) =
          ap (λ b. map (λ (q : Queued). shown q.asked) (cond b (record { asked = record { job = job; number = last + 1; id = id; kind = kind }; taken = false } ∷ filter (is_of other) (numbered job kind (last + 1) ids)) (filter (is_of other) (numbered job kind (last + 1) ids)))) (eqb_symmetric other.0 job.0 ∙ apart)
          ∙ none (last + 1) ids
  part-numbered_other other apart last ids (x ∷ xs) =
      let rest = part-numbered_other other apart last ids xs in
      elim (is_of other x) as (λ b. map (λ (q : Queued). shown q.asked) (cond b (x ∷ filter (is_of other) (xs ++ numbered job kind last ids)) (filter (is_of other) (xs ++ numbered job kind last ids)))
      ≡ map (λ (q : Queued). shown q.asked) (cond b (x ∷ filter (is_of other) xs) (filter (is_of other) xs))) [
        | true ↦ ap (λ r. shown x.asked ∷ r) rest
        | false ↦ rest
      ]

  pub asks_all : (old new : WorkLine) (ids : List ObjectId) → new.works ≡ old.works ++ numbered job kind (used_by old job) ids → used_by new job ≡ used_by old job + length ids
      → ((other : JobNo) → same_work_job job other ≡ false → used_by new other ≡ used_by old other) → AsksAll old job kind ids new
  asks_all old new ids works own others = record {
    works = works;
    own_works = ap (λ ws. part ws job) works ∙ part-numbered (used_by old job) ids old.works;
    own_used = own;
    others = λ other apart. record { works = ap (λ ws. part ws other) works ∙ part-numbered_other other apart (used_by old job) ids old.works; used = others other apart };
  }

-- ---- the last work is taken back

module _ (job : JobNo) where
  removed_inserted : (es : List (JobNo × ℕ)) (n : ℕ) → lookup (same_work_job job) es ≡ None → remove_entry (same_work_job job) (insert_entry same_work_job es job n) ≡ es
  removed_inserted [] n none = ap (λ b. cond b [] ((job, n) ∷ [])) (itself job.0)
  removed_inserted (e ∷ es) n none = (elim (same_work_job job e.0) as (λ b. same_work_job job e.0 ≡ b → cond b (Some e.1) (lookup (same_work_job job) es) ≡ None
      → remove_entry (same_work_job job) (if b then (e.0, n) ∷ es else e ∷ insert_entry same_work_job es job n) ≡ e ∷ es) [
        | true ↦ λ _ some. absurd cc
        | false ↦ λ apart at. ap (λ b. cond b (insert_entry same_work_job es job n) (e ∷ remove_entry (same_work_job job) (insert_entry same_work_job es job n))) apart
            ∙ ap (λ r. e ∷ r) (removed_inserted es n at)
      ]) refl none

  set_inserted : (es : List (JobNo × ℕ)) (n m : ℕ) → lookup (same_work_job job) es ≡ Some m → set_value (same_work_job job) (insert_entry same_work_job es job n) m ≡ es
  set_inserted [] n m none = absurd cc
  set_inserted (e ∷ es) n m had = (elim (same_work_job job e.0) as (λ b. same_work_job job e.0 ≡ b → cond b (Some e.1) (lookup (same_work_job job) es) ≡ Some m
      → set_value (same_work_job job) (if b then (e.0, n) ∷ es else e ∷ insert_entry same_work_job es job n) m ≡ e ∷ es) [
        | true ↦ λ same at. ap (λ b. cond b ((e.0, m) ∷ es) ((e.0, n) ∷ set_value (same_work_job job) es m)) same ∙ ap (λ v. (e.0, v) ∷ es) (sym (some_value e.1 m at))
        | false ↦ λ apart at. ap (λ b. cond b ((e.0, m) ∷ insert_entry same_work_job es job n) (e ∷ set_value (same_work_job job) (insert_entry same_work_job es job n) m)) apart
            ∙ ap (λ r. e ∷ r) (set_inserted es n m at)
      ]) refl had

  -- an entry as it was before the number after this one
  entry_back : (es : List (JobNo × ℕ)) (last : ℕ) → last ≡ unwrap_or (lookup (same_work_job job) es) 0 → (last + 1 ≡ 1 → lookup (same_work_job job) es ≡ None)
      → (if last == 0 then remove_entry (same_work_job job) (insert_entry same_work_job es job (last + 1)) else set_value (same_work_job job) (insert_entry same_work_job es job (last + 1)) last) ≡ es
  entry_back es zero is fresh = removed_inserted es 1 (fresh refl)
  entry_back es (suc n) is fresh =
      ap (λ b. if b then remove_entry (same_work_job job) (insert_entry same_work_job es job (suc n + 1)) else set_value (same_work_job job) (insert_entry same_work_job es job (suc n + 1)) (suc n)) (not_none n)
      ∙ set_inserted es (suc n + 1) (suc n) (there (lookup (same_work_job job) es) is)
    where
      not_none : (n : ℕ) → (suc n == 0) ≡ false
      not_none n = grind (arith, nat_tests)

      there : (o : Option ℕ) → suc n ≡ unwrap_or o 0 → o ≡ Some (suc n)
      there None e = absurd (omega (arith, e))
      there (Some m) e = ap Some (sym e)

-- no other passes than the last, which does
alone : (test : Queued → Bool) (ws : List Queued) (w : Queued) → test w ≡ true → length (filter test (ws ++ w ∷ [])) ≤ 1 → length (filter test ws) ≤ 0
alone test [] w here one = omega arith
alone test (x ∷ xs) w here one =
    (elim (test x) as (λ b. length (cond b (x ∷ filter test (xs ++ w ∷ [])) (filter test (xs ++ w ∷ []))) ≤ 1 → length (cond b (x ∷ filter test xs) (filter test xs)) ≤ 0) [
      | true ↦ λ few. absurd (let some = passes xs in omega (arith, few, some))
      | false ↦ λ few. alone test xs w here few
    ]) one
  where
    passes : (xs : List Queued) → 1 ≤ length (filter test (xs ++ w ∷ []))
    passes [] = subst (λ b. 1 ≤ length (cond b (w ∷ []) [])) (sym here) (omega arith)
    passes (x ∷ xs) =
        let rest = passes xs in
        elim (test x) as (λ b. 1 ≤ length (cond b (x ∷ filter test (xs ++ w ∷ [])) (filter test (xs ++ w ∷ [])))) [ true ↦ omega arith | false ↦ rest ]

pub takes_back : (old new : WorkLine) (job : JobNo) (last : ℕ) → used_by old job ≡ last + 1 → length (filter (is_at job (last + 1)) old.works) ≤ 1
    → new.works ≡ filter (λ w. not (is_at job (last + 1) w)) old.works
    → new.used ≡ (if last == 0 then remove_entry (same_work_job job) old.used else set_value (same_work_job job) old.used last)
    → ((other : JobNo) → same_work_job job other ≡ false → lookup (same_work_job other) new.used ≡ lookup (same_work_job other) old.used)
    → TakesBack old job (last + 1) new
takes_back old new job last was one works used others = record {
  undone = λ before id kind asks fresh.
      let asked : Queued = record { asked = record { job = job; number = last + 1; id = id; kind = kind }; taken = false } in
      let here : is_at job (last + 1) asked ≡ true = both (same_work_job job job) (last + 1 == last + 1) (itself job.0) (itself (last + 1)) in
      let last_is : last ≡ used_by before job = omega (arith, asks.number) in
      let out : filter (λ w. not (is_at job (last + 1) w)) old.works ≡ before.works =
      ap (filter (λ w. not (is_at job (last + 1) w))) asks.works
      ∙ filter_append (λ w. not (is_at job (last + 1) w)) before.works (asked ∷ [])
      ∙ ap (λ b. filter (λ w. not (is_at job (last + 1) w)) before.works ++ cond (not b) (asked ∷ []) []) here
      ∙ append_nothing (filter (λ w. not (is_at job (last + 1) w)) before.works)
      ∙ all_stay (is_at job (last + 1)) before.works (alone (is_at job (last + 1)) before.works asked here (subst (λ ws. length (filter (is_at job (last + 1)) ws) ≤ 1) asks.works one)) in
      let back : new.used ≡ before.used =
      used ∙ ap (λ es. if last == 0 then remove_entry (same_work_job job) es else set_value (same_work_job job) es last) asks.used
      ∙ entry_back job before.used last last_is fresh in
      (λ i. record { works = (works ∙ out) i; used = back i });
  not_last = λ other. absurd (let same = ap (λ n. n == last + 1) was ∙ itself (last + 1) in cc);
  others = λ other apart. record {
    works = ap (λ ws. part ws other) works ∙ part-finished_other job other (last + 1) old.works apart;
    used = ap (λ o. unwrap_or o 0) (others other apart);
  };
}
