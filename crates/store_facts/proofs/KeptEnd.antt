-- The end of a task keeps the store: its copies are doomed, and what it borrowed is given up.
use Rattle.std.proofs.Common.{◌≡◌, ℕ, ◌≤◌, Bool, true, false, not, cond, ◌&&◌, ◌||◌, ◌==◌, List, [], ◌∷◌, length, filter, fold, Option, Some, None, is_some, refl, sym, ap, subst, ◌∙◌, T, arith}
use Rattle.std.specs.Option.{option_map_or}
use Rattle.std.specs.FinMap.{is_sorted}
use Rattle.std.specs.FinMap.{nat_cmp-IsAntisymmetric, slice_cmp-IsAntisymmetric}
use Rattle.std.specs.Cmp.{tied_itself, Equal-is}
use Rattle.std.specs.Cmp.Lexicographic.{nat_list_cmp_total}
use Rattle.std.specs.Ordering.{is_eq}
use Rattle.obj_id.specs.declared.ids.ObjectId.{ObjectId}
use Rattle.obj_id.specs.declared.ids.TaskNo.{TaskNo}
use Rattle.obj_id.specs.Ids.{id_cmp, same_id, same_task, task_cmp}
use Rattle.private_store.specs.rules.Limits.{most_copies, most_borrowers}
use Rattle.private_store.specs.rules.Tables.{ById, at, is_among, ids_of, with_entry}
use Rattle.private_store.specs.rules.Shape.{Copy, Shape}
use Rattle.private_store.specs.rules.Marks.{without_borrower}
use Rattle.private_store.specs.rules.Copies.{in_scope}
use Rattle.private_store.specs.rules.Room.{set_copy}
use Rattle.private_store.specs.rules.Change.{done, doom, doomed, settled, sending}
use Rattle.private_store.specs.rules.Commands.{of_task, task_ended, scoped, give_up_one, has_borrower}
use Rattle.private_store.specs.laws.Invariants.{IsCopyKept, AreMarksKept, are_held, has_work, is_remembered}
use Rattle.store_facts.proofs.KeptCopy.{IsBare, IsAbsentKept, IsRowKept, is_kept_up}
use Rattle.store_facts.proofs.KeptLists.{any-filter, any-filter-le, any-filter-only, length-filter-le}
use Rattle.store_facts.proofs.KeptWorks.{pushed_no}
use Rattle.store_facts.proofs.KeptRows.{IsRowChange, row_put, row_same, IsLiveKept}
use Rattle.store_facts.proofs.KeptFold.{Visits, AreVisited, visited, among-filter, among-ids}
use Rattle.store_facts.proofs.KeptEach.{IsOfCopies, doomed_of_copies, scoped_of_copies, RowOf, doomed_row}
use Rattle.store_facts.proofs.Tests.{and_rest, false_true, or_right, refuted, true_false}
use Rattle.store_facts.proofs.Ids.{same_id-equal}

-- ---- tasks

pub same_task_is : (a b : TaskNo) → same_task a b ≡ true → a ≡ b
same_task_is a b e =
    let bytes : a.0 ≡ b.0 = slice_cmp-IsAntisymmetric nat_cmp-IsAntisymmetric a.0 b.0 ((Equal-is (task_cmp a b)).0 e) in
    λ i. record { 0 = bytes i }

same_task_itself : (a : TaskNo) → same_task a a ≡ true
same_task_itself a = ap is_eq (tied_itself nat_list_cmp_total a.0)

pub same_task_swapped : (a b : TaskNo) → same_task a b ≡ false → same_task b a ≡ false
same_task_swapped a b e = refuted (same_task b a) (λ t. sym e ∙ ap (λ x. same_task a x) (same_task_is b a t) ∙ same_task_itself a)

remembered-filter : (task : TaskNo) (ts : List TaskNo) (t : TaskNo) → is_remembered (filter (λ x. not (same_task task x)) ts) t ≡ true → (is_remembered ts t ≡ true) × (same_task t task ≡ false)
remembered-filter task [] t e = true_false e
remembered-filter task (x ∷ ts) t e =
    elim (same_task task x) as (λ b. same_task task x ≡ b → is_remembered (cond (not b) (x ∷ filter (λ x. not (same_task task x)) ts) (filter (λ x. not (same_task task x)) ts)) t ≡ true
    → (same_task t x || is_remembered ts t ≡ true) × (same_task t task ≡ false)) [
      | true ↦ λ s f. let r = remembered-filter task ts t f in (or_right (same_task t x) (is_remembered ts t) r.0, r.1)
      | false ↦ λ s f. by_head (same_task t x) refl s f (λ g. remembered-filter task ts t g)
    ] refl e
  where
    by_head : (b : Bool) → same_task t x ≡ b → same_task task x ≡ false → b || is_remembered (filter (λ x. not (same_task task x)) ts) t ≡ true
        → (is_remembered (filter (λ x. not (same_task task x)) ts) t ≡ true → (is_remembered ts t ≡ true) × (same_task t task ≡ false)) → (b || is_remembered ts t ≡ true) × (same_task t task ≡ false)
    by_head true i s f k = (refl, ap (λ y. same_task y task) (same_task_is t x i) ∙ same_task_swapped task x s)
    by_head false i s f k = k f

-- the tests of the two filters, as they are in the definitions
no_and : (a b : Bool) → b ≡ false → not (a && b) ≡ true
no_and true true e = sym e
no_and true false e = refl
no_and false b e = refl

module _ (store : Shape) (h : IsLiveKept store) (task : TaskNo) where
  abbrev pub start : Shape
  start = task_ended store task

  -- ---- before and between the two passes

  pub record IsHalf (id : ObjectId) (copy : Copy) : Type 0 where
    bare_kept : IsBare store.job store.works start.given id copy
    by_live_tasks : (t : TaskNo) → is_remembered copy.borrowers t ≡ true → is_remembered store.ended_tasks t ≡ false
    few_borrowers : length copy.borrowers ≤ most_borrowers
    was : is_some (at store.copies id) ≡ true

  -- of a task that has ended it is doomed, and then something keeps it
  pub record IsReady (id : ObjectId) (copy : Copy) : Type 0 where
    half : IsHalf id copy
    of_live_task : copy.doomed ≡ false → is_remembered start.ended_tasks id.task ≡ false
    kept_up : copy.doomed ≡ true → is_kept_up store.works start.given id copy ≡ true

  abbrev pub HalfRow : ObjectId → Option Copy → Type 0
  HalfRow id None = IsAbsentKept store.job store.works start.given id
  HalfRow id (Some copy) = IsHalf id copy

  abbrev pub ReadyRow : ObjectId → Option Copy → Type 0
  ReadyRow id None = IsAbsentKept store.job store.works start.given id
  ReadyRow id (Some copy) = IsReady id copy

  abbrev pub EndedRow : ObjectId → Option Copy → Type 0
  EndedRow id o = IsRowKept start.job start.works start.given start.ended_tasks id o

  absent_start : (id : ObjectId) → IsAbsentKept store.job store.works store.given id → IsAbsentKept store.job store.works start.given id
  absent_start id k = record { no_work = k.no_work; no_grant = λ j. any-filter-le (λ grant. same_id id grant.id) (λ grant. not (grant.id.job.0 == store.job && same_task task grant.id.task)) store.given (k.no_grant j) }

  half_start : (id : ObjectId) (copy : Copy) → at store.copies id ≡ Some copy → IsCopyKept store.job store.works store.given store.ended_tasks id copy → IsHalf id copy
  half_start id copy e k = record {
    bare_kept = record {
      own = k.own;
      form = k.form;
      marks = k.marks;
      holds = k.holds;
      uses = record {
        granted = λ g. k.granted (any-filter-only (λ grant. same_id id grant.id) (λ grant. not (grant.id.job.0 == store.job && same_task task grant.id.task)) store.given g);
        spilled = k.spilled;
        restored = k.restored;
      };
    };
    by_live_tasks = k.by_live_tasks;
    few_borrowers = k.few_borrowers;
    was = ap is_some e;
  }

  -- another task's copy
  ready_start : (id : ObjectId) (copy : Copy) → at store.copies id ≡ Some copy → same_task task id.task ≡ false → IsCopyKept store.job store.works store.given store.ended_tasks id copy → IsReady id copy
  ready_start id copy e other k = record {
    half = half_start id copy e k;
    of_live_task = λ d. pushed_no (same_task id.task) store.ended_tasks task (same_task_swapped task id.task other) ∙ k.of_live_task d;
    kept_up = λ d. ap (λ b. are_held copy.holds || b || has_work store.works id)
        (any-filter (λ grant. same_id id grant.id) (λ grant. not (grant.id.job.0 == store.job && same_task task grant.id.task)) store.given
        (λ grant s. no_and (grant.id.job.0 == store.job) (same_task task grant.id.task) (sym (ap (λ x. same_task task x.task) (same_id-equal id grant.id s)) ∙ other)))
        ∙ k.doomed d;
  }

  -- ---- the first pass: the task's copies are doomed

  abbrev pub dooms : ById Copy → ObjectId → ById Copy
  dooms copies id = (doomed (record start { copies = copies }) id).copies

  doomed_visit : (most : ℕ) (copies : ById Copy) (id : ObjectId) → T (is_sorted id_cmp copies) → length copies ≤ most → (o : Option Copy) → at copies id ≡ o → HalfRow id o → RowOf most copies id (ReadyRow id) (dooms copies id)
  doomed_visit most copies id s n None e k =
      let S : Shape = record start { copies = copies } in
      subst (λ o. RowOf most copies id (ReadyRow id) (option_map_or (λ copy. settled (set_copy S id (record copy { doomed = true })) id) o S).copies) (sym e)
      (record { row = None; change = row_same copies id None s n e; holds = k })
  doomed_visit most copies id s n (Some copy) e k =
      doomed_row most copies id (ReadyRow id) (record start { copies = copies }) copy (row_same copies id (Some copy) s n e)
      (λ w g. record { no_work = w; no_grant = λ _. g })
      (λ up. record {
        half = record {
          bare_kept = record { own = k.bare_kept.own; form = k.bare_kept.form; marks = k.bare_kept.marks; holds = k.bare_kept.holds; uses = k.bare_kept.uses };
          by_live_tasks = k.by_live_tasks;
          few_borrowers = k.few_borrowers;
          was = k.was;
        };
        of_live_task = λ d. false_true d;
        kept_up = λ _. up;
      })

  ready_half : (id : ObjectId) (o : Option Copy) → ReadyRow id o → HalfRow id o
  ready_half id None k = k
  ready_half id (Some copy) k = k.half

  doom_visits : (copies : ById Copy) (id : ObjectId) → T (is_sorted id_cmp copies) → length copies ≤ most_copies → HalfRow id (at copies id) → Visits most_copies dooms HalfRow ReadyRow copies id
  doom_visits copies id s n k =
      let r = doomed_visit most_copies copies id s n (at copies id) refl k in
      record { row = r.row; change = r.change; again = ready_half id r.row r.holds; done = r.holds }

  pub first_pass : AreVisited most_copies ReadyRow (fold dooms store.copies (of_task task (ids_of store.copies)))
  first_pass = visited most_copies dooms HalfRow ReadyRow doom_visits (of_task task (ids_of store.copies)) store.copies h.rows.in_order h.rows.few
      (λ q t. half_row q (at store.copies q) refl (h.rows.each q))
      (λ q t. ready_row q (at store.copies q) refl (h.rows.each q) (sym (among-filter (λ id. same_task task id.task) (ids_of store.copies) q) ∙ t))
    where
      half_row : (q : ObjectId) (o : Option Copy) → at store.copies q ≡ o → IsRowKept store.job store.works store.given store.ended_tasks q o → HalfRow q o
      half_row q None e k = absent_start q k
      half_row q (Some copy) e k = half_start q copy e k

      ready_row : (q : ObjectId) (o : Option Copy) → at store.copies q ≡ o → IsRowKept store.job store.works store.given store.ended_tasks q o → is_among (ids_of store.copies) q && same_task task q.task ≡ false → ReadyRow q o
      ready_row q None e k t = absent_start q k
      ready_row q (Some copy) e k t = ready_start q copy e (and_rest (is_among (ids_of store.copies) q) (same_task task q.task) (among-ids store.copies q ∙ ap is_some e) t) k

  -- ---- the second pass: what the task borrowed is given up

  pub record IsOver (id : ObjectId) (o : Option Copy) : Type 0 where
    pub ended_row : EndedRow id o
    ready_row : ReadyRow id o

  absent_over : (id : ObjectId) → IsAbsentKept store.job store.works start.given id → IsOver id None
  absent_over id k = record { ended_row = k; ready_row = k }

  -- a copy that the task doesn't borrow
  copy_over : (id : ObjectId) (copy : Copy) → IsReady id copy → has_borrower copy task ≡ false → IsOver id (Some copy)
  copy_over id copy k none = record {
    ended_row = record {
      own = k.half.bare_kept.own;
      form = k.half.bare_kept.form;
      marks = k.half.bare_kept.marks;
      holds = k.half.bare_kept.holds;
      uses = k.half.bare_kept.uses;
      scope = record {
        of_live_task = k.of_live_task;
        by_live_tasks = λ t r. pushed_no (same_task t) store.ended_tasks task (refuted (same_task t task) (λ s. sym none ∙ subst (λ x. is_remembered copy.borrowers x ≡ true) (same_task_is t task s) r)) ∙ k.half.by_live_tasks t r;
        few_borrowers = k.half.few_borrowers;
      };
      doomed = k.kept_up;
    };
    ready_row = k;
  }

  without_marks : (copy : Copy) → AreMarksKept copy.state copy.kind copy.pinned copy.borrowers copy.backed copy.fault
      → AreMarksKept copy.state copy.kind copy.pinned (without_borrower copy task).borrowers copy.backed copy.fault
  without_marks copy k = record {
    secondary = λ e. let s = k.secondary e in (s.0, ap (filter (λ t. not (same_task task t))) s.1, s.2);
    away = k.away;
    faulty = k.faulty;
  }

  without_ready : (id : ObjectId) (copy : Copy) → IsReady id copy → IsReady id (without_borrower copy task)
  without_ready id copy k = record {
    half = record {
      bare_kept = record { own = k.half.bare_kept.own; form = k.half.bare_kept.form; marks = without_marks copy k.half.bare_kept.marks; holds = k.half.bare_kept.holds; uses = k.half.bare_kept.uses };
      by_live_tasks = λ t r. k.half.by_live_tasks t (remembered-filter task copy.borrowers t r).0;
      few_borrowers = let l = length-filter-le (λ t. not (same_task task t)) copy.borrowers in let f = k.half.few_borrowers in omega (arith, l, f);
      was = k.half.was;
    };
    of_live_task = k.of_live_task;
    kept_up = k.kept_up;
  }

  without_none : (copy : Copy) → has_borrower (without_borrower copy task) task ≡ false
  without_none copy = refuted (has_borrower (without_borrower copy task) task) (λ t. sym (remembered-filter task copy.borrowers task t).1 ∙ same_task_itself task)

  doomed_ready : (id : ObjectId) (copy : Copy) → IsReady id copy → is_kept_up store.works start.given id copy ≡ true → IsReady id (record copy { doomed = true })
  doomed_ready id copy k up = record {
    half = record {
      bare_kept = record { own = k.half.bare_kept.own; form = k.half.bare_kept.form; marks = k.half.bare_kept.marks; holds = k.half.bare_kept.holds; uses = k.half.bare_kept.uses };
      by_live_tasks = k.half.by_live_tasks;
      few_borrowers = k.half.few_borrowers;
      was = k.half.was;
    };
    of_live_task = λ d. false_true d;
    kept_up = λ _. up;
  }

  abbrev pub gives_up : ById Copy → ObjectId → ById Copy
  gives_up copies id = (give_up_one task (record start { copies = copies }) id).shape.copies

  module _ (most : ℕ) (copies : ById Copy) (id : ObjectId) (s : T (is_sorted id_cmp copies)) (n : length copies ≤ most) where
    abbrev now : Shape
    now = record start { copies = copies }

    without_change : (copy : Copy) → at copies id ≡ Some copy → IsRowChange most copies id (Some (without_borrower copy task)) (with_entry copies id (without_borrower copy task))
    without_change copy e = row_put copies id (without_borrower copy task) s n (λ f. false_true (sym (ap is_some e) ∙ f))

    scoped_visit : (copy : Copy) → at copies id ≡ Some copy → IsReady id copy → RowOf most copies id (IsOver id) (scoped now id (without_borrower copy task)).shape.copies
    unfolding sending
    scoped_visit copy e k =
        let left = without_borrower copy task in
        let ready = without_ready id copy k in
        elim (in_scope left) as (λ b. RowOf most copies id (IsOver id) (cond b (done (set_copy now id left)) (doom (set_copy now id left) id)).shape.copies) [
          | true ↦ record { row = Some left; change = without_change copy e; holds = copy_over id left ready (without_none copy) }
          | false ↦ doomed_row most copies id (IsOver id) (set_copy now id left) left (without_change copy e)
              (λ w g. absent_over id (record { no_work = w; no_grant = λ _. g }))
              (λ up. copy_over id (record left { doomed = true }) (doomed_ready id left ready up) (without_none copy))
        ]

    copy_visit : (copy : Copy) → at copies id ≡ Some copy → IsReady id copy → (a b : Bool) → has_borrower copy task ≡ b
        → RowOf most copies id (IsOver id) (cond a (done (set_copy now id (without_borrower copy task))) (cond b (scoped now id (without_borrower copy task)) (done now))).shape.copies
    copy_visit copy e k true b t = record { row = Some (without_borrower copy task); change = without_change copy e; holds = copy_over id (without_borrower copy task) (without_ready id copy k) (without_none copy) }
    copy_visit copy e k false true t = scoped_visit copy e k
    copy_visit copy e k false false t = record { row = Some copy; change = row_same copies id (Some copy) s n e; holds = copy_over id copy k t }

    give_up_visit : (o : Option Copy) → at copies id ≡ o → ReadyRow id o
        → RowOf most copies id (IsOver id) (option_map_or (λ copy. cond copy.doomed (done (set_copy now id (without_borrower copy task))) (cond (has_borrower copy task) (scoped now id (without_borrower copy task)) (done now))) o (done now)).shape.copies
    give_up_visit None e k = record { row = None; change = row_same copies id None s n e; holds = absent_over id k }
    give_up_visit (Some copy) e k = copy_visit copy e k copy.doomed (has_borrower copy task) refl

    give_up_visits : ReadyRow id (at copies id) → Visits most gives_up ReadyRow IsOver copies id
    give_up_visits k =
        let r : RowOf most copies id (IsOver id) (gives_up copies id) = give_up_visit (at copies id) refl k in
        record { row = r.row; change = r.change; again = r.holds.ready_row; done = r.holds }

  pub second_pass : (copies : ById Copy) → AreVisited most_copies ReadyRow copies → AreVisited most_copies IsOver (fold gives_up copies (ids_of store.copies))
  second_pass copies v = visited most_copies gives_up ReadyRow IsOver (λ copies id s n. give_up_visits most_copies copies id s n) (ids_of store.copies) copies v.in_order v.few
      (λ q t. v.each q)
      (λ q t. over_row q (at copies q) (v.each q) (sym (among-ids store.copies q) ∙ t))
    where
      over_row : (q : ObjectId) (o : Option Copy) → ReadyRow q o → is_some (at store.copies q) ≡ false → IsOver q o
      over_row q None k t = absent_over q k
      over_row q (Some copy) k t = false_true (sym k.half.was ∙ t)

  pub give_up_of_copies : (s : Shape) (id : ObjectId) → IsOfCopies s (give_up_one task s id).shape
  give_up_of_copies s id =
      elim (at s.copies id) as (λ o. IsOfCopies s (option_map_or (λ copy. cond copy.doomed (done (set_copy s id (without_borrower copy task))) (cond (has_borrower copy task) (scoped s id (without_borrower copy task)) (done s))) o (done s)).shape) [
        | None ↦ record { is = refl }
        | Some copy ↦ elim copy.doomed as (λ a. IsOfCopies s (cond a (done (set_copy s id (without_borrower copy task))) (cond (has_borrower copy task) (scoped s id (without_borrower copy task)) (done s))).shape) [
          | true ↦ record { is = refl }
          | false ↦ elim (has_borrower copy task) as (λ b. IsOfCopies s (cond b (scoped s id (without_borrower copy task)) (done s)).shape) [
            | true ↦ scoped_of_copies s id (without_borrower copy task)
            | false ↦ record { is = refl }
          ]
        ]
      ]

  pub doom_of_copies : (s : Shape) (id : ObjectId) → IsOfCopies s (doom s id).shape
  unfolding sending
  doom_of_copies s id = doomed_of_copies s id
