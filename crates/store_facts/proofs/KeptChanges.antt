-- The changes of a copy that commands and answers make, each of which keeps it.
use Rattle.std.proofs.Common.{◌≡◌, ℕ, ◌+◌, ◌≤◌, ◌<◌, Bool, true, false, not, cond, ◌||◌, ◌==◌, List, [], ◌∷◌, ◌++◌, length, filter, Option, Some, None, is_some, unwrap_or, refl, sym, ap, subst, ◌∙◌, arith}
use Rattle.std.specs.Prelude.{nat_le, option_and_then}
use Rattle.std.proofs.lemmas.Bool.{leb-false}
use Rattle.std.proofs.lemmas.List.{length_push}
use Rattle.std.proofs.lemmas.List.Folds.{list_any-append}
use Rattle.obj_id.specs.Ids.{same_task}
use Rattle.obj_id.specs.declared.ids.ObjectId.{ObjectId}
use Rattle.obj_id.specs.declared.ids.TaskNo.{TaskNo}
use Rattle.obj_id.specs.declared.commands.Kind.{Kind}
use Rattle.obj_id.specs.declared.commands.Kind.TheVariants.{Secondary}
use Rattle.obj_id.specs.declared.commands.CopyState.{CopyState}
use Rattle.obj_id.specs.declared.commands.CopyState.TheVariants.{Created, Sealed, Fetching}
use Rattle.private_store.specs.rules.Limits.{longest_object, most_borrowers, most_holds}
use Rattle.private_store.specs.rules.Shape.{Copy, Fetch, WorkInFlight, GrantGiven}
use Rattle.obj_id.specs.Kinds.{is_primary}
use Rattle.private_store.specs.rules.Marks.{with_holds, without_borrower}
use Rattle.private_store.specs.rules.Copies.{is_sealed, is_away}
use Rattle.private_store.specs.rules.Commands.{new_copy, fetched_copy, holds_of, all_holds}
use Rattle.private_store.specs.laws.Invariants.{AreMarksKept, AreHoldsKept, IsUseKept, IsScopeKept, IsCopyKept, are_held, are_gaps, has_extent, has_work, has_read, has_write, has_grant, is_remembered, is_restoring, is_fetching, is_pulling}
use Rattle.store_facts.proofs.KeptCopy.{IsBare, IsLoose, IsAbsentKept, has_work-split}
use Rattle.store_facts.proofs.KeptLists.{any-filter-only, length-filter-le}
use Rattle.store_facts.proofs.KeptHolds.{holds_keep}
use Rattle.store_facts.proofs.KeptEnd.{same_task_is}
use Rattle.store_facts.proofs.Tests.{false_true, or_false_left, or_false_right, refuted, true_false}

pub visible_at : (o : Option Copy) (copy : Copy) → option_and_then (λ c. cond c.doomed None (Some c)) o ≡ Some copy → (o ≡ Some copy) × (copy.doomed ≡ false)
visible_at None copy e = true_false (ap is_some e)
visible_at (Some c) copy e = by_doom c.doomed refl e
  where
    by_doom : (b : Bool) → c.doomed ≡ b → cond b None (Some c) ≡ Some copy → (Some c ≡ Some copy) × (copy.doomed ≡ false)
    by_doom true d e = true_false (ap is_some e)
    by_doom false d e = (e, sym (ap (λ o. (unwrap_or o c).doomed) e) ∙ d)

module _ {job : ℕ} {works : List WorkInFlight} {given : List GrantGiven} {ended : List TaskNo} {id : ObjectId} (copy : Copy) (h : IsCopyKept job works given ended id copy) where
  -- what its state excludes
  pub no_write_of : is_sealed copy.state ≡ false → has_write works id ≡ false
  no_write_of e = refuted (has_write works id) (λ t. sym e ∙ (h.spilled t).0)

  pub no_grant_of : is_sealed copy.state ≡ false → has_grant given id ≡ false
  no_grant_of e = refuted (has_grant given id) (λ t. sym e ∙ (h.granted t).0)

  pub unheld_of : is_sealed copy.state ≡ false → are_held copy.holds ≡ false
  unheld_of e = refuted (are_held copy.holds) (λ t. sym e ∙ h.held t)

  pub no_work_of : is_sealed copy.state ≡ false → is_restoring copy.state ≡ false → has_work works id ≡ false
  no_work_of e f = has_work-split works id ∙ ap (λ b. b || has_read works id) (no_write_of e) ∙ h.restored ∙ f

  -- the copy is sealed by its writer
  pub sealed_copy : copy.state ≡ Created → IsCopyKept job works given ended id (record copy { state = Sealed })
  sealed_copy e = record {
    own = h.own;
    form = record {
      resident = h.resident ∙ ap (λ s. has_extent s copy.fetch) e;
      in_fetch = h.in_fetch ∙ ap is_fetching e;
      fetched = λ t. true_false t;
      gaps = h.gaps;
      sized = λ _. h.sized (ap is_fetching e);
    };
    marks = record { secondary = h.secondary; away = λ t. true_false t; faulty = λ t. true_false (sym (ap is_away e) ∙ h.faulty t) };
    holds = record { held = λ _. refl; sessions = h.sessions; few_holds = h.few_holds };
    uses = record {
      granted = λ t. true_false (sym (no_grant_of (ap is_sealed e)) ∙ t);
      spilled = λ t. true_false (sym (no_write_of (ap is_sealed e)) ∙ t);
      restored = h.restored ∙ ap is_restoring e;
    };
    scope = h.scope;
    doomed = h.doomed;
  }

  -- a session has n holds
  pub held_copy : (session n : ℕ) → ((n == 0) ≡ false → is_sealed copy.state ≡ true) → n + all_holds copy ≤ most_holds + holds_of copy session → IsLoose job works given ended id (with_holds copy session n)
  held_copy session n s le = record {
    bare = record { own = h.own; form = h.form; marks = h.marks; holds = holds_keep copy.state copy.holds session n h.holds s le; uses = h.uses };
    scope = h.scope;
  }

  pub unpinned_bare : IsBare job works given id (record copy { pinned = false })
  unpinned_bare = record {
    own = h.own;
    form = h.form;
    marks = record { secondary = λ e. let s = h.secondary e in (refl, s.1, s.2); away = h.away; faulty = h.faulty };
    holds = h.holds;
    uses = h.uses;
  }

  pub borrowed_copy : (task : TaskNo) → is_primary copy.kind ≡ true → is_remembered ended task ≡ false → nat_le most_borrowers (length copy.borrowers) ≡ false → IsCopyKept job works given ended id (record copy { borrowers = copy.borrowers ++ task ∷ [] })
  borrowed_copy task p fresh few = record {
    own = h.own;
    form = h.form;
    marks = record { secondary = λ e. false_true (sym p ∙ e); away = h.away; faulty = h.faulty };
    holds = h.holds;
    uses = h.uses;
    scope = record {
      of_live_task = h.of_live_task;
      by_live_tasks = λ t r. by_task t (is_remembered copy.borrowers t) refl (sym (list_any-append (same_task t) copy.borrowers (task ∷ [])) ∙ r);
      few_borrowers = let l = length_push copy.borrowers task in let f = leb-false most_borrowers (length copy.borrowers) few in omega (arith, l, f);
    };
    doomed = h.doomed;
  }
    where
      lone : (b : Bool) → b || false ≡ true → b ≡ true
      lone true e = refl
      lone false e = e

      by_task : (t : TaskNo) (b : Bool) → is_remembered copy.borrowers t ≡ b → b || (same_task t task || false) ≡ true → is_remembered ended t ≡ false
      by_task t true e r = h.by_live_tasks t e
      by_task t false e r = subst (λ x. is_remembered ended x ≡ false) (sym (same_task_is t task (lone (same_task t task) r))) fresh

  pub without_borrower_bare : (task : TaskNo) → IsBare job works given id (without_borrower copy task)
  without_borrower_bare task = record {
    own = h.own;
    form = h.form;
    marks = record { secondary = λ e. let s = h.secondary e in (s.0, ap (filter (λ t. not (same_task task t))) s.1, s.2); away = h.away; faulty = h.faulty };
    holds = h.holds;
    uses = h.uses;
  }

  pub without_borrower_scope : (task : TaskNo) → IsScopeKept ended id copy.doomed (without_borrower copy task).borrowers
  without_borrower_scope task = record {
    of_live_task = h.of_live_task;
    by_live_tasks = λ t r. h.by_live_tasks t (any-filter-only (same_task t) (λ x. not (same_task task x)) copy.borrowers r);
    few_borrowers = let l = length-filter-le (λ t. not (same_task task t)) copy.borrowers in let f = h.few_borrowers in omega (arith, l, f);
  }

  -- a fault is answered
  pub told_copy : IsCopyKept job works given ended id (record copy { fault = None })
  told_copy = record {
    own = h.own;
    form = h.form;
    marks = record { secondary = h.secondary; away = h.away; faulty = λ t. true_false t };
    holds = h.holds;
    uses = h.uses;
    scope = h.scope;
    doomed = h.doomed;
  }

  -- a fetch goes on: its copy has this length, and an extent in the phase that has one
  pub fetched_on : copy.state ≡ Fetching → (n : ℕ) (offset : Option ℕ) (fetch : Fetch) → is_some offset ≡ is_pulling fetch.phase → are_gaps n fetch.phase ≡ true
      → IsCopyKept job works given ended id (record copy { length = n; offset = offset; fetch = Some fetch })
  fetched_on e n offset fetch r g = record {
    own = h.own;
    form = record {
      resident = r ∙ sym (ap (λ s. has_extent s (Some fetch)) e);
      in_fetch = sym (ap is_fetching e);
      fetched = h.fetched;
      gaps = g;
      sized = λ t. false_true (sym (ap is_fetching e) ∙ t);
    };
    marks = h.marks;
    holds = h.holds;
    uses = h.uses;
    scope = h.scope;
    doomed = h.doomed;
  }

  -- a fetch has brought the last chunk
  pub arrived_copy : copy.state ≡ Fetching → is_some copy.offset ≡ true → (0 < copy.length) × (copy.length ≤ longest_object) → IsCopyKept job works given ended id (record copy { state = Sealed; fetch = None })
  arrived_copy e r s = record {
    own = h.own;
    form = record { resident = r; in_fetch = refl; fetched = λ t. true_false t; gaps = refl; sized = λ _. s };
    marks = record { secondary = h.secondary; away = λ t. true_false t; faulty = λ t. true_false (sym (ap is_away e) ∙ h.faulty t) };
    holds = record { held = λ _. refl; sessions = h.sessions; few_holds = h.few_holds };
    uses = record {
      granted = λ t. true_false (sym (no_grant_of (ap is_sealed e)) ∙ t);
      spilled = λ t. true_false (sym (no_write_of (ap is_sealed e)) ∙ t);
      restored = h.restored ∙ ap is_restoring e;
    };
    scope = h.scope;
    doomed = h.doomed;
  }

-- ---- new copies

module _ (job : ℕ) (works : List WorkInFlight) (given : List GrantGiven) (ended : List TaskNo) (id : ObjectId) (own : id.job.0 ≡ job) (h : IsAbsentKept job works given id) (live : is_remembered ended id.task ≡ false) where
  no_write_here : has_write works id ≡ false
  no_write_here = or_false_left (has_write works id) (has_read works id) (sym (has_work-split works id) ∙ h.no_work)

  no_read_here : has_read works id ≡ false
  no_read_here = or_false_right (has_write works id) (has_read works id) (sym (has_work-split works id) ∙ h.no_work)

  new_marks : (kind : Kind) → AreMarksKept Created kind (is_primary kind) [] None None
  new_marks kind = record { secondary = λ e. (e, refl, refl); away = λ t. true_false t; faulty = λ t. true_false t }

  no_holds : (state : CopyState) → AreHoldsKept state []
  no_holds state = record { held = λ t. true_false t; sessions = refl; few_holds = omega arith }

  new_scope : (doomed : Bool) → IsScopeKept ended id doomed []
  new_scope doomed = record { of_live_task = λ _. live; by_live_tasks = λ t r. true_false r; few_borrowers = omega arith }

  new_use : (state : CopyState) (kind : Kind) → is_restoring state ≡ false → IsUseKept works given id state kind None
  new_use state kind e = record { granted = λ t. true_false (sym (h.no_grant own) ∙ t); spilled = λ t. true_false (sym no_write_here ∙ t); restored = no_read_here ∙ sym e }

  pub new_kept : (kind : Kind) (n offset : ℕ) → 0 < n → n ≤ longest_object → IsCopyKept job works given ended id (new_copy kind n offset)
  new_kept kind n offset pos long = record {
    own = own;
    form = record { resident = refl; in_fetch = refl; fetched = λ t. true_false t; gaps = refl; sized = λ _. (pos, long) };
    marks = new_marks kind;
    holds = no_holds Created;
    uses = new_use Created kind refl;
    scope = new_scope false;
    doomed = λ t. true_false t;
  }

  pub fetched_kept : (number : ℕ) → IsCopyKept job works given ended id (fetched_copy number)
  fetched_kept number = record {
    own = own;
    form = record { resident = refl; in_fetch = refl; fetched = λ t. refl; gaps = refl; sized = λ t. false_true t };
    marks = record { secondary = λ e. (refl, refl, refl); away = λ t. true_false t; faulty = λ t. true_false t };
    holds = no_holds Fetching;
    uses = new_use Fetching Secondary refl;
    scope = new_scope false;
    doomed = λ t. true_false t;
  }
