-- What a sweep leaves of the journals.
use Rattle.std.proofs.Common.{◌≡◌, ◌⊎◌, inl, inr, ℕ, ◌≤◌, Bool, true, false, cond, ◌==◌, ◌&&◌, List, [], ◌∷◌, length, Some, None, refl, sym, ap, subst, ◌∙◌, arith}
use Rattle.std.specs.Prelude.{not, nat_le, nat_lt, if◌then◌else◌, Result, Ok, Err, is_ok, OnOk, OnErr}
use Rattle.std.specs.List.{list_any}
use Rattle.std.specs.Map.{lookup}
use Rattle.std.proofs.lemmas.Bool.Decides.{nat_tests}
use Rattle.std.proofs.lemmas.List.{nil_from_length}
use Rattle.std.proofs.Math.Logic.{∥∥₁_map, ∥∥₁_elim}
use Rattle.obj_id.specs.declared.ids.JobNo.{JobNo}
use Rattle.private_store.specs.rules.Jobs.{same_job}
use Rattle.private_store.specs.rules.Shape.{Life, Shape, not_begun, live, ended, unbegun}
use Rattle.private_store.specs.rules.Contents.{View}
use Rattle.private_store.specs.rules.Replay.{ReplayState, replay_state_of, unbegun_replay, replayed}
use Rattle.store_facts.proofs.Tests.{both_left, both_right, or_cases, true_false, false_true}
use Rattle.plain_store.specs.Parts.{has_begun}
use Rattle.node_core.specs.Hosted.{Hosted, IsViewBy, Shows, empty_view, beside_at, row_at}
use Rattle.node_journal.specs.declared.entries.Agreement.{Agreement}
use Rattle.node_journal.specs.declared.entries.Agreement.TheVariants as agree
use Rattle.node_journal.specs.declared.entries.Entry.{Entry}
use Rattle.node_journal.specs.declared.entries.Line.{Line}
use Rattle.node_journal.specs.declared.entries.Line.TheVariants as line
use Rattle.node_journal.specs.Journals.{AreDue, AreEntriesNumbered, GivesDue, IsRooted, IsSwept, IsJournalOf, Journal, StillAgrees, Tells, agreement, fresh, folded, folded_if, follows, has_entries, has_grants, is_some_entry, is_this, last_of, lines_of, many_lines, most_lines, rise_above, same_entry, seems_fresh, with_notes_absorbed, with_notes_absorbed_if, step_of, swept_if, taken_of}
use Rattle.node_journal.specs.Logs.{JobLog, journal_of}
use Rattle.node_journal.proofs.Bases.{ReplayState-set}
use Rattle.node_journal.proofs.Logging.{journal_in}
use Rattle.node_journal.proofs.Numbering.{fold_numbered}
use Rattle.node_journal.proofs.Rooms.{fold_few}
use Rattle.node_journal.proofs.Rooted.{folded_rooted, rooted_after}
use Rattle.node_journal.proofs.Telling.{told_alike}
use Rattle.node_journal.proofs.WorksDue.{folded_works}

same_number : (a b : ℕ) → (a == b) ≡ true → a ≡ b
same_number a b t = grind (arith, nat_tests)

-- ---- what is so of each journal

abbrev by_parts : Bool → Bool → Journal → Journal
by_parts entries many journal = if entries then folded_if many journal else with_notes_absorbed journal

parts_told : (view : View) (entries many : Bool) (j : Journal) → IsJournalOf view j → IsJournalOf view (by_parts entries many j)
parts_told view true true j h = record { kept = h.kept; replays = h.replays; due = refl }
parts_told view true false j h = h
parts_told view false many j h = record { kept = h.kept; replays = h.replays; due = refl }

parts_taken : (entries many : Bool) (j : Journal) → taken_of (by_parts entries many j) ≡ taken_of j
parts_taken true true j = refl
parts_taken true false j = refl
parts_taken false many j = refl

parts_works : (entries many : Bool) (j : Journal) → GivesDue j → GivesDue (by_parts entries many j)
parts_works true many j h = folded_works many j h
parts_works false many j h = tt

parts_rooted : (job : ℕ) (entries many : Bool) (j : Journal) → AreDue j.base.store (lines_of j.list) → IsRooted job j.base.store → IsRooted job (by_parts entries many j).base.store
parts_rooted job true many j due r = folded_rooted job many j due r
parts_rooted job false many j due r = rooted_after job j due r

swept_told : (view : View) (dead : Bool) (j : Journal) → IsJournalOf view j → IsJournalOf view (swept_if dead j)
swept_told view true j h = parts_told view (has_entries j) (nat_le many_lines (length j.list)) j h
swept_told view false j h = h

swept_taken : (dead : Bool) (j : Journal) → taken_of (swept_if dead j) ≡ taken_of j
swept_taken true j = parts_taken (has_entries j) (nat_le many_lines (length j.list)) j
swept_taken false j = refl

swept_works : (dead : Bool) (j : Journal) → GivesDue j → GivesDue (swept_if dead j)
swept_works true j h = parts_works (has_entries j) (nat_le many_lines (length j.list)) j h
swept_works false j h = h

swept_rooted : (job : ℕ) (dead : Bool) (j : Journal) → AreDue j.base.store (lines_of j.list) → IsRooted job j.base.store → IsRooted job (swept_if dead j).base.store
swept_rooted job true j due r = parts_rooted job (has_entries j) (nat_le many_lines (length j.list)) j due r
swept_rooted job false j due r = r

pub all_swept : (node : Hosted) (before after : ℕ → Journal) (dead : ℕ → Bool) → ((job : ℕ) → after job ≡ swept_if (dead job) (before job)) → ∥ Tells node before ∥₁ → ∥ Tells node after ∥₁
all_swept node before after dead is h = told_alike node node (λ job. swept_if (dead job) (before job)) after refl is (∥∥₁_map h (λ t. record {
  views = t.views;
  shown = t.shown;
  response = λ job. swept_told (t.views job) (dead job) (before job) (t.response job);
  rooted = λ job. swept_rooted job (dead job) (before job) (t.response job).due (t.rooted job);
  taken = λ job. swept_taken (dead job) (before job) ∙ t.taken job;
  first = t.first;
  works = λ job. swept_works (dead job) (before job) (t.works job);
}))

settled_told : (view : View) (some : Bool) (j : Journal) → IsJournalOf view j → IsJournalOf view (with_notes_absorbed_if some j)
settled_told view true j h = parts_told view false false j h
settled_told view false j h = h

settled_taken : (some : Bool) (j : Journal) → taken_of (with_notes_absorbed_if some j) ≡ taken_of j
settled_taken true j = refl
settled_taken false j = refl

settled_works : (some : Bool) (j : Journal) → GivesDue j → GivesDue (with_notes_absorbed_if some j)
settled_works true j h = tt
settled_works false j h = h

settled_rooted : (job : ℕ) (some : Bool) (j : Journal) → AreDue j.base.store (lines_of j.list) → IsRooted job j.base.store → IsRooted job (with_notes_absorbed_if some j).base.store
settled_rooted job true j due r = rooted_after job j due r
settled_rooted job false j due r = r

pub all_settled : (node : Hosted) (before after : ℕ → Journal) (some : ℕ → Bool) → ((job : ℕ) → after job ≡ with_notes_absorbed_if (some job) (before job)) → ∥ Tells node before ∥₁ → ∥ Tells node after ∥₁
all_settled node before after some is h = told_alike node node (λ job. with_notes_absorbed_if (some job) (before job)) after refl is (∥∥₁_map h (λ t. record {
  views = t.views;
  shown = t.shown;
  response = λ job. settled_told (t.views job) (some job) (before job) (t.response job);
  rooted = λ job. settled_rooted job (some job) (before job) (t.response job).due (t.rooted job);
  taken = λ job. settled_taken (some job) (before job) ∙ t.taken job;
  first = t.first;
  works = λ job. settled_works (some job) (before job) (t.works job);
}))

pub sweep_numbered : (count : ℕ) (dead : Bool) (j after : Journal) → after ≡ swept_if dead j → AreEntriesNumbered count j → AreEntriesNumbered count after
sweep_numbered count dead j after e h = subst (AreEntriesNumbered count) (sym e) (by dead (has_entries j))
  where
    parts : (entries : Bool) → AreEntriesNumbered count (by_parts entries (nat_le many_lines (length j.list)) j)
    parts true = fold_numbered count (nat_le many_lines (length j.list)) j _ refl h
    parts false = record { covered = h.covered; rise = refl; above = refl; most = refl }

    by : (dead entries : Bool) → AreEntriesNumbered count (if dead then by_parts entries (nat_le many_lines (length j.list)) j else j)
    by true entries = parts entries
    by false entries = h

pub sweep_few : (dead : Bool) (j after : Journal) → after ≡ swept_if dead j → length j.list ≤ most_lines → length after.list ≤ most_lines
sweep_few dead j after e few = subst (λ (k : Journal). length k.list ≤ 8192) (sym e) (by dead (has_entries j))
  where
    parts : (entries : Bool) → length (by_parts entries (nat_le many_lines (length j.list)) j).list ≤ 8192
    parts true = fold_few (nat_le many_lines (length j.list)) j _ refl few
    parts false = omega arith

    by : (dead entries : Bool) → length (if dead then by_parts entries (nat_le many_lines (length j.list)) j else j).list ≤ 8192
    by true entries = parts entries
    by false entries = few

-- ---- one list

itself : (job : ℕ) → (job == job) ≡ true
itself job = grind (arith, nat_tests)

-- no lines are settled already
nothing_settled : (j : Journal) → j.list ≡ [] → j ≡ with_notes_absorbed j
nothing_settled j none = is j.list none
  where
    is : (ls : List Line) → ls ≡ [] → record j { list = ls } ≡ with_notes_absorbed (record j { list = ls })
    is [] e = refl
    is (l ∷ ls) e = absurd cc

pub none_settled : (job : ℕ) (journals : ℕ → Journal) → (journals job).list ≡ [] → (other : ℕ) → journals other ≡ with_notes_absorbed_if (job == other) (journals other)
none_settled job journals none other = by (job == other) refl
  where
    by : (b : Bool) → (job == other) ≡ b → journals other ≡ with_notes_absorbed_if b (journals other)
    by true t = nothing_settled (journals other) (ap (λ k. (journals k).list) (sym (same_number job other t)) ∙ none)
    by false t = refl

-- ---- a job that no step was of

-- the node shows that nothing was of it
shows_fresh : (node : Hosted) (job : ℕ) (view : View) → Shows node job view → has_begun view.shape.life ≡ false → view.shape.received ≡ [] → replay_state_of view ≡ unbegun_replay job
shows_fresh node job view h new none =
    elim (row_at node (record { 0 = job })) as (λ o. IsViewBy node.admissions.greatest (beside_at node job) job view o → replay_state_of view ≡ unbegun_replay job) [
      | Some row ↦ λ v. true_false (sym new ∙ ap (λ (s : Shape). has_begun s.life) v.shape)
      | None ↦ λ v. ap replay_state_of v.is ∙ by v.life (sym (ap (λ (w : View). has_begun w.shape.life) v.is) ∙ new) (sym (ap (λ (w : View). w.shape.received) v.is) ∙ none)
    ] h.by_row
  where
    by : (life : Life) → has_begun life ≡ false → (beside_at node job).received ≡ [] → replay_state_of (empty_view job life (beside_at node job)) ≡ unbegun_replay job
    by not_begun e r = ap (λ received. record { shape = record (unbegun job) { received = received }; order = [] }) r
    by live e r = false_true e
    by ended e r = false_true e

not_true : (b : Bool) → not b ≡ true → b ≡ false
not_true true e = true_false e
not_true false e = refl

nothing : (n : ℕ) → not (nat_lt 0 n) ≡ true → n ≡ 0
nothing n h = zero_is n (not_true (nat_lt 0 n) h)
  where
    zero_is : (n : ℕ) → nat_lt 0 n ≡ false → n ≡ 0
    zero_is n is = grind (arith, nat_tests, is)

abbrev no_more : Journal → Bool
no_more j = not (has_begun j.base.store.shape.life) && not (has_grants j.base)

module _ (node : Hosted) (journals : ℕ → Journal) (job : ℕ) (h : ∥ Tells node journals ∥₁) (seems : seems_fresh (journals job) ≡ true) where
  abbrev j : Journal
  j = journals job

  after_covered : (length j.list == 0 && (j.base.taken == 0 && no_more j)) ≡ true
  after_covered = both_right (j.covered == 0) (length j.list == 0 && (j.base.taken == 0 && no_more j)) seems

  after_list : (j.base.taken == 0 && no_more j) ≡ true
  after_list = both_right (length j.list == 0) (j.base.taken == 0 && no_more j) after_covered

  after_taken : no_more j ≡ true
  after_taken = both_right (j.base.taken == 0) (no_more j) after_list

  covered : j.covered ≡ 0
  covered = same_number j.covered 0 (both_left (j.covered == 0) (length j.list == 0 && (j.base.taken == 0 && no_more j)) seems)

  list : j.list ≡ []
  list = nil_from_length j.list (same_number (length j.list) 0 (both_left (length j.list == 0) (j.base.taken == 0 && no_more j) after_covered))

  taken : j.base.taken ≡ 0
  taken = same_number j.base.taken 0 (both_left (j.base.taken == 0) (no_more j) after_list)

  new : has_begun j.base.store.shape.life ≡ false
  new = not_true (has_begun j.base.store.shape.life) (both_left (not (has_begun j.base.store.shape.life)) (not (has_grants j.base)) after_taken)

  none : j.base.store.shape.received ≡ []
  none = nil_from_length j.base.store.shape.received (nothing (length j.base.store.shape.received) (both_right (not (has_begun j.base.store.shape.life)) (not (has_grants j.base)) after_taken))

  store : j.base.store ≡ unbegun_replay job
  store = ∥∥₁_elim h (ReplayState-set _ _) (λ t.
      let is : j.base.store ≡ replay_state_of (t.views job) = sym (ap (λ ls. replayed j.base.store (lines_of ls)) list) ∙ (t.response job).replays in
      is ∙ shows_fresh node job (t.views job) (t.shown job)
      (sym (ap (λ (b : ReplayState). has_begun b.shape.life) is) ∙ new) (sym (ap (λ (b : ReplayState). b.shape.received) is) ∙ none))

  pub is_fresh : journals job ≡ fresh job
  is_fresh = λ i. record { base = record { store = store i; taken = taken i }; covered = covered i; list = list i }

-- one whose journal is that of a fresh one may be removed
module _ (job : JobNo) (old new : List (JobNo × JobLog)) (updated : (q : JobNo) → lookup (same_job q) new ≡ cond (same_job job q) None (lookup (same_job q) old)) where
  pub journals_stay : journal_of old job.0 ≡ fresh job.0 → (other : ℕ) → journal_of new other ≡ journal_of old other
  journals_stay was other = ap (journal_in other) (updated (record { 0 = other })) ∙ by (job.0 == other) refl
    where
      by : (b : Bool) → (job.0 == other) ≡ b → journal_in other (cond b None (lookup (same_job (record { 0 = other })) old)) ≡ journal_of old other
      by true t = sym (subst (λ k. journal_of old k ≡ fresh k) (same_number job.0 other t) was)
      by false t = refl

  pub job_is_gone : lookup (same_job job) new ≡ None
  job_is_gone = updated job ∙ ap (λ b. cond b None (lookup (same_job job) old)) (itself job.0)

-- swept if there was memory for it
pub swept_if_ok : {E : Type 0} (r : Result (Unit {0}) E) (dead : ℕ → Bool) (first last : List (JobNo × JobLog))
    → OnOk r ((other : ℕ) → journal_of last other ≡ swept_if (dead other) (journal_of first other)) → OnErr r (last ≡ first)
    → (other : ℕ) → journal_of last other ≡ swept_if (is_ok r && dead other) (journal_of first other)
swept_if_ok (Ok u) dead first last ok err other = ok other
swept_if_ok (Err e) dead first last ok err other = ap (λ m. journal_of m other) err

-- ---- receipts

last_above : (low : ℕ) (ls : List Line) → rise_above low ls ≡ true → nat_le low (last_of low ls) ≡ true
last_above low [] h = grind (arith, nat_tests)
last_above low (l ∷ ls) h = lower low (step_of l) (last_of (step_of l) ls) (first low l (both_left (follows low l) (rise_above (step_of l) ls) h)) (last_above (step_of l) ls (both_right (follows low l) (rise_above (step_of l) ls) h))
  where
    first : (low : ℕ) (l : Line) → follows low l ≡ true → nat_le low (step_of l) ≡ true
    first low (line.Entry entry) f = grind (arith, nat_tests, f)
    first low (line.Note n x) f = f

    lower : (a b c : ℕ) → nat_le a b ≡ true → nat_le b c ≡ true → nat_le a c ≡ true
    lower a b c s t = grind (arith, nat_tests, s, t)

number_of : (entry : Entry) (l : Line) → is_this entry l ≡ true → step_of l ≡ entry.number
number_of entry (line.Entry own) h = same_number own.number entry.number (both_left (own.number == entry.number) (same_entry entry (line.Entry own)) h)
number_of entry (line.Note n x) h = true_false h

any_before_last : (entry : Entry) (low : ℕ) (ls : List Line) → rise_above low ls ≡ true → list_any (is_this entry) ls ≡ true → nat_le entry.number (last_of low ls) ≡ true
any_before_last entry low [] h some = true_false some
any_before_last entry low (l ∷ ls) h some = by (any_before_last entry (step_of l) ls rest) (or_cases (is_this entry l) (list_any (is_this entry) ls) some)
  where
    rest : rise_above (step_of l) ls ≡ true
    rest = both_right (follows low l) (rise_above (step_of l) ls) h

    by : (list_any (is_this entry) ls ≡ true → nat_le entry.number (last_of (step_of l) ls) ≡ true) → (is_this entry l ≡ true) ⊎ (list_any (is_this entry) ls ≡ true) → nat_le entry.number (last_of (step_of l) ls) ≡ true
    by later (inl here) = subst (λ n. nat_le n (last_of (step_of l) ls) ≡ true) (number_of entry l here) (last_above (step_of l) ls rest)
    by later (inr there) = later there

-- no note is an entry
none_this : (entry : Entry) (ls : List Line) → list_any is_some_entry ls ≡ false → list_any (is_this entry) ls ≡ false
none_this entry [] h = refl
none_this entry (line.Entry own ∷ ls) h = false_true h
none_this entry (line.Note n x ∷ ls) h = none_this entry ls h

abbrev said : Bool → Bool → Agreement
said covered some = if covered then agree.Folded else (if some then agree.Yes else agree.No)

folded_agrees : (entry : Entry) (j : Journal) → rise_above j.covered j.list ≡ true → StillAgrees true entry j (folded j)
folded_agrees entry j rise = by (nat_le entry.number (last_of j.covered j.list)) refl (nat_le entry.number j.covered) refl (list_any (is_this entry) j.list) refl
  where
    more : (a b c : ℕ) → nat_le a b ≡ true → nat_le b c ≡ true → nat_le a c ≡ true
    more a b c s t = grind (arith, nat_tests, s, t)

    by : (after : Bool) → nat_le entry.number (last_of j.covered j.list) ≡ after → (before : Bool) → nat_le entry.number j.covered ≡ before → (some : Bool) → list_any (is_this entry) j.list ≡ some
        → (said (nat_le entry.number (last_of j.covered j.list)) false ≡ said (nat_le entry.number j.covered) (list_any (is_this entry) j.list)) ⊎ (said (nat_le entry.number (last_of j.covered j.list)) false ≡ agree.Folded)
    by true a before b some s = inr (ap (λ t. said t false) a)
    by false a true b some s = true_false (sym a ∙ more entry.number j.covered (last_of j.covered j.list) b (last_above j.covered j.list rise))
    by false a false b true s = true_false (sym a ∙ any_before_last entry j.covered j.list rise s)
    by false a false b false s = inl (ap (λ t. said t false) a ∙ sym (ap (λ t. said t (list_any (is_this entry) j.list)) b ∙ ap (said false) s))

settled_agrees : (entry : Entry) (j : Journal) → has_entries j ≡ false → agreement true entry (with_notes_absorbed j) ≡ agreement true entry j
settled_agrees entry j none = ap (said (nat_le entry.number j.covered)) (sym (none_this entry j.list none))

pub sweep_agrees : (count : ℕ) (lives here : Bool) (entry : Entry) (before after : Journal) → AreEntriesNumbered count before → IsSwept lives before after → StillAgrees here entry before after
sweep_agrees count lives false entry before after h is = inl refl
sweep_agrees count lives true entry before after h (inl same) = inl (ap (agreement true entry) same)
sweep_agrees count lives true entry before after h (inr (dead, is)) = subst (StillAgrees true entry before) (sym is) (by (has_entries before) refl (nat_le many_lines (length before.list)))
  where
    by : (entries : Bool) → has_entries before ≡ entries → (many : Bool) → StillAgrees true entry before (by_parts entries many before)
    by true e true = folded_agrees entry before h.rise
    by true e false = inl refl
    by false e many = inl (settled_agrees entry before e)
