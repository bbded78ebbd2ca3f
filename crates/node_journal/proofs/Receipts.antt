-- An entry that a receipt names has the answer that is due.
use Rattle.std.proofs.Common.{◌≡◌, ℕ, Bool, true, false, ◌||◌, List, [], ◌∷◌, ◌++◌, map, Option, Some, None, refl, sym, ap, subst, ◌∙◌}
use Rattle.std.specs.Prelude.{if◌then◌else◌, nat_le, option_map, option_to_list}
use Rattle.std.specs.List.{list_any}
use Rattle.std.proofs.Math.Logic.{∥∥₁_map}
use Rattle.private_store.specs.declared.inputs.Judged.{Judged}
use Rattle.private_store.specs.rules.Replay.{ReplayState, Line as Replayed, replayed, replay_after, replay_step}
use Rattle.store_facts.proofs.Tests.{both_right}
use Rattle.node_core.specs.Hosted.{Hosted}
use Rattle.node_journal.specs.declared.entries.Agreement.TheVariants as agree
use Rattle.node_journal.specs.declared.entries.Entry.{Entry}
use Rattle.node_journal.specs.declared.entries.Line.{Line}
use Rattle.node_journal.specs.declared.entries.Line.TheVariants as line
use Rattle.node_journal.specs.Replies.{unlisted}
use Rattle.node_journal.specs.Journals.{Journal, AreDue, AreLinesDue, IsLineDue, Tells, agreement, is_entry, is_this, journal_line_of, lines_of, same_entry, taken_after, taken_from}
use Rattle.node_journal.specs.Receipts.{AnswersAgree, IsDueIn}
use Rattle.node_journal.proofs.Lists.{replayed_one}
use Rattle.node_journal.proofs.SameEntries.{entry_equal}

-- ---- where it stands

record Stands (entry : Entry) (ls : List Line) : Type 0 where
  pub before : List Line
  pub after : List Line
  pub is : ls ≡ before ++ line.Entry entry ∷ after

later : (entry : Entry) (l : Line) (ls : List Line) → Stands entry ls → Stands entry (l ∷ ls)
later entry l ls s = record { before = l ∷ s.before; after = s.after; is = ap (λ xs. l ∷ xs) s.is }

stands : (entry : Entry) (ls : List Line) → list_any (is_this entry) ls ≡ true → Stands entry ls
stands entry [] h = absurd cc
stands entry (line.Note n x ∷ ls) h = later entry (line.Note n x) ls (stands entry ls h)
stands entry (line.Entry own ∷ ls) h = by (is_this entry (line.Entry own)) refl (λ some. stands entry ls some) h
  where
    -- what compares as equal is equal
    here : is_this entry (line.Entry own) ≡ true → own ≡ entry
    here is = sym (entry_equal entry own (both_right (is_entry entry.number (line.Entry own)) (same_entry entry (line.Entry own)) is))

    by : (b : Bool) → is_this entry (line.Entry own) ≡ b → (list_any (is_this entry) ls ≡ true → Stands entry ls) → (b || list_any (is_this entry) ls) ≡ true → Stands entry (line.Entry own ∷ ls)
    by true is on some = record { before = []; after = ls; is = ap (λ e. line.Entry e ∷ ls) (here is) }
    by false is on some = later entry (line.Entry own) ls (on some)

-- ---- what it is answered

abbrev rest_of : {X : Type 0} → List X → List X
rest_of [] = []
rest_of (x ∷ xs) = xs

abbrev first_of : {X : Type 0} → X → List X → X
first_of y [] = y
first_of y (x ∷ xs) = x

after_one : (replay_state : ReplayState) (o : Option Replayed) (rest : List Replayed) → AreDue replay_state (option_to_list o ++ rest) → AreDue (replayed replay_state (option_to_list o)) rest
after_one replay_state None rest h = h
after_one replay_state (Some t) rest h = ap rest_of h

due_first : (replay_state : ReplayState) (own : Entry) (o : Option Judged) (x : Judged) (rest : List Replayed) → o ≡ Some x
    → AreDue replay_state (option_to_list (option_map (λ (y : Judged). record { input = y; reply = own.reply }) o) ++ rest) → own.reply ≡ unlisted (replay_step replay_state x).reply
due_first replay_state own o x rest is h =
    let due : AreDue replay_state (record { input = x; reply = own.reply } ∷ rest) = subst (λ p. AreDue replay_state (option_to_list (option_map (λ (y : Judged). record { input = y; reply = own.reply }) p) ++ rest)) is h in
    ap (first_of own.reply) due

due_at : (replay_state : ReplayState) (before : List Line) (own : Entry) (after : List Line) (x : Judged) → own.input ≡ Some x → AreDue replay_state (lines_of (before ++ line.Entry own ∷ after))
    → own.reply ≡ unlisted (replay_step (replayed replay_state (lines_of before)) x).reply
due_at replay_state [] own after x is h = due_first replay_state own own.input x (lines_of after) is h
due_at replay_state (l ∷ before) own after x is h =
    due_at (replayed replay_state (option_to_list (journal_line_of l))) before own after x is (after_one replay_state (journal_line_of l) (lines_of (before ++ line.Entry own ∷ after)) h)
    ∙ ap (λ b. unlisted (replay_step b x).reply) (sym (replayed_one replay_state (journal_line_of l) (lines_of before)))

given_at : (replay_state : ReplayState) (n : ℕ) (before : List Line) (own : Entry) (after : List Line) → AreLinesDue replay_state n (before ++ line.Entry own ∷ after) → IsLineDue (replayed replay_state (lines_of before)) (taken_from n before) (line.Entry own)
given_at replay_state n [] own after h = h.0
given_at replay_state n (l ∷ before) own after h =
    subst (λ b. IsLineDue b (taken_from (taken_after n l) before) (line.Entry own)) (sym (replayed_one replay_state (journal_line_of l) (lines_of before)))
    (given_at (replayed replay_state (option_to_list (journal_line_of l))) (taken_after n l) before own after h.1)

-- ---- a receipt that the journal has

found : (here : Bool) (entry : Entry) (journal : Journal) → agreement here entry journal ≡ agree.Yes → list_any (is_this entry) journal.list ≡ true
found false entry journal h = absurd cc
found true entry journal h = by (nat_le entry.number journal.covered) (list_any (is_this entry) journal.list) h
  where
    by : (covered some : Bool) → (if covered then agree.Folded else (if some then agree.Yes else agree.No)) ≡ agree.Yes → some ≡ true
    by true some e = absurd cc
    by false true e = refl
    by false false e = absurd cc

line_due : {entry : Entry} (j : Journal) → AreLinesDue j.base.store j.base.taken j.list → (s : Stands entry j.list) → IsLineDue (replayed j.base.store (lines_of s.before)) (taken_from j.base.taken s.before) (line.Entry entry)
line_due {entry} j works s = given_at j.base.store j.base.taken s.before entry s.after (subst (AreLinesDue j.base.store j.base.taken) s.is works)

pub receipt_due : (node : Hosted) (journals : ℕ → Journal) (job : ℕ) (here : Bool) (entry : Entry) → ∥ Tells node journals ∥₁ → agreement here entry (journals job) ≡ agree.Yes → ∥ IsDueIn (journals job) entry ∥₁
receipt_due node journals job here entry response h = ∥∥₁_map response (λ t.
    let base = (journals job).base in
    let s = stands entry (journals job).list (found here entry (journals job) h) in
    record {
      before = s.before;
      after = s.after;
      stands = s.is;
      due = λ x is. due_at base.store s.before entry s.after x is (subst (λ ls. AreDue base.store (lines_of ls)) s.is (t.response job).due);
      given = λ take. ((line_due (journals job) (t.works job) s).0.0 take).1;
      timely = (line_due (journals job) (t.works job) s).1;
    })

-- ---- two journals

abbrev after_inputs : ReplayState → List Judged → ReplayState
after_inputs replay_state [] = replay_state
after_inputs replay_state (x ∷ xs) = after_inputs (replay_after replay_state x) xs

-- what is replayed are the inputs
by_inputs : (replay_state : ReplayState) (ls : List Replayed) → replayed replay_state ls ≡ after_inputs replay_state (map (λ (l : Replayed). l.input) ls)
by_inputs replay_state [] = refl
by_inputs replay_state (l ∷ ls) = by_inputs (replay_after replay_state l.input) ls

pub answers_agree : (first second : Journal) (a b : Entry) → AnswersAgree first second a b
answers_agree first second a b d e base same x is was =
    let one = by_inputs first.base.store (lines_of d.before) in
    let two = by_inputs second.base.store (lines_of e.before) in
    d.due x is
    ∙ ap (λ replay_state. unlisted (replay_step replay_state x).reply) (one ∙ (λ i. after_inputs (base i) (same i)) ∙ sym two)
    ∙ sym (e.due x was)
