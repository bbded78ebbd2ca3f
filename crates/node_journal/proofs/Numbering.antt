-- Numbers of lines.
use Rattle.std.proofs.Common.{◌≡◌, ◌≢◌, ◌⊎◌, inl, inr, ℕ, ◌+◌, ◌<◌, Bool, true, false, cond, ◌==◌, List, [], ◌∷◌, ◌++◌, map, append-nil, append_assoc, refl, ap, subst, sym, ◌∙◌, arith}
use Rattle.std.specs.Prelude.{nat_lt, nat_le, if◌then◌else◌, filter}
use Rattle.std.specs.List.{list_all, list_any}
use Rattle.std.proofs.lemmas.Bool.Decides.{nat_tests}
use Rattle.store_facts.proofs.Tests.{both, both_left, both_right, or_cases, true_false}
use Rattle.node_core.specs.Steps.{JobJudged}
use Rattle.node_journal.specs.declared.entries.Entry.{Entry}
use Rattle.node_journal.specs.declared.entries.Line.{Line}
use Rattle.node_journal.specs.declared.entries.Line.TheVariants as line
use Rattle.node_journal.specs.declared.entries.Agreement.TheVariants as agree
use Rattle.node_journal.specs.Journals.{Journal, fresh, notes_for, agreement, is_entry, is_this, same_entry, step_of, last_of, follows, rise_above, AreEntriesNumbered, folded_if, with_lines}

abbrev all_within : ℕ → List Line → Bool
all_within most ls = list_all (λ (l : Line). nat_le (step_of l) most) ls

within_more : (count : ℕ) (ls : List Line) → all_within count ls ≡ true → all_within (count + 1) ls ≡ true
within_more count [] h = refl
within_more count (l ∷ ls) h =
    both (nat_le (step_of l) (count + 1)) (all_within (count + 1) ls)
    (more (step_of l) (both_left (nat_le (step_of l) count) (all_within count ls) h))
    (within_more count ls (both_right (nat_le (step_of l) count) (all_within count ls) h))
  where
    more : (n : ℕ) → nat_le n count ≡ true → nat_le n (count + 1) ≡ true
    more n t = grind (arith, nat_tests)

all-snoc : (test : Line → Bool) (ls : List Line) (l : Line) → test l ≡ true → list_all test ls ≡ true → list_all test (ls ++ l ∷ []) ≡ true
all-snoc test [] l is h = both (test l) true is refl
all-snoc test (first ∷ ls) l is h =
    both (test first) (list_all test (ls ++ l ∷ [])) (both_left (test first) (list_all test ls) h) (all-snoc test ls l is (both_right (test first) (list_all test ls) h))

-- the last number is one of them, or the first
last_within : (most low : ℕ) (ls : List Line) → nat_le low most ≡ true → all_within most ls ≡ true → nat_le (last_of low ls) most ≡ true
last_within most low [] le h = le
last_within most low (l ∷ ls) le h = last_within most (step_of l) ls (both_left (nat_le (step_of l) most) (all_within most ls) h) (both_right (nat_le (step_of l) most) (all_within most ls) h)

-- what follows the last number follows each one up to it
follows_less : (low most : ℕ) (l : Line) → nat_le low most ≡ true → follows most l ≡ true → follows low l ≡ true
follows_less low most (line.Entry entry) le f = grind (arith, nat_tests, le, f)
follows_less low most (line.Note n x) le f = grind (arith, nat_tests, le, f)

rise-snoc : (low most : ℕ) (ls : List Line) (l : Line) → nat_le low most ≡ true → follows most l ≡ true → all_within most ls ≡ true → rise_above low ls ≡ true → rise_above low (ls ++ l ∷ []) ≡ true
rise-snoc low most [] l le f w h = both (follows low l) true (follows_less low most l le f) refl
rise-snoc low most (first ∷ ls) l le f w h =
    both (follows low first) (rise_above (step_of first) (ls ++ l ∷ []))
    (both_left (follows low first) (rise_above (step_of first) ls) h)
    (rise-snoc (step_of first) most ls l
    (both_left (nat_le (step_of first) most) (all_within most ls) w) f
    (both_right (nat_le (step_of first) most) (all_within most ls) w)
    (both_right (follows low first) (rise_above (step_of first) ls) h))

within_itself : (n : ℕ) → nat_le n n ≡ true
within_itself n = grind (arith, nat_tests)

less_next : (n : ℕ) → nat_lt n (n + 1) ≡ true
less_next n = grind (arith, nat_tests)

le_next : (a b : ℕ) → nat_le a b ≡ true → nat_le a (b + 1) ≡ true
le_next a b h = grind (arith, nat_tests, h)

lt_next : (a b : ℕ) → nat_le a b ≡ true → nat_lt a (b + 1) ≡ true
lt_next a b h = grind (arith, nat_tests, h)

-- a note of the last step
note_numbered : (count : ℕ) (j : Journal) (x : JobJudged) → nat_lt j.covered count ≡ true → AreEntriesNumbered count j → AreEntriesNumbered count (with_lines j (line.Note count x.input ∷ []))
note_numbered count j x past h = record {
  covered = h.covered;
  rise = rise-snoc j.covered count j.list (line.Note count x.input) h.covered (within_itself count) h.most h.rise;
  above = all-snoc (λ l. nat_lt j.covered (step_of l)) j.list (line.Note count x.input) past h.above;
  most = all-snoc (λ l. nat_le (step_of l) count) j.list (line.Note count x.input) (within_itself count) h.most;
}

notes_numbered : (count job : ℕ) (j : Journal) (notes : List JobJudged) → nat_lt j.covered count ≡ true → AreEntriesNumbered count j → AreEntriesNumbered count (with_lines j (notes_for count notes job))
notes_numbered count job j notes past h = by (filter (λ (note : JobJudged). note.job == job) notes) j past h
  where
    by : (xs : List JobJudged) (j : Journal) → nat_lt j.covered count ≡ true → AreEntriesNumbered count j → AreEntriesNumbered count (with_lines j (map (λ (note : JobJudged). line.Note count note.input) xs))
    by [] j past h = subst (λ ls. AreEntriesNumbered count (record j { list = ls })) (sym (append-nil j.list)) h
    by (x ∷ xs) j past h =
        subst (λ ls. AreEntriesNumbered count (record j { list = ls })) (append_assoc j.list (line.Note count x.input ∷ []) (map (λ (note : JobJudged). line.Note count note.input) xs))
        (by xs (with_lines j (line.Note count x.input ∷ [])) past (note_numbered count j x past h))

-- an entry of the next step, of this job or another, and its notes
next_numbered : (count job : ℕ) (own : Bool) (j : Journal) (entry : Entry) (notes : List JobJudged) → entry.number ≡ count + 1
    → AreEntriesNumbered count j → AreEntriesNumbered (count + 1) (with_lines j ((if own then line.Entry entry ∷ [] else []) ++ notes_for (count + 1) notes job))
next_numbered count job own j entry notes is h = by own
  where
    past : nat_lt j.covered (count + 1) ≡ true
    past = lt_next j.covered count h.covered

    without : AreEntriesNumbered (count + 1) j
    without = record { covered = le_next j.covered count h.covered; rise = h.rise; above = h.above; most = within_more count j.list h.most }

    with_entry : AreEntriesNumbered (count + 1) (with_lines j (line.Entry entry ∷ []))
    with_entry = record {
      covered = without.covered;
      rise = rise-snoc j.covered count j.list (line.Entry entry) h.covered (ap (nat_lt count) is ∙ less_next count) h.most h.rise;
      above = all-snoc (λ l. nat_lt j.covered (step_of l)) j.list (line.Entry entry) (ap (nat_lt j.covered) is ∙ past) h.above;
      most = all-snoc (λ l. nat_le (step_of l) (count + 1)) j.list (line.Entry entry) (ap (λ n. nat_le n (count + 1)) is ∙ within_itself (count + 1)) (within_more count j.list h.most);
    }

    by : (b : Bool) → AreEntriesNumbered (count + 1) (with_lines j (cond b (line.Entry entry ∷ []) [] ++ notes_for (count + 1) notes job))
    by true = subst (λ ls. AreEntriesNumbered (count + 1) (record j { list = ls })) (append_assoc j.list (line.Entry entry ∷ []) (notes_for (count + 1) notes job)) (notes_numbered (count + 1) job (with_lines j (line.Entry entry ∷ [])) notes past with_entry)
    by false = notes_numbered (count + 1) job j notes past without

-- folding keeps that
folded_numbered : (count : ℕ) (b : Bool) (j : Journal) → AreEntriesNumbered count j → AreEntriesNumbered count (folded_if b j)
folded_numbered count true j h = record { covered = last_within count j.covered j.list h.covered h.most; rise = refl; above = refl; most = refl }
folded_numbered count false j h = h

pub all_numbered : (count job : ℕ) (own full : Bool) (j after : Journal) (entry : Entry) (notes : List JobJudged) → entry.number ≡ count + 1
    → after ≡ with_lines (folded_if full j) ((if own then line.Entry entry ∷ [] else []) ++ notes_for (count + 1) notes job) → AreEntriesNumbered count j → AreEntriesNumbered (count + 1) after
all_numbered count job own full j after entry notes is e h = subst (AreEntriesNumbered (count + 1)) (sym e) (next_numbered count job own (folded_if full j) entry notes is (folded_numbered count full j h))

pub fold_numbered : (count : ℕ) (b : Bool) (j after : Journal) → after ≡ folded_if b j → AreEntriesNumbered count j → AreEntriesNumbered count after
fold_numbered count b j after e h = subst (AreEntriesNumbered count) (sym e) (folded_numbered count b j h)

pub none_numbered : (job : ℕ) (j : Journal) → j ≡ fresh job → AreEntriesNumbered 0 j
none_numbered job j is = subst (AreEntriesNumbered 0) (sym is) (record { covered = refl; rise = refl; above = refl; most = refl })

-- ---- what a journal doesn't say No of

entry_within : (count n : ℕ) (l : Line) → is_entry n l ≡ true → nat_le (step_of l) count ≡ true → nat_le n count ≡ true
entry_within count n (line.Entry entry) is le = grind (arith, nat_tests, is, le)
entry_within count n (line.Note m x) is le = true_false is

any_within : (count : ℕ) (entry : Entry) (ls : List Line) → list_any (is_this entry) ls ≡ true → all_within count ls ≡ true → nat_le entry.number count ≡ true
any_within count entry [] is le = true_false is
any_within count entry (l ∷ ls) is le =
    by (any_within count entry ls) (or_cases (is_this entry l) (list_any (is_this entry) ls) is)
  where
    by : (list_any (is_this entry) ls ≡ true → all_within count ls ≡ true → nat_le entry.number count ≡ true) → (is_this entry l ≡ true) ⊎ (list_any (is_this entry) ls ≡ true) → nat_le entry.number count ≡ true
    by rest (inl here) = entry_within count entry.number l (both_left (is_entry entry.number l) (same_entry entry l) here) (both_left (nat_le (step_of l) count) (all_within count ls) le)
    by rest (inr there) = rest there (both_right (nat_le (step_of l) count) (all_within count ls) le)

-- it is of this node
pub agreed_here : (here : Bool) (entry : Entry) (j : Journal) → agreement here entry j ≢ agree.No → here ≡ true
agreed_here true entry j not = refl
agreed_here false entry j not = absurd (not refl)

-- and of a step that was made
pub agreed_within : (count : ℕ) (entry : Entry) (here : Bool) (j : Journal) → AreEntriesNumbered count j → agreement here entry j ≢ agree.No → nat_le entry.number count ≡ true
agreed_within count entry false j h not = absurd (not refl)
agreed_within count entry true j h not = by (nat_le entry.number j.covered) refl (list_any (is_this entry) j.list) refl
  where
    below : (n : ℕ) → nat_le n j.covered ≡ true → nat_le n count ≡ true
    below n le = grind (arith, nat_tests, le, h.covered)

    by : (b : Bool) → nat_le entry.number j.covered ≡ b → (c : Bool) → list_any (is_this entry) j.list ≡ c → nat_le entry.number count ≡ true
    by true le c e = below entry.number le
    by false le true e = any_within count entry j.list e h.most
    by false le false e =
        absurd (not (ap (λ b. cond b agree.Folded (cond (list_any (is_this entry) j.list) agree.Yes agree.No)) le ∙ ap (λ b. cond b agree.Yes agree.No) e))

pub same_here : (a b : ℕ) → (a == b) ≡ true → a ≡ b
same_here a b h = grind (arith, nat_tests, h)

pub less_than_next : (n count : ℕ) (next response : Entry) → nat_le n count ≡ true → next ≡ response → response.number ≡ count + 1 → n < next.number
less_than_next n count next response le is number = by next.number (ap (λ (e : Entry). e.number) is ∙ number)
  where
    by : (m : ℕ) → m ≡ count + 1 → n < m
    by m e = grind (arith, nat_tests, le, e)
