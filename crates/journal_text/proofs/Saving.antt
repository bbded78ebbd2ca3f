-- A journal with an entry or a note more.
use Rattle.std.proofs.Common.{◌≡◌, ℕ, suc, Bool, true, false, cond, ◌||◌, ◌&&◌, ◌+◌, ◌≤◌, List, [], ◌∷◌, ◌++◌, Option, Some, is_some, refl, sym, ap, subst, ◌∙◌, arith}
use Rattle.std.specs.Prelude.{nat_le, unwrap_or}
use Rattle.std.specs.Map.{lookup}
use Rattle.std.proofs.lemmas.Bool.Decides.{nat_tests}
use Rattle.store_facts.proofs.Tests.{false_true}
use Rattle.schedule_text.specs.declared.lines.JobAt.{JobAt}
use Rattle.journal_text.specs.declared.saved.Counts.{Counts}
use Rattle.journal_text.specs.declared.saved.JournalItem.{JournalItem}
use Rattle.journal_text.proofs.SamePlaces.{same_place-equal}
use Rattle.journal_text.specs.Saved.{lines_counted, counts_at, has_no_room, is_folded, saved_line_text, saved_lines_of, items_of_journal, most_marks, same_job_place, Saved, IsSaved, IsTypedLine}

abbrev TableOf : Type 0
TableOf = List (JobAt × Counts)

one_more : (n : ℕ) → n + 1 ≡ suc n
one_more n = omega (arith)

-- no more lines than entries and notes
fewer : (place : JobAt) (marks : List JournalItem) → saved_lines_of place marks ≤ items_of_journal place marks
fewer place [] = omega (arith)
fewer place (mark ∷ before) = by (same_job_place mark.place place) (is_some mark.line) (fewer place before)
  where
    by : (here lined : Bool) → saved_lines_of place before ≤ items_of_journal place before
        → cond (here && lined) (suc (saved_lines_of place before)) (saved_lines_of place before) ≤ cond here (suc (items_of_journal place before)) (items_of_journal place before)
    by true true h = omega (arith, h)
    by true false h = omega (arith, h)
    by false lined h = h

module _ (saved : Saved) (marks : List JournalItem) (mark : JournalItem) (counts : Counts) (h : IsSaved saved marks) (found : counts ≡ counts_at saved.counts mark.place) where
  now : is_folded marks ≡ false → counts ≡ record { marks = items_of_journal mark.place marks; lines = saved_lines_of mark.place marks }
  now whole = found ∙ h.counts whole mark.place

  is_full : (b : Bool) → is_folded marks ≡ b → has_no_room saved counts ≡ true → (b || nat_le most_marks (items_of_journal mark.place marks)) ≡ true
  is_full true folded full = refl
  is_full false folded full =
      let m : counts.marks ≡ items_of_journal mark.place marks = ap (λ c. c.marks) (now folded) in
      let l : counts.lines ≡ saved_lines_of mark.place marks = ap (λ c. c.lines) (now folded) in
      let less : saved_lines_of mark.place marks ≤ items_of_journal mark.place marks = fewer mark.place marks in
      let so : (nat_le most_marks counts.marks || nat_le most_marks counts.lines) ≡ true =
      subst (λ b. (b || (nat_le most_marks counts.marks || nat_le most_marks counts.lines)) ≡ true) (h.folded ∙ folded) full in
      grind (arith, nat_tests, m, l, less, so)

  -- its list is full, and is folded
  pub folds : has_no_room saved counts ≡ true → IsSaved (record saved { folded = true }) (mark ∷ marks)
  folds full =
      let yes = is_full (is_folded marks) refl full in
      record {
        folded = sym yes;
        counts = λ whole. false_true (sym yes ∙ whole);
        text = λ whole. false_true (sym yes ∙ whole);
        typed = λ whole. false_true (sym yes ∙ whole);
      }

  whole_so : has_no_room saved counts ≡ false → (is_folded marks ≡ false) × (nat_le most_marks counts.marks ≡ false)
  whole_so room = (sym h.folded ∙ first saved.folded room, second saved.folded (nat_le most_marks counts.marks) room)
    where
      first : (a : Bool) → (a || (nat_le most_marks counts.marks || nat_le most_marks counts.lines)) ≡ false → a ≡ false
      first true e = e
      first false e = refl

      second : (a b : Bool) → (a || (b || nat_le most_marks counts.lines)) ≡ false → b ≡ false
      second a true e = either a e
        where
          either : (a : Bool) → (a || true) ≡ false → true ≡ false
          either true e = e
          either false e = e
      second a false e = refl

  module _ (room : has_no_room saved counts ≡ false) (new : TableOf) (text : List ℕ)
      (updated : (q : JobAt) → lookup (same_job_place q) new ≡ cond (same_job_place mark.place q) (Some (lines_counted counts mark.line)) (lookup (same_job_place q) saved.counts))
      (written : text ≡ saved.text ++ saved_line_text mark.place (counts.lines + 1) mark.line) (is_typed : IsTypedLine mark.place (counts.lines + 1) mark.line) where
    whole : is_folded marks ≡ false
    whole = (whole_so room).0

    is : counts ≡ record { marks = items_of_journal mark.place marks; lines = saved_lines_of mark.place marks }
    is = now whole

    unfolded : (is_folded marks || nat_le most_marks (items_of_journal mark.place marks)) ≡ false
    unfolded = ap (λ b. b || nat_le most_marks (items_of_journal mark.place marks)) whole ∙ ap (λ c. nat_le most_marks c.marks) (sym is) ∙ (whole_so room).1

    at_each : (q : JobAt) → counts_at new q ≡ record { marks = items_of_journal q (mark ∷ marks); lines = saved_lines_of q (mark ∷ marks) }
    at_each q = ap in_it (updated q) ∙ by (same_job_place mark.place q) refl
      where
        in_it : Option Counts → Counts
        in_it o = unwrap_or o (record { marks = 0; lines = 0 })

        by : (b : Bool) → same_job_place mark.place q ≡ b → in_it (cond b (Some (lines_counted counts mark.line)) (lookup (same_job_place q) saved.counts))
            ≡ record { marks = cond b (suc (items_of_journal q marks)) (items_of_journal q marks); lines = cond (b && is_some mark.line) (suc (saved_lines_of q marks)) (saved_lines_of q marks) }
        by true same = ap (λ c. lines_counted c mark.line) (is ∙ ap (λ p. record { marks = items_of_journal p marks; lines = saved_lines_of p marks }) (same_place-equal mark.place q same))
        by false other = h.counts whole q

    -- it has one more
    pub adds : IsSaved (record { text = text; counts = new; folded = saved.folded }) (mark ∷ marks)
    adds = record {
      folded = h.folded ∙ whole ∙ sym unfolded;
      counts = λ w. at_each;
      text = λ w. written ∙ ap (λ n. saved.text ++ saved_line_text mark.place n mark.line) (one_more counts.lines) ∙ ap (λ c. saved.text ++ saved_line_text mark.place (suc c.lines) mark.line) is ∙ ap (λ t. t ++ saved_line_text mark.place (suc (saved_lines_of mark.place marks)) mark.line) (h.text whole);
      typed = λ w. (subst (λ n. IsTypedLine mark.place n mark.line) (one_more counts.lines ∙ ap (λ c. suc c.lines) is) is_typed, h.typed whole);
    }
