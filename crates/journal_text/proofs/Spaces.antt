-- The spaces round the equals sign.
use Rattle.std.proofs.Common.{◌≡◌, ◌≢◌, ℕ, List, ◌++◌, codes, Option, Some, None, sym, subst, ◌∙◌}
use Rattle.std.proofs.lemmas.List.{append_cancel_left, append_cancel_right}
use Rattle.schedule_text.specs.Fields.{Reads, fields_of}
use Rattle.journal_text.specs.declared.entry.Entry.{Entry}
use Rattle.journal_text.specs.declared.entry.Version.{Version}
use Rattle.journal_text.specs.Reading.{IsEntry, IsSpaced}

module _ (version : Version) (front back : List ℕ) where
  pub Reads-unspaced_before : ((asked : List ℕ) → front ≢ asked ++ codes " ") → Reads {X = Entry} None (IsSpaced version front back)
  Reads-unspaced_before unspaced = record { sound = tt; whole = λ x is. absurd (unspaced is.asked is.before) }

  pub Reads-unspaced_after : ((answer : List ℕ) → back ≢ codes " " ++ answer) → Reads {X = Entry} None (IsSpaced version front back)
  Reads-unspaced_after unspaced = record { sound = tt; whole = λ x is. absurd (unspaced is.answer is.after) }

  module _ (asked answer : List ℕ) (before : front ≡ asked ++ codes " ") (after : back ≡ codes " " ++ answer) where
    same : (x : Entry) → IsSpaced version front back x → IsEntry version (fields_of asked) (fields_of answer) x
    same x is =
        let told_is : is.asked ≡ asked = append_cancel_right is.asked asked (codes " ") (sym is.before ∙ before) in
        let answer_is : is.answer ≡ answer = append_cancel_left (codes " ") is.answer answer (sym is.after ∙ after) in
        let P : List ℕ → Type 0 = λ text. IsEntry version (fields_of text) (fields_of is.answer) x in
        let Q : List ℕ → Type 0 = λ text. IsEntry version (fields_of asked) (fields_of text) x in
        subst Q answer_is (subst P told_is is.spelled)

    pub Reads-spaced : (read : Option Entry) → Reads read (IsEntry version (fields_of asked) (fields_of answer)) → Reads read (IsSpaced version front back)
    Reads-spaced None reads = record { sound = tt; whole = λ x is. reads.whole x (same x is) }
    Reads-spaced (Some y) reads = record {
      sound = record { asked = asked; answer = answer; before = before; after = after; spelled = reads.sound };
      whole = λ x is. reads.whole x (same x is);
    }
