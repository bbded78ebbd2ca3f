-- The line that is written of an entry spells it.
use Rattle.std.proofs.Common.{◌≡◌, ◌≢◌, ℕ, All, List, [], ◌∷◌, ◌++◌, refl, sym, ap, subst, ◌∙◌, decimal, codes, append_assoc, arith}
use Rattle.schedule_text.specs.Fields.{fields_of}
use Rattle.journal_text.specs.declared.entry.Entry.{Entry}
use Rattle.journal_text.specs.declared.entry.Version.TheVariants.{Three}
use Rattle.journal_text.specs.Fields.{IsAddress}
use Rattle.journal_text.specs.Printing.{address_text, reply_text_without_payload, entry_text, input_fields, spaced_text}
use Rattle.journal_text.specs.Reading.{IsEntry, IsEntryLine, IsHalves, cut_at_equals}
use Rattle.journal_text.specs.Writable.{IsWritable}
use Rattle.journal_text.proofs.PlainFields.{AllFields, Field, Field-plain, Plain-append, Plain-decimal, Unequal, Unequal-append, Unequal-spaced, Whole, Whole-append, Whole-spaced, cut_once, fields_of-spaced, none_feeds}
use Rattle.journal_text.proofs.WrittenInputs.{AllFields-input, IsInput-written}
use Rattle.journal_text.proofs.WrittenReplies.{AllFields-reply, IsReply-written, reply_text_without_payload-fields, reply_fields}

module _ (x : Entry) (h : IsWritable x) where
  job : ℕ
  job = x.address.job.0

  -- `nNODE`, and what comes after it
  abbrev node : List ℕ
  node = codes "n" ++ decimal x.address.node

  abbrev told_fields : List (List ℕ)
  told_fields = (codes "j" ++ decimal x.address.job.0) ∷ decimal x.address.number ∷ input_fields x.address.job.0 x.input

  abbrev asked : List ℕ
  asked = address_text x.address ++ spaced_text (input_fields x.address.job.0 x.input)

  abbrev answer : List ℕ
  answer = reply_text_without_payload x.address.job.0 x.reply

  asked-fields : asked ≡ node ++ spaced_text told_fields
  asked-fields =
      let j = decimal x.address.job.0 in
      let k = decimal x.address.number in
      let rest = spaced_text (input_fields x.address.job.0 x.input) in
      append_assoc (node ++ codes " j" ++ j ++ codes " ") k rest
      ∙ append_assoc (node ++ codes " j" ++ j) (codes " ") (k ++ rest)
      ∙ append_assoc (node ++ codes " j") j (32 ∷ k ++ rest)
      ∙ append_assoc node (codes " j") (j ++ (32 ∷ k ++ rest))

  Field-node : Field node
  Field-node = Field-plain node (Plain-append (codes "n") (decimal x.address.node) refl (Plain-decimal x.address.node (omega (arith, h.address.0))))

  AllFields-asked : AllFields told_fields
  AllFields-asked = (
    Field-plain (codes "j" ++ decimal x.address.job.0) (Plain-append (codes "j") (decimal x.address.job.0) refl (Plain-decimal x.address.job.0 (omega (arith, h.address.1.1)))),
    (Field-plain (decimal x.address.number) (Plain-decimal x.address.number (omega (arith, h.address.2))), AllFields-input x.address.job.0 x.input h.asked),
  )

  Unequal-asked : Unequal asked
  Unequal-asked = subst Unequal (sym asked-fields) (Unequal-spaced node told_fields Field-node AllFields-asked)

  Unequal-answer : Unequal answer
  Unequal-answer =
      let reply = reply_fields x.address.job.0 x.reply in
      let fields = AllFields-reply x.address.job.0 x.reply h.answered in
      subst Unequal (sym (reply_text_without_payload-fields x.address.job.0 x.reply)) (Unequal-spaced reply.0 reply.1 fields.0 fields.1)

  -- the line is cut once
  halves : cut_at_equals (entry_text x) ≡ (asked ++ codes " ") ∷ (codes " " ++ answer) ∷ []
  halves =
      let parted : entry_text x ≡ (asked ++ codes " ") ++ (61 ∷ 32 ∷ answer) =
      append_assoc asked (codes " = ") answer ∙ sym (append_assoc asked (codes " ") (61 ∷ 32 ∷ answer)) in
      ap cut_at_equals parted
      ∙ cut_once (asked ++ codes " ") (32 ∷ answer) (Unequal-append asked (codes " ") Unequal-asked refl) (Unequal-append (codes " ") answer refl Unequal-answer)

  addressed : IsAddress node (codes "j" ++ decimal x.address.job.0) (decimal x.address.number) x.address
  addressed = record {
    at = record { exists = h.address.0; spelled = record { fits = omega (arith, h.address.0); spelled = refl } };
    named = record { positive = h.address.1.0; spelled = record { fits = h.address.1.1; spelled = refl } };
    numbered = record { fits = h.address.2; spelled = refl };
  }

  IsEntry-written : IsEntry Three (fields_of asked) (fields_of answer) x
  IsEntry-written =
      let reply = reply_fields x.address.job.0 x.reply in
      let fields = AllFields-reply x.address.job.0 x.reply h.answered in
      let front : fields_of asked ≡ node ∷ told_fields = ap fields_of asked-fields ∙ fields_of-spaced node told_fields Field-node AllFields-asked in
      let back : fields_of answer ≡ reply.0 ∷ reply.1 = ap fields_of (reply_text_without_payload-fields x.address.job.0 x.reply) ∙ fields_of-spaced reply.0 reply.1 fields.0 fields.1 in
      let P : List (List ℕ) → Type 0 = λ fs. IsEntry Three fs (fields_of answer) x in
      let Q : List (List ℕ) → Type 0 = λ fs. IsEntry Three (node ∷ told_fields) fs x in
      subst P (sym front) (subst Q (sym back) (record {
        address = x.address;
        addressed = addressed;
        spelled = record {
          at = refl;
          said = record { asked = IsInput-written x.address.job.0 x.input h.asked; answered = IsReply-written x.address.job.0 x.reply h.answered; fitting = h.fitting };
        };
      }))

  pub IsEntryLine-written : IsEntryLine Three (entry_text x) x
  IsEntryLine-written =
      let P : List (List ℕ) → Type 0 = λ hs. IsHalves Three hs x in
      subst P (sym halves) (record { asked = asked; answer = answer; before = refl; after = refl; spelled = IsEntry-written })

  Whole-asked : Whole asked
  Whole-asked = subst Whole (sym asked-fields) (Whole-spaced node told_fields Field-node AllFields-asked)

  Whole-answer : Whole answer
  Whole-answer =
      let reply = reply_fields x.address.job.0 x.reply in
      let fields = AllFields-reply x.address.job.0 x.reply h.answered in
      subst Whole (sym (reply_text_without_payload-fields x.address.job.0 x.reply)) (Whole-spaced reply.0 reply.1 fields.0 fields.1)

  -- it is one line
  pub whole-written : All (λ byte. byte ≢ 10) (entry_text x)
  whole-written = none_feeds (entry_text x) (Whole-append (asked ++ codes " = ") answer (Whole-append asked (codes " = ") Whole-asked refl) Whole-answer)
