-- The entry of an address.
use Rattle.std.proofs.Common.{◌≡◌, ℕ, List, Option, Some, None, IfSome, refl, subst}
use Rattle.obj_id.specs.declared.commands.Reply.{Reply}
use Rattle.schedule_text.specs.Fields.{Reads}
use Rattle.journal_text.specs.declared.entry.Address.{Address}
use Rattle.journal_text.specs.declared.entry.Entry.{Entry}
use Rattle.journal_text.specs.declared.entry.LineInput.{LineInput}
use Rattle.journal_text.specs.declared.entry.Version.{Version}
use Rattle.journal_text.specs.Reading.{IsEntryAt, IsInputRead}

module _ (version : Version) (address : Address) (fields answer : List (List ℕ)) (found : Option (LineInput × Reply ℕ)) (says : Reads found (IsInputRead version address.job.0 fields answer)) where
  pub Reads-unsaid : found ≡ None → Reads {X = Entry} None (IsEntryAt version address fields answer)
  Reads-unsaid none = record {
    sound = tt;
    whole = λ x is. let whole = says.whole _ is.said in absurd (cc);
  }

  pub Reads-entry : (y : LineInput × Reply ℕ) → found ≡ Some y → Reads (Some (record { address = address; input = y.0; reply = y.1 })) (IsEntryAt version address fields answer)
  Reads-entry y is_found = record {
    sound = let P : Option (LineInput × Reply ℕ) → Type 0 = λ o. IfSome o (IsInputRead version address.job.0 fields answer) in record { at = refl; said = subst P is_found says.sound };
    whole = λ x is.
        let whole = says.whole _ is.said in
        let same : y ≡ (x.input, x.reply) = cc in
        λ i. Some (record { address = is.at i; input = (same i).0; reply = (same i).1 });
  }
