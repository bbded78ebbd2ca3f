-- Reading what is made of something that is read.
use Rattle.std.proofs.Common.{◌≡◌, Option, Some, None, IfSome, refl, ap, subst, ◌∙◌}
use Rattle.schedule_text.specs.Fields.{IsFieldMade, Reads}

module _ {A X : Type 0} (IsSpelled : A → Type 0) (make : A → X) (found : Option A) (reads : Reads found IsSpelled) where
  pub Reads-unmade : found ≡ None → Reads {X = X} None (IsFieldMade IsSpelled make)
  Reads-unmade none = record {
    sound = tt;
    whole = λ x is. let whole = reads.whole is.part is.spelled in absurd (cc);
  }

  pub Reads-made : (a : A) → found ≡ Some a → Reads (Some (make a)) (IsFieldMade IsSpelled make)
  Reads-made a is_found = record {
    sound = let P : Option A → Type 0 = λ o. IfSome o IsSpelled in record { part = a; spelled = subst P is_found reads.sound; made = refl };
    whole = λ x is.
        let whole = reads.whole is.part is.spelled in
        let same : a ≡ is.part = cc in
        ap Some (ap make same ∙ is.made);
  }
