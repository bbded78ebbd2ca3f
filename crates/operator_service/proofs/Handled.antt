-- How a line of a control connection was answered.
use Rattle.std.proofs.Common.{◌≡◌, ℕ, Bool, true, false, List, [], Option, Some, None, Result, Ok, Err, refl, sym, subst, ◌∙◌, inl, inr}
use Rattle.std.specs.Prelude.{IfOk, IfSome, OnErr}
use Rattle.std.proofs.lemmas.List.{append-nil}
use Rattle.private_store.specs.declared.schedules.Event.{Event}
use Rattle.operator_service.specs.Servings.{MayStep}
use Rattle.std.specs.Str.{IsUtf8}
use Rattle.std.specs.String.{string_bytes}
use Rattle.store_facts.proofs.Tests.{none_some}
use Rattle.schedule_text.specs.Fields.{Reads}
use Rattle.schedule_text.specs.Reading.{is_skipped}
use Rattle.program_lines.specs.declared.control_lines.ControlLine.{ControlLine}
use Rattle.operator_service.specs.declared.attending.Answer.{Answer}
use Rattle.program_lines.specs.declared.taking.LineTaken.{LineTaken}
use Rattle.program_lines.specs.declared.taking.LineTaken.TheVariants.{Line, TooLong}
use Rattle.program_lines.specs.ControlLines.{IsControlLine, IsAskedWithin}
use Rattle.operator_service.specs.Attending.{HasStepped, IsAnswered, IsAskedFor, IsChangeOf, IsHandled, IsAnswerMade, IsNone, IsAnswerText, is_closing, no_order_line, skipped, long, none, answered}

module _ (answers : ControlLine → List ℕ → List Event → Type 0) (nodes count number : ℕ) (x y : List Event) where
  -- by what it was answered, and whether it was the last
  by_answer : (text line line1 : List ℕ) (events : List Event) (last last1 : Bool) → line1 ≡ line → last1 ≡ last → IsHandled answers nodes count number text line events last → IsHandled answers nodes count number text line1 events last1
  by_answer text line line1 events last last1 e f h = subst (λ l. IsHandled answers nodes count number text l events last1) (sym e) (subst (λ b. IsHandled answers nodes count number text line events b) (sym f) h)

  -- without a step
  unstepped : (text line line1 : List ℕ) (last last1 : Bool) → y ≡ x → line1 ≡ line → last1 ≡ last → IsHandled answers nodes count number text line [] last → HasStepped (λ events. IsHandled answers nodes count number text line1 events last1) x y
  unstepped text line line1 last last1 same e f h = record { events = []; steps = same ∙ sym (append-nil x); is = by_answer text line line1 [] last last1 e f h }

  pub skipped_line : (text line : List ℕ) → y ≡ x → line ≡ [] → is_skipped text ≡ true → HasStepped (λ events. IsHandled answers nodes count number text line events false) x y
  skipped_line text line same e is = unstepped text [] line false false same e refl (skipped is)

  -- that it is none
  none_answered : (text : List ℕ) (a : Answer) → y ≡ x → IsHandled answers nodes count number text (no_order_line number) [] false → IsNone number a → IsAnswered answers nodes count number text x y a
  none_answered text a same h is = unstepped text (no_order_line number) (string_bytes a.line) false a.is_last same is.line is.further h

  pub long_answered : {E : Type 0} (taken : LineTaken) → taken ≡ TooLong → (line : List ℕ) → y ≡ x → (r : Result Answer E) → IfOk r (IsNone number) → IfOk r (λ a. (text : List ℕ) → IsAnswerText taken line text → IsAnswered answers nodes count number text x y a)
  long_answered taken is line same (Ok a) made = λ text h. none_answered text a same (long (subst (λ t. IsAnswerText t line text) is h)) made
  long_answered taken is line same (Err e) made = tt

  pub line_answered : {E : Type 0} (taken : LineTaken) → taken ≡ Line → (line : List ℕ) (r : Result Answer E) → IfOk r (IsAnswered answers nodes count number line x y) → IfOk r (λ a. (text : List ℕ) → IsAnswerText taken line text → IsAnswered answers nodes count number text x y a)
  line_answered taken is line (Ok a) made = λ text h. subst (λ t. IsAnswered answers nodes count number t x y a) (sym (subst (λ t. IsAnswerText t line text) is h)) made
  line_answered taken is line (Err e) made = tt

  pub line_stopped : {A E : Type 0} (taken : LineTaken) → taken ≡ Line → (line : List ℕ) (r : Result A E) → OnErr r (MayStep (IsAskedFor nodes line) x y) → OnErr r ((text : List ℕ) → IsAnswerText taken line text → MayStep (IsAskedFor nodes text) x y)
  line_stopped taken is line (Ok a) may = tt
  line_stopped taken is line (Err e) may = λ text h. subst (λ t. MayStep (IsAskedFor nodes t) x y) (sym (subst (λ t. IsAnswerText t line text) is h)) may

  module _ (text : List ℕ) (speaks : is_skipped text ≡ false) where
    pub other_answered : {E : Type 0} (found : Option ControlLine) → found ≡ None → (IsUtf8 text → Reads found (IsControlLine nodes text)) → y ≡ x → (r : Result Answer E) → IfOk r (IsNone number) → IfOk r (IsAnswered answers nodes count number text x y)
    other_answered found is whole same (Err e) made = tt
    other_answered found is whole same (Ok a) made = none_answered text a same (none (record { speaks = speaks; none = λ u other of within. none_some other (sym is ∙ (whole u).whole other of) })) made

    module _ (found : Option ControlLine) (a : ControlLine) (is : found ≡ Some a) (sound : IfSome found (IsControlLine nodes text)) (whole : IsUtf8 text → Reads found (IsControlLine nodes text)) where
      asked_is : IsControlLine nodes text a
      asked_is = subst (λ f. IfSome f (IsControlLine nodes text)) is sound

      by_made : (made : Answer) → IsAnswerMade answers count number a x y made → IsAnswered answers nodes count number text x y made
      by_made made (inl of) =
          let events = of.line.events in
          let line = string_bytes made.line in
          record { events = events; steps = of.line.steps; is = by_answer text line line events (is_closing a) made.is_last refl of.last (answered a line events asked_is of.line.is) }
      by_made made (inr of) =
          none_answered text made of.2 (none (record { speaks = speaks; none = λ u other spelled within. of.0 (subst (IsAskedWithin count) (same other (sym ((whole u).whole other spelled) ∙ is)) within) })) of.1
        where
          same : (other : ControlLine) → Some other ≡ Some a → other ≡ a
          same other e = cc

      pub asked_answered : {E : Type 0} (r : Result Answer E) → IfOk r (IsAnswerMade answers count number a x y) → IfOk r (IsAnswered answers nodes count number text x y)
      asked_answered (Ok z) made = by_made z made
      asked_answered (Err e) made = tt

      asked_for : MayStep (IsChangeOf a) x y → MayStep (IsAskedFor nodes text) x y
      asked_for (inl same) = inl same
      asked_for (inr (e, of, more)) = inr (e, record { what = a; spelled = asked_is; of = of }, more)

      pub asked_stopped : {A E : Type 0} (r : Result A E) → OnErr r (MayStep (IsChangeOf a) x y) → OnErr r (MayStep (IsAskedFor nodes text) x y)
      asked_stopped (Ok z) may = tt
      asked_stopped (Err e) may = asked_for may
