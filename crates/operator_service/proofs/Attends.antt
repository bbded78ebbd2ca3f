-- A control connection with one line more, and how it ends.
use Rattle.std.proofs.Common.{◌≡◌, ℕ, suc, ◌+◌, Bool, true, List, [], ◌∷◌, ◌++◌, Option, Some, Result, Ok, Err, refl, sym, ap, subst, ◌∙◌, inl, inr, arith}
use Rattle.std.proofs.lemmas.List.{append-nil}
use Rattle.std.specs.Prelude.{⊤}
use Rattle.std.specs.Io.KnownBytes.{Consumes}
use Rattle.store_facts.proofs.KnownBytes.{Appends-none, Appends-then, Appends-kept, Consumes-none, Consumes-then}
use Rattle.program_lines.specs.declared.control_lines.ControlLine.{ControlLine}
use Rattle.program_lines.specs.declared.fault.Fault.{Fault}
use Rattle.program_lines.specs.declared.fault.Fault.TheVariants.{NotAStep, Input, Output, Socket, Folded, NoMemory}
use Rattle.program_lines.specs.declared.taking.LineTaken.{LineTaken}
use Rattle.program_lines.specs.declared.taking.LineTaken.TheVariants.{Line, TooLong}
use Rattle.schedule_text.specs.Lines.{with_line_feed}
use Rattle.program_lines.specs.Endings.{IsReadingFault}
use Rattle.private_store.specs.declared.schedules.Event.{Event}
use Rattle.operator_service.specs.Servings.{IsWritten, MayStep, StepsEnded, StopsReply}
use Rattle.operator_service.specs.Attending.{Attending, AttendingEnds, HasAttended, IsAskedFor, IsAskedLine, IsHandled, IsAnswerText, Replies, answers_of, steps_of, texts_of}
use Rattle.operator_service.proofs.Stepping.{steps_then}
use Rattle.program_lines.specs.TakenLines.{HasTakenPart, HasTakenAll, IsLineTaken, IsUnbroken}

pub begun : (answers : ControlLine → List ℕ → List Event → Type 0) (nodes count : ℕ) (x : List Event) (a b : Option (List ℕ)) → Attending answers nodes count 1 x x a a b b
begun answers nodes count x a b = record { lines = []; counted = refl; attended = tt; steps = sym (append-nil x); consumed = Consumes-none a; written = Appends-none b }

-- the text of a line that was taken
pub record IsOneText (r r1 : Option (List ℕ)) (line : List ℕ) (taken : LineTaken) : Type 0 where
  pub text : List ℕ
  pub is_text : IsAnswerText taken line text
  pub unbroken : IsUnbroken text
  pub consumed : Consumes r r1 (with_line_feed text)

pub one_text : (r r1 : Option (List ℕ)) (line : List ℕ) (taken : LineTaken) → IsLineTaken r r1 line (Some taken) → IsOneText r r1 line taken
one_text r r1 line Line is = record { text = line; is_text = refl; unbroken = is.unbroken; consumed = is.consumed }
one_text r r1 line TooLong is = record { text = is.line; is_text = is.long; unbroken = is.unbroken; consumed = is.consumed }

module _ (answers : ControlLine → List ℕ → List Event → Type 0) (nodes count number : ℕ) (x y : List Event) (a r b w : Option (List ℕ)) (so_far : Attending answers nodes count number x y a r b w) where
  ended : (rest : List ℕ) (z : List Event) (r1 w1 : Option (List ℕ)) (result : Result ⊤ Fault) → StepsEnded (IsAskedLine nodes rest) y z result → Consumes r r1 rest
      → IsWritten b w1 (answers_of so_far.lines) result → AttendingEnds r1 so_far.lines rest result → HasAttended answers nodes count x z a r1 b w1 result
  ended rest z r1 w1 result steps read written ends =
      record {
        lines = so_far.lines;
        rest = rest;
        attended = so_far.attended;
        steps = subst (λ y1. StepsEnded (IsAskedLine nodes rest) y1 z result) so_far.steps steps;
        consumed = Consumes-then a r r1 (texts_of so_far.lines) rest so_far.consumed read;
        written = written;
        ends = ends;
      }

  pub reading_failed : (r1 : Option (List ℕ)) (fault : Fault) → IsReadingFault fault → HasTakenPart r r1 → HasAttended answers nodes count x y a r1 b w (Err fault)
  reading_failed r1 (NotAStep n) is part = absurd is
  reading_failed r1 Output is part = absurd is
  reading_failed r1 Socket is part = absurd is
  reading_failed r1 Folded is part = absurd is
  reading_failed r1 Input is part = ended part.part y r1 w (Err Input) refl part.consumed so_far.written tt
  reading_failed r1 NoMemory is part = ended part.part y r1 w (Err NoMemory) (inl refl) part.consumed so_far.written tt

  pub input_ended : (r1 : Option (List ℕ)) → HasTakenAll r r1 → HasAttended answers nodes count x y a r1 b w (Ok tt)
  input_ended r1 all = ended all.part y r1 w (Ok tt) refl all.consumed so_far.written (inr (all.at_end, all.unbroken))

  pub too_many : HasAttended answers nodes count x y a r b w (Err Input)
  too_many = ended [] y r w (Err Input) refl (Consumes-none r) so_far.written tt

  module _ (r1 : Option (List ℕ)) (line : List ℕ) (taken : LineTaken) (one : IsOneText r r1 line taken) where
    asked_line : (z : List Event) → MayStep (IsAskedFor nodes one.text) y z → MayStep (IsAskedLine nodes (with_line_feed one.text)) y z
    asked_line z (inl same) = inl same
    asked_line z (inr (e, asks, more)) = inr (e, record { text = one.text; is_text = refl; asks = asks }, more)

    pub line_stopped : (z : List Event) (w1 : Option (List ℕ)) (fault : Fault) → StopsReply w w1 fault → ((text : List ℕ) → IsAnswerText taken line text → MayStep (IsAskedFor nodes text) y z)
        → HasAttended answers nodes count x z a r1 b w1 (Err fault)
    line_stopped z w1 (NotAStep n) stops may = absurd stops
    line_stopped z w1 Input stops may = absurd stops
    line_stopped z w1 Socket stops may = absurd stops
    line_stopped z w1 Folded stops may = absurd stops
    line_stopped z w1 Output stops may = ended (with_line_feed one.text) z r1 w1 (Err Output) (asked_line z (may one.text one.is_text)) one.consumed tt tt
    line_stopped z w1 NoMemory stops may = ended (with_line_feed one.text) z r1 w1 (Err NoMemory) (asked_line z (may one.text one.is_text)) one.consumed (Appends-kept b w w1 (answers_of so_far.lines) so_far.written stops) tt

    module _ (z : List Event) (w1 : Option (List ℕ)) (is_last : Bool) (replies : (text : List ℕ) → IsAnswerText taken line text → Replies answers nodes count number text y z w w1 is_last) where
      pub line_more : Attending answers nodes count (number + 1) x z a r1 b w1
      line_more =
          let response = replies one.text one.is_text in
          let counted = so_far.counted in
          record {
            lines = record { text = one.text; answer = response.answer; events = response.handled.events; is_last = is_last } ∷ so_far.lines;
            counted = ap suc counted ∙ (omega arith);
            attended = (one.unbroken, subst (λ n. IsHandled answers nodes count n one.text response.answer response.handled.events is_last) (sym so_far.counted) response.handled.is, so_far.attended);
            steps = steps_then x y z (steps_of so_far.lines) response.handled.events so_far.steps response.handled.steps;
            consumed = Consumes-then a r r1 (texts_of so_far.lines) (with_line_feed one.text) so_far.consumed one.consumed;
            written = Appends-then b w w1 (answers_of so_far.lines) response.answer so_far.written response.written;
          }

      -- the same, and it is the last
      pub line_last : is_last ≡ true → HasAttended answers nodes count x z a r1 b w1 (Ok tt)
      line_last last =
          let response = replies one.text one.is_text in
          record {
            lines = record { text = one.text; answer = response.answer; events = response.handled.events; is_last = is_last } ∷ so_far.lines;
            rest = [];
            attended = (one.unbroken, subst (λ n. IsHandled answers nodes count n one.text response.answer response.handled.events is_last) (sym so_far.counted) response.handled.is, so_far.attended);
            steps = steps_then x y z (steps_of so_far.lines) response.handled.events so_far.steps response.handled.steps;
            consumed = Consumes-then a r1 r1 (texts_of so_far.lines ++ with_line_feed one.text) [] (Consumes-then a r r1 (texts_of so_far.lines) (with_line_feed one.text) so_far.consumed one.consumed) (Consumes-none r1);
            written = Appends-then b w w1 (answers_of so_far.lines) response.answer so_far.written response.written;
            ends = inl (last, refl);
          }
