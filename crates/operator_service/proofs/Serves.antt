-- Serving with one line more, and how it ends.
use Rattle.std.proofs.Common.{◌≡◌, ℕ, suc, ◌+◌, List, [], ◌∷◌, length, Option, Result, Ok, Err, refl, sym, ap, subst, ◌∙◌, inl, arith}
use Rattle.std.proofs.lemmas.List.{append-nil}
use Rattle.std.specs.Prelude.{IfSome}
use Rattle.std.specs.Io.BufRead.{take_through}
use Rattle.std.specs.Io.KnownBytes.{Keeps, Consumes, IsAtEnd}
use Rattle.obj_id.specs.declared.commands.Reply.{Reply}
use Rattle.private_store.specs.declared.schedules.Event.{Event}
use Rattle.program_lines.specs.declared.fault.Fault.{Fault}
use Rattle.program_lines.specs.declared.fault.Fault.TheVariants.{NotAStep, Input, Output, Socket, Folded, NoMemory}
use Rattle.operator_service.specs.declared.serving.LastLine.{LastLine}
use Rattle.operator_service.specs.declared.serving.LastLine.TheVariants.{Close, OfInput}
use Rattle.schedule_text.specs.Lines.{with_line_feed}
use Rattle.program_lines.specs.Endings.{IsReadingFault}
use Rattle.operator_service.specs.Servings.{CarriesOut, IsSpelled, StepsEnded, StepsStopped, StopsOrder, Serving, ServingEnds, IsWritten, ServedText, close_line, orders_of, answers_of, steps_for, steps_of}
use Rattle.operator_service.proofs.Stepping.{steps_then}
use Rattle.program_lines.proofs.ForCallers.{next_line}
use Rattle.store_facts.proofs.KnownBytes.{Appends-none, Appends-then, Appends-kept, Consumes-none, Consumes-then, Consumes-all}

pub begun : {T : Type 0} (ordered : ℕ → Event → Reply (List ℕ) → T → Type 0) (nodes : ℕ) (x : List Event) (a b : Option (List ℕ)) → Serving ordered nodes 1 x x a a b b
begun ordered nodes x a b = record { lines = []; counted = refl; obeyed = tt; steps = sym (append-nil x); consumed = Consumes-none a; written = Appends-none b }

module _ {T : Type 0} (ordered : ℕ → Event → Reply (List ℕ) → T → Type 0) (nodes number : ℕ) (x y : List Event) (a r b w : Option (List ℕ)) (so_far : Serving ordered nodes number x y a r b w) where
  module _ (r1 : Option (List ℕ)) (bytes : List ℕ) (read : Consumes r r1 bytes) where
    pub line_more : (z : List Event) (w1 : Option (List ℕ)) → CarriesOut ordered nodes bytes y z w w1 → Serving ordered nodes (number + 1) x z a r1 b w1
    line_more z w1 obeys =
        let counted = so_far.counted in
        record {
          lines = obeys.obeyed ∷ so_far.lines;
          counted = ap suc counted ∙ (omega arith);
          obeyed = (obeys.spelled, obeys.carried, so_far.obeyed);
          steps = steps_then x y z (steps_of so_far.lines) (steps_for obeys.obeyed.change obeys.obeyed.receipt) so_far.steps obeys.steps;
          consumed = Consumes-then a r r1 (orders_of so_far.lines) (with_line_feed obeys.obeyed.text) so_far.consumed (subst (Consumes r r1) obeys.is_text read);
          written = Appends-then b w w1 (answers_of so_far.lines) _ so_far.written obeys.written;
        }

    module _ (count : ℕ) where
      ended : (z : List Event) (w1 : Option (List ℕ)) (result : Result LastLine Fault) → StepsEnded (IsSpelled nodes bytes) y z result → IsWritten b w1 (answers_of so_far.lines) result
          → ServingEnds nodes count (suc (length so_far.lines)) a (orders_of so_far.lines) bytes result → ServedText ordered nodes count x z a r1 b w1 result
      ended z w1 result steps written ends =
          record {
            lines = so_far.lines;
            rest = bytes;
            obeyed = so_far.obeyed;
            steps = subst (λ y1. StepsEnded (IsSpelled nodes bytes) y1 z result) so_far.steps steps;
            consumed = Consumes-then a r r1 (orders_of so_far.lines) bytes so_far.consumed read;
            written = written;
            ends = ends;
          }

      pub reading_failed : (fault : Fault) → IsReadingFault fault → ServedText ordered nodes count x y a r1 b w (Err fault)
      reading_failed (NotAStep n) is = absurd is
      reading_failed Output is = absurd is
      reading_failed Socket is = absurd is
      reading_failed Folded is = absurd is
      reading_failed Input is = ended y w (Err Input) refl so_far.written tt
      reading_failed NoMemory is = ended y w (Err NoMemory) (inl refl) so_far.written tt

      pub input_ended : IsAtEnd r → ServedText ordered nodes count x y a r1 b w (Ok OfInput)
      input_ended end = ended y w (Ok OfInput) refl so_far.written (Consumes-all a r (orders_of so_far.lines) so_far.consumed end)

      pub closed : (z : List Event) (w1 : Option (List ℕ)) → bytes ≡ close_line → z ≡ y → Keeps w w1 → ServedText ordered nodes count x z a r1 b w1 (Ok Close)
      closed z w1 is same kept = ended z w1 (Ok Close) same (Appends-kept b w w1 (answers_of so_far.lines) so_far.written kept) is

      pub line_stopped : IfSome r (λ left. bytes ≡ take_through 10 left) → (z : List Event) (w1 : Option (List ℕ)) (fault : Fault) → StopsOrder nodes count number bytes w w1 fault
          → StepsStopped (IsSpelled nodes bytes) y z fault → ServedText ordered nodes count x z a r1 b w1 (Err fault)
      line_stopped whole z w1 (NotAStep n) stops steps =
          ended z w1 (Err (NotAStep n)) steps (Appends-kept b w w1 (answers_of so_far.lines) so_far.written stops.2) (stops.0 ∙ sym so_far.counted, stops.1, next_line a r (orders_of so_far.lines) bytes so_far.consumed whole)
      line_stopped whole z w1 Input stops steps = absurd stops
      line_stopped whole z w1 Socket stops steps = absurd stops
      line_stopped whole z w1 Folded stops steps = absurd stops
      line_stopped whole z w1 Output stops steps = ended z w1 (Err Output) steps tt tt
      line_stopped whole z w1 NoMemory stops steps = ended z w1 (Err NoMemory) steps (Appends-kept b w w1 (answers_of so_far.lines) so_far.written stops) tt

  pub too_many : (count : ℕ) → ServedText ordered nodes count x y a r b w (Err Input)
  too_many count = reading_failed r [] (Consumes-none r) count Input tt
