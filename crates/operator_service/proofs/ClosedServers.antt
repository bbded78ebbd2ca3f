-- What is answered to `close`.
use Rattle.std.proofs.Common.{◌≡◌, ℕ, false, true, List, [], Result, Ok, Err, refl, subst, sym, inl}
use Rattle.std.specs.Prelude.{IfOk}
use Rattle.std.specs.String.{string_bytes}
use Rattle.std.proofs.lemmas.List.{append-nil}
use Rattle.obj_id.specs.declared.commands.Reply.{Reply}
use Rattle.obj_id.specs.declared.commands.Usage.{Usage}
use Rattle.obj_id.specs.declared.ids.JobNo.{JobNo}
use Rattle.obj_id.specs.declared.refusals.Refusal.{Refusal}
use Rattle.node_gate.specs.declared.journaled.LiveJob.{LiveJob}
use Rattle.private_store.specs.declared.schedules.Event.{Event}
use Rattle.program_lines.specs.declared.control_lines.ControlLine.{ControlLine}
use Rattle.program_lines.specs.declared.control_lines.ControlLine.TheVariants as asked
use Rattle.program_lines.specs.declared.operator.Order.TheVariants as order
use Rattle.operator_service.specs.declared.attending.Answer.{Answer}
use Rattle.operator_service.specs.declared.attending.Closed.{Closed}
use Rattle.operator_service.specs.Attending.{IsAnswer, IsAnswerMade, IsAnswerOf, IsClosed, closing_line}

module _ {T E : Type 0} (ordered : ℕ → Event → Reply (List ℕ) → T → Type 0) (are_live : ℕ → List LiveJob → Type 0) (is_usage : ℕ → JobNo → Result Usage Refusal → Type 0) (nodes number : ℕ) (x : List Event) (what : ControlLine) where
  pub close_answered : what ≡ asked.Order order.Close → (c : Closed) → IsClosed nodes false c → (r : Result Answer E) → IfOk r (λ a. (string_bytes a.line ≡ closing_line c.report) × (a.is_last ≡ true)) → IfOk r (IsAnswerMade (IsAnswer ordered are_live is_usage nodes) nodes number what x x)
  close_answered is c closed (Ok a) made =
      inl
      (subst (λ w. IsAnswerOf (IsAnswer ordered are_live is_usage nodes) w x x a) (sym is)
      (record { line = record { events = []; steps = sym (append-nil x); is = (record { closed = c; is_closed = closed; is = made.0 }, refl) }; last = made.1 }))
  close_answered is c closed (Err e) made = tt
