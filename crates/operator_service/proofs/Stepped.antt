-- What was stepped for a line that was answered, if its answer couldn't be written.
use Rattle.std.proofs.Common.{◌≡◌, ℕ, List, ◌++◌, Option, Some, None, refl, ap, ◌∙◌, inl, inr}
use Rattle.std.specs.Prelude.{Bool, Result}
use Rattle.std.proofs.lemmas.List.{append-nil}
use Rattle.obj_id.specs.declared.commands.Reply.{Reply}
use Rattle.obj_id.specs.declared.commands.Usage.{Usage}
use Rattle.obj_id.specs.declared.ids.JobNo.{JobNo}
use Rattle.obj_id.specs.declared.refusals.Refusal.{Refusal}
use Rattle.node_gate.specs.declared.journaled.LiveJob.{LiveJob}
use Rattle.private_store.specs.declared.schedules.Event.{Event}
use Rattle.program_lines.specs.declared.control_lines.ControlLine.{ControlLine}
use Rattle.program_lines.specs.declared.control_lines.ControlLine.TheVariants as asked
use Rattle.program_lines.specs.declared.operator.Change.{Change}
use Rattle.program_lines.specs.declared.operator.Order.TheVariants as order
use Rattle.program_lines.specs.ControlLines.{IsControlLine}
use Rattle.operator_service.specs.Servings.{MayStep, event_of_change, steps_for}
use Rattle.operator_service.specs.Attending.{HasStepped, IsAnswer, IsAskedFor, IsHandled, skipped, long, none, answered}

module _ {T : Type 0} (ordered : ℕ → Event → Reply (List ℕ) → T → Type 0) (are_live : ℕ → List LiveJob → Type 0) (is_usage : ℕ → JobNo → Result Usage Refusal → Type 0) (all nodes count number : ℕ) (text : List ℕ) (x y : List Event) where
  change_step : (node : ℕ) (change : Change) (receipt : Option T) → IsControlLine nodes text (asked.Order (order.Change node change)) → y ≡ x ++ steps_for change receipt → MayStep (IsAskedFor nodes text) x y
  change_step node change None spelled steps = inl (steps ∙ append-nil x)
  change_step node change (Some r) spelled steps =
      inr (event_of_change change, record { what = asked.Order (order.Change node change); spelled = spelled; of = record { node = node; change = change; is_asked = refl; is = refl } }, steps)

  asked_step : (what : ControlLine) (line : List ℕ) (events : List Event) → IsControlLine nodes text what → IsAnswer ordered are_live is_usage all what line events → y ≡ x ++ events → MayStep (IsAskedFor nodes text) x y
  asked_step (asked.Order (order.Change node change)) line events spelled made steps = change_step node change made.receipt spelled (steps ∙ ap (λ es. x ++ es) made.steps)
  asked_step (asked.Order order.Close) line events spelled made steps = inl (steps ∙ ap (λ es. x ++ es) made.1 ∙ append-nil x)
  asked_step asked.CloseNow line events spelled made steps = inl (steps ∙ ap (λ es. x ++ es) made.1 ∙ append-nil x)
  asked_step (asked.Look node what) line events spelled made steps = inl (steps ∙ ap (λ es. x ++ es) made.1 ∙ append-nil x)
  asked_step (asked.Kick node job session) line events spelled made steps = inl (steps ∙ ap (λ es. x ++ es) made.1 ∙ append-nil x)

  by_handled : (line : List ℕ) (events : List Event) (last : Bool) → IsHandled (IsAnswer ordered are_live is_usage all) nodes count number text line events last → y ≡ x ++ events → MayStep (IsAskedFor nodes text) x y
  by_handled _ _ _ (skipped is) steps = inl (steps ∙ append-nil x)
  by_handled _ _ _ (long is) steps = inl (steps ∙ append-nil x)
  by_handled _ _ _ (none is) steps = inl (steps ∙ append-nil x)
  by_handled _ _ _ (answered what line events spelled made) steps = asked_step what line events spelled made steps

  pub handled_step : (line : List ℕ) (last : Bool) → HasStepped (λ events. IsHandled (IsAnswer ordered are_live is_usage all) nodes count number text line events last) x y → MayStep (IsAskedFor nodes text) x y
  handled_step line last h = by_handled line h.events last h.is h.steps
