-- What an actor has stepped, after one step more or none.
use Rattle.std.proofs.Common.{◌≡◌, ℕ, List, ◌++◌, Option, Some, None, sym, ap, ◌∙◌, inl, inr}
use Rattle.std.specs.Prelude.{MatchOption, IfSome, OnOk, Result, Ok, Err}
use Rattle.std.specs.Io.KnownBytes.{Appends}
use Rattle.std.proofs.lemmas.List.{append-nil, append_assoc}
use Rattle.obj_id.specs.declared.commands.Reply.{Reply}
use Rattle.obj_id.specs.declared.commands.Reply.TheVariants as reply
use Rattle.obj_id.specs.declared.refusals.Refusal.TheVariants as refusal
use Rattle.private_store.specs.declared.schedules.Event.{Event}
use Rattle.private_store.specs.declared.schedules.StepAnswer.TheVariants.{Response}
use Rattle.schedule_text.specs.declared.prefixes.Prefix.TheVariants.{Operator}
use Rattle.schedule_text.specs.Printing.{line_text}
use Rattle.node_gate.specs.Actors.{ActsIf}
use Rattle.program_lines.specs.declared.fault.Fault.{Fault}
use Rattle.program_lines.specs.declared.fault.Fault.TheVariants.{NotAStep, Input, Output, Socket, Folded, NoMemory}
use Rattle.program_lines.specs.declared.operator.Change.{Change}
use Rattle.program_lines.specs.declared.operator.Order.TheVariants as order
use Rattle.program_lines.specs.Orders.{IsOrder}
use Rattle.schedule_text.specs.Lines.{with_line_feed}
use Rattle.operator_service.specs.Servings.{IsCarriedOut, IsOrderedAt, IsSpelled, MayStep, Replies, StepsStopped, StopsReply, event_of_change, steps_for}

-- some events, and then others
pub steps_then : (x y z a b : List Event) → y ≡ x ++ a → z ≡ y ++ b → z ≡ x ++ (a ++ b)
steps_then x y z a b first then = then ∙ ap (λ l. l ++ b) first ∙ append_assoc x a b

-- of a change with its receipt
pub stepped_for : {T : Type 0} (asked : Change) (receipt : Option T) (x y : List Event) → ActsIf receipt (event_of_change asked) x y → y ≡ x ++ steps_for asked receipt
stepped_for asked None x y acts = acts ∙ sym (append-nil x)
stepped_for asked (Some r) x y acts = acts

-- a change whose receipt is of this node
pub carried_at : {T : Type 0} (receipt_of : Event → Reply (List ℕ) → T → Type 0) (made_at : T → ℕ) (node : ℕ) (asked : Change) (response : Reply (List ℕ)) (receipt : Option T)
    → MatchOption receipt (response ≡ reply.Refused refusal.NoMemory) (receipt_of (event_of_change asked) response) → IfSome receipt (λ r. made_at r ≡ node) → IsCarriedOut (IsOrderedAt receipt_of made_at) node asked response receipt
carried_at receipt_of made_at node asked response None carried at_node = carried
carried_at receipt_of made_at node asked response (Some r) carried at_node = (carried, at_node)

-- and its answer is written
pub replied : {T U E : Type 0} (ordered : ℕ → Event → Reply (List ℕ) → T → Type 0) (node : ℕ) (asked : Change) (response : Reply (List ℕ)) (receipt : Option T) (x y : List Event) (w w1 : Option (List ℕ)) (r : Result U E)
    → IsCarriedOut ordered node asked response receipt → ActsIf receipt (event_of_change asked) x y → OnOk r (Appends w w1 (line_text (Operator node) (Response response))) → OnOk r (Replies ordered node asked x y w w1)
replied ordered node asked response receipt x y w w1 (Ok u) carried acts written = record { reply = response; receipt = receipt; carried = carried; steps = stepped_for asked receipt x y acts; written = written }
replied ordered node asked response receipt x y w w1 (Err e) carried acts written = tt

-- for a line that spells the change
pub spelled_step : (nodes : ℕ) (bytes text : List ℕ) (node : ℕ) (asked : Change) (x y : List Event) → bytes ≡ with_line_feed text → IsOrder nodes text (order.Change node asked) → MayStep (λ e. e ≡ event_of_change asked) x y → MayStep (IsSpelled nodes bytes) x y
spelled_step nodes bytes text node asked x y is_text spelled (inl same) = inl same
spelled_step nodes bytes text node asked x y is_text spelled (inr (e, is, more)) = inr (e, record { text = text; node = node; change = asked; is_text = is_text; spelled = spelled; is = is }, more)

-- at which the serving stops without memory or with its output
pub stopped_step : (asks : Event → Type 0) (x y : List Event) (b w : Option (List ℕ)) (fault : Fault) → StopsReply b w fault → MayStep asks x y → StepsStopped asks x y fault
stopped_step asks x y b w (NotAStep n) stops may = absurd stops
stopped_step asks x y b w Input stops may = absurd stops
stopped_step asks x y b w Socket stops may = absurd stops
stopped_step asks x y b w Folded stops may = absurd stops
stopped_step asks x y b w Output stops may = may
stopped_step asks x y b w NoMemory stops may = may
