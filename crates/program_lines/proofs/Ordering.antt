-- What a line of a schedule asks as one of the operator's.
use Rattle.std.proofs.Common.{◌≡◌, ◌≢◌, ℕ, List, Option, Some, codes, ap}
use Rattle.std.specs.Prelude.{IfSome}
use Rattle.private_store.specs.declared.schedules.Event.TheVariants as event
use Rattle.private_store.specs.declared.schedules.Step.TheVariants as «step»
use Rattle.schedule_text.specs.Fields.{Reads, fields_of}
use Rattle.schedule_text.specs.Reading.{IsLine}
use Rattle.schedule_text.specs.declared.line.Line.{Line}
use Rattle.schedule_text.specs.declared.line.Line.TheVariants as line
use Rattle.program_lines.specs.declared.operator.Admission.{Admission}
use Rattle.program_lines.specs.declared.operator.Change.TheVariants as change
use Rattle.program_lines.specs.declared.operator.Order.{Order}
use Rattle.program_lines.specs.declared.operator.Order.TheVariants as order
use Rattle.program_lines.specs.Orders.{IsAdmissionLine, IsOrder, order_of}

module _ (nodes : ℕ) (text : List ℕ) where
  is_order : (l : Option Line) → IfSome l (IsLine nodes text) → IfSome (order_of l) (IsOrder nodes text)
  is_order (Some (line.Step («step».At node (event.Requota job quota)))) is = is
  is_order (Some (line.Step («step».At node (event.JobEnd job)))) is = is
  is_order _ is = search

  -- neither `close` nor an admission
  pub reads_order : (l : Option Line) → text ≢ codes "close" → ((x : Admission) → IsAdmissionLine nodes (fields_of text) x → ⊥) → Reads l (IsLine nodes text) → Reads (order_of l) (IsOrder nodes text)
  reads_order l other none reads = record { sound = is_order l reads.sound; whole = by }
    where
      by : (o : Order) → IsOrder nodes text o → order_of l ≡ Some o
      by (order.Change node (change.Admit job quota key)) is = absurd (none (record { node = node; job = job; quota = quota; key = key }) is)
      by (order.Change node (change.Requota job quota)) is = ap order_of (reads.whole (line.Step («step».At node (event.Requota job quota))) is)
      by (order.Change node (change.End job)) is = ap order_of (reads.whole (line.Step («step».At node (event.JobEnd job))) is)
      by order.Close is = absurd (other is)
